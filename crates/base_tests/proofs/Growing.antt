-- Pairs that may have gained one.
use Rattle.std.proofs.Common.{◌≡◌, ℕ, Bool, true, false, if◌then◌else◌, [], ◌∷◌, ◌++◌, map, Vec, Global, sym, refl, ap, ◌∙◌, append-nil}
use Rattle.std.proofs.lemmas.List.{map-append}
use Rattle.turn_cell.specs.Rule.{Grows}
use Rattle.base_tests.specs.Entries.{entries_of, no_share}
use Rattle.base_tests.specs.declared.pairs.Pairs.{Pairs}

-- a pair that was put at the end, or none where memory ran out
pub pushed : (before : Pairs) (list : Vec (ℕ × ℕ) Global) (ok : Bool) (number value : ℕ)
    → list.items ≡ (if ok then before.list.items ++ (number, value) ∷ [] else before.list.items)
    → Grows entries_of no_share number before (record { list = list })
pushed before list true number value is = record {
  added = (value, number) ∷ [];
  entries = ap (map (λ (pair : ℕ × ℕ). (pair.1, pair.0))) is
      ∙ map-append (λ (pair : ℕ × ℕ). (pair.1, pair.0)) before.list.items ((number, value) ∷ []);
  own = (refl, tt);
  others = λ other differs. refl;
}
pushed before list false number value is = record {
  added = [];
  entries = ap (map (λ (pair : ℕ × ℕ). (pair.1, pair.0))) is ∙ sym (append-nil (entries_of before));
  own = tt;
  others = λ other differs. refl;
}

-- none was gained
pub unchanged : (number : ℕ) (before after : Pairs) → after ≡ before → Grows entries_of no_share number before after
unchanged number before after same = record {
  added = [];
  entries = ap entries_of same ∙ sym (append-nil (entries_of before));
  own = tt;
  others = λ other differs. refl;
}
