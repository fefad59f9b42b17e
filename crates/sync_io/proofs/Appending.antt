-- Bytes that are appended a prefix at a time.
use Rattle.std.proofs.Common.{◌≡◌, ℕ, List, ◌++◌, Option, ap, sym, ◌∙◌, take, drop, append_assoc}
use Rattle.std.proofs.lemmas.List.{take-append-drop}
use Rattle.std.proofs.KnownBytes.{Appends-trans}
use Rattle.std.specs.Io.KnownBytes.{Appends}

-- of all the bytes a prefix was appended, and the rest is still to come
pub record AppendedUpTo (rest : List ℕ) (old new : Option (List ℕ)) (bytes : List ℕ) : Type 0 where
  pub prefix : List ℕ
  pub whole : bytes ≡ prefix ++ rest
  pub appended : Appends old new prefix

-- the next bytes of the rest were appended too
pub AppendedUpTo-drop : {bytes rest : List ℕ} {a b : Option (List ℕ)}
    → AppendedUpTo rest a b bytes → (n : ℕ) (c : Option (List ℕ)) → Appends b c (take n rest)
    → AppendedUpTo (drop n rest) a c bytes
AppendedUpTo-drop {bytes} {rest} {a} {b} so_far n c more = record {
  prefix = so_far.prefix ++ take n rest;
  whole = so_far.whole ∙ ap (λ r. so_far.prefix ++ r) (sym (take-append-drop n rest))
      ∙ sym (append_assoc so_far.prefix (take n rest) (drop n rest));
  appended = Appends-trans a b c so_far.prefix (take n rest) so_far.appended more;
}
