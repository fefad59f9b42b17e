-- Accepted writes leave entries that can be sent, one after another.
use Rattle.std.proofs.Common.{◌≡◌, ◌<◌, ◌+◌, ◌^◌, ℕ, zero, suc, List, [], ◌∷◌, ◌++◌, length, take, get_or, refl, inl, inr, subst, arith}
use Rattle.std.specs.Prelude.{false}
use Rattle.std.specs.List.{All}
use Rattle.std.proofs.lemmas.Bool.{cases_lt}
use Rattle.std.proofs.lemmas.List.{take-take, take-append-le, get_or-take, get_or_append_left, get_or_push, length-take, length-append}
use Rattle.std.proofs.lemmas.List.Elements.{All-nil}
use Rattle.dn_names.specs.Names.{TypeAndValue}
use Rattle.entry_tree.specs.declared.entry.Entry.{Entry}
use Rattle.entry_tree.specs.declared.op.Write.{Write}
use Rattle.entry_tree.specs.Effects.{effect}
use Rattle.entry_tree.specs.History.{identity, state_from, state_of}
use Rattle.entry_tree.specs.Sound.{is_commit}
use Rattle.directory_writes.specs.Directory.{AreAccepted, AreAcceptedFrom}
use Rattle.directory_writes.specs.Formed.{AreFormed}
use Rattle.directory_laws.specs.Accepted.{IsAcceptedFromClient, WereAccepted}
use Rattle.sync_wire.specs.CanBeSent.{CanBeSent}
use Rattle.directory_laws.proofs.Writing.{sent-effect}

identity-below : (history number : ℕ) → identity history number < 2 ^ 128
identity-below history number = omega arith

-- each of these writes was accepted in the entries that those before it left
abbrev pub AllAccepted : List (List TypeAndValue) → ℕ → List Entry → ℕ → List Write → Type 0
AllAccepted suffix history entries before writes =
    (number : ℕ) (other : Write) → number < length writes → IsAcceptedFromClient suffix (state_from history entries before (take number writes)) (get_or writes number other)

sent-state_from : (writes : List Write) (suffix : List (List TypeAndValue)) (history : ℕ) (entries : List Entry) (before : ℕ) → All CanBeSent entries
    → AllAccepted suffix history entries before writes → All CanBeSent (state_from history entries before writes)
unfolding state_from
sent-state_from [] suffix history entries before sound accepted = sound
sent-state_from (write ∷ writes) suffix history entries before sound accepted =
    let uuid = identity history (before + 1) in
    sent-state_from writes suffix history (effect entries write.op uuid write.csn) (before + 1)
    (sent-effect suffix entries write uuid sound (accepted 0 write (omega arith)) (identity-below history (before + 1)))
    (λ number other low. accepted (suc number) other (omega arith))

-- the first writes of a list were accepted too
pub accepted-take : (suffix : List (List TypeAndValue)) (history : ℕ) (writes : List Write) (count : ℕ) → WereAccepted suffix history writes
    → AllAccepted suffix history [] 0 (take count writes)
accepted-take suffix history writes count accepted number other low =
    let within : number < count = omega (arith, length-take count writes) in
    rw (take-take number count writes (omega arith), get_or-take count writes number other within) (accepted number other (omega (arith, length-take count writes)))

-- each entry of each state can be sent
pub sent-state_of : (suffix : List (List TypeAndValue)) (history : ℕ) (writes : List Write) (number : ℕ) → WereAccepted suffix history writes → All CanBeSent (state_of history writes number)
sent-state_of suffix history writes number accepted =
    sent-state_from (take number writes) suffix history [] 0 (All-nil CanBeSent) (accepted-take suffix history writes number accepted)

-- ---- one more write

-- accepted writes and one more that is accepted are accepted writes
pub WereAccepted-push : (suffix : List (List TypeAndValue)) (history : ℕ) (writes : List Write) (write : Write) → WereAccepted suffix history writes
    → IsAcceptedFromClient suffix (state_of history writes (length writes)) write → WereAccepted suffix history (writes ++ write ∷ [])
WereAccepted-push suffix history writes write accepted last number other low =
    elim (cases_lt number (length writes)) [
      | inl earlier ↦
          rw (take-append-le number writes (write ∷ []) (omega arith), get_or_append_left writes (write ∷ []) other number earlier) (accepted number other earlier)
      | inr past ↦
          let here : number ≡ length writes = omega (arith, length-append writes (write ∷ [])) in
          rw (here, take-append-le (length writes) writes (write ∷ []) (omega arith), get_or_push writes write other (length writes) refl) last
    ]

-- ---- the writes that a directory keeps

kept_from : (suffix : List (List TypeAndValue)) (history : ℕ) (entries : List Entry) (before : ℕ) (writes : List Write) → AreAcceptedFrom suffix history entries before writes → AreFormed writes
    → All (λ write. is_commit write.op ≡ false) writes → AllAccepted suffix history entries before writes
unfolding state_from
kept_from suffix history entries before [] each formed asked number other low = absurd (omega (arith, low))
kept_from suffix history entries before (write ∷ writes) each formed asked zero other low = record {
  formed = (formed zero other low).op (asked zero other low);
  sound = each.0.sound;
  is_csn = (formed zero other low).csn;
  free = each.0.unopposed;
}
kept_from suffix history entries before (write ∷ writes) each formed asked (suc number) other low =
    kept_from suffix history (effect entries write.op (identity history (before + 1)) write.csn) (before + 1) writes each.1
    (λ n o less. formed (suc n) o (omega (arith, less))) (λ n o less. asked (suc n) o (omega (arith, less))) number other (omega (arith, low))

-- where none is a commit, each was accepted in the entries that those before it left
pub WereAccepted-kept : (suffix : List (List TypeAndValue)) (history : ℕ) (writes : List Write) → AreAccepted suffix history writes → AreFormed writes
    → All (λ write. is_commit write.op ≡ false) writes → WereAccepted suffix history writes
WereAccepted-kept suffix history writes accepted formed asked = kept_from suffix history [] 0 writes accepted formed asked

-- ---- fewer writes

-- the first of accepted writes were accepted
pub WereAccepted-prefix : (suffix : List (List TypeAndValue)) (history : ℕ) (writes more : List Write) → WereAccepted suffix history (writes ++ more) → WereAccepted suffix history writes
WereAccepted-prefix suffix history writes more accepted number other low =
    subst (IsAcceptedFromClient suffix (state_of history writes number)) (get_or_append_left writes more other number low)
    (subst (λ before. IsAcceptedFromClient suffix (state_from history [] 0 before) (get_or (writes ++ more) number other)) (take-append-le number writes more (omega (arith, low)))
    (accepted number other (omega (arith, low, length-append writes more))))
