-- The identities that were noted after a write, over two lists of notes.
use Rattle.std.proofs.Common.{◌≡◌, ap, ◌∙◌, ℕ, List, ◌++◌}
use Rattle.std.specs.Prelude.{map, filter, nat_lt}
use Rattle.std.proofs.lemmas.List.{map-append}
use Rattle.std.proofs.lemmas.List.Elements.{filter-append}
use Rattle.session_log.specs.declared.note.Note.{Note}
use Rattle.session_log.specs.Log.{uuids_after}

-- the identities that two lists note since a write are those of the one and then those of the other
pub uuids_after-append : (number : ℕ) (prefix back : List Note)
    → uuids_after number (prefix ++ back) ≡ uuids_after number prefix ++ uuids_after number back
uuids_after-append number prefix back =
    ap (map (λ (note : Note). note.uuid)) (filter-append (λ note. nat_lt number note.number) prefix back)
    ∙ map-append (λ (note : Note). note.uuid) (filter (λ note. nat_lt number note.number) prefix) (filter (λ note. nat_lt number note.number) back)
