-- A directory over a list of writes.
use Rattle.std.specs.Prelude.{ℕ, zero, suc, ◌+◌, ◌-◌, ◌*◌, ◌%◌, ◌^◌, List, [], ◌∷◌, map, take}
use Rattle.entry_writes.specs.declared.entry.Entry.{Entry}
use Rattle.entry_writes.specs.declared.op.Write.{Write}
use Rattle.entry_writes.specs.Effects.{effect}
use Rattle.entry_writes.specs.Touched.{touched, joined}

-- the identity of an entry that write `number` of a history adds: a UUID of version 8 (RFC 9562,
-- section 5.8) of the low 48 bits of the history's number and 62 bits of the write's
abbrev pub identity : ℕ → ℕ → ℕ
identity history number = (history % 2 ^ 48) * 2 ^ 80 + 8 * 2 ^ 76 + 2 * 2 ^ 62 + number % 2 ^ 62

-- the entries after these writes, the first of which is number `before + 1`
unfoldable pub state_from : ℕ → List Entry → ℕ → List Write → List Entry
state_from history entries before [] = entries
state_from history entries before (write ∷ writes) =
    state_from history (effect entries write.op (identity history (before + 1)) write.csn)
    (before + 1) writes

-- the entries after the first `count` writes of a history
abbrev pub state_of : ℕ → List Write → ℕ → List Entry
state_of history writes count = state_from history [] 0 (take count writes)

-- the identities that differ between neighbours of these states, over n steps
unfoldable pub differing_over : (ℕ → List Entry) → ℕ → ℕ → List ℕ
differing_over states from zero = []
differing_over states from (suc steps) =
    joined (differing_over states from steps)
    (map (λ entry_change. entry_change.uuid)
    (touched (states (from + steps)) (states (from + steps + 1))))

-- the identities that the writes after number `from` up to number `upto` change
abbrev pub touched_over : ℕ → List Write → ℕ → ℕ → List ℕ
touched_over history writes from upto = differing_over (state_of history writes) from (upto - from)
