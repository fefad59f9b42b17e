-- What a drill prints: how many writes there were, and for all entries that are left and for those
-- that each consumer follows how many they are and the digest of their text.
use Rattle.std.specs.Prelude.{◌≡◌, ℕ, zero, suc, ◌==◌, List, [], ◌∷◌, ◌++◌, length, map, fold, codes, None}
use Rattle.std.specs.BTreeSet.{insert_key}
use Rattle.std.specs.Cmp.Lexicographic.{slice_cmp}
use Rattle.std.specs.Fmt.{decimal}
use Rattle.std.specs.List.{after_first, flat_map}
use Rattle.std.specs.Ordering.{nat_cmp}
use Rattle.hex.specs.Hex.{encode_lower}
use Rattle.sha2.specs.Sha256.{sha256}
use Rattle.dn_names.specs.Writing.{name_text}
use Rattle.ldif_text.specs.Written.{entry_text}
use Rattle.entry_writes.specs.declared.op.Write.{Write}
use Rattle.entry_tree.specs.Selection.{select}
use Rattle.drill_plan.specs.declared.plan.DrillPlan.{DrillPlan}
use Rattle.drill_plan.specs.Ending.{entries_after, writes_in_turn, whole, followed_by, IsInRange, IsSchedule}
use Rattle.drill_plan.specs.Plain.{PlainEntry, plain_of_each}

-- an entry as LDIF, without what shows its writes, after its written name and a byte that is
-- below all others and in no written name: so the names decide the order of these texts
abbrev pub named_text : PlainEntry → List ℕ
named_text e = name_text e.dn ++ 0 ∷ entry_text (name_text e.dn) e.attrs None

-- in the order of the written names
abbrev pub in_order : List PlainEntry → List (List ℕ)
in_order entries = fold (insert_key (slice_cmp nat_cmp)) [] (map named_text entries)

abbrev pub text_of : List PlainEntry → List ℕ
text_of entries = flat_map (after_first (λ byte. byte == 0)) (in_order entries)

-- ` entries E sha256 H`, and the end of the line
abbrev pub entries_text : List PlainEntry → List ℕ
entries_text entries =
    codes " entries " ++ (decimal (length entries)
    ++ (codes " sha256 " ++ (encode_lower (sha256 (text_of entries)) ++ codes "\n")))

abbrev pub writes_line : (writes : ℕ) → List PlainEntry → List ℕ
writes_line writes entries = codes "writes " ++ (decimal writes ++ entries_text entries)

abbrev pub consumer_line : (consumer : ℕ) → List PlainEntry → List ℕ
consumer_line consumer entries = codes "consumer " ++ (decimal consumer ++ entries_text entries)

-- the lines of the first n consumers, after these writes
abbrev pub consumer_lines : List Write → (n : ℕ) → List ℕ
consumer_lines writes zero = []
consumer_lines writes (suc n) =
    consumer_lines writes n
    ++ consumer_line n (plain_of_each (select (followed_by n) (entries_after writes)))

-- all that is printed after these writes
abbrev pub summary_after : (consumers : ℕ) → List Write → List ℕ
summary_after consumers writes =
    writes_line (length writes) (plain_of_each (select whole (entries_after writes)))
    ++ consumer_lines writes consumers

-- and after those of the writers in turn
abbrev pub summary_of : DrillPlan → List ℕ
summary_of plan = summary_after plan.consumers (writes_in_turn plan)

-- Whatever the order between writers, the same is printed.
abbrev pub SchedulesPrintAlike : Type 0
SchedulesPrintAlike =
    (plan : DrillPlan) (writes : List Write)
    → IsInRange plan
    → IsSchedule plan writes
    → summary_after plan.consumers writes ≡ summary_of plan
