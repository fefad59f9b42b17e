-- The last entry has the greatest identity.
use Rattle.std.proofs.Common.{◌≡◌, ◌-◌, ◌∙◌, ℕ, List, length, option_map, Option, Some, ap, sym}
use Rattle.std.specs.List.{slice_get}
use Rattle.std.specs.Map.{values_of}
use Rattle.entry_tree.specs.declared.entry.Entry.{Entry}
use Rattle.sync_consumer.specs.declared.stage.StagedChange.{StagedChange}
use Rattle.sync_consumer.specs.Holding.{entries_put}
use Rattle.sync_consumer.specs.Staging.{up_to}
use Rattle.sync_consumer.proofs.KeptPuts.{Puts, last_put}
use Rattle.sync_consumer.proofs.Weighing.{uuid_of, up_to_last, none_last}
use Rattle.sync_consumer.proofs.weighed.WeighedEntries.greatest.Goals as goal

abbrev greatest_of : List Entry → Option ℕ
greatest_of es = option_map uuid_of (slice_get es (length es - 1))

pub returns-in-Some : goal.returns-in-Some
returns-in-Some c =
    let puts : Puts = c.self.inside.puts in
    let entries = entries_put puts in
    let found : Some c.in-Some.uuid.now ≡ greatest_of (values_of entries) =
    ap (option_map (λ (change : ℕ × StagedChange). change.0)) c.in-Some.ensures ∙ last_put puts c.self.inside.weight c.self.invariant in
    record {
      value = found ∙ ap greatest_of c.self.view_is;
      all = ap (up_to c.in-Some.uuid.now) (sym c.self.view_is) ∙ up_to_last entries c.in-Some.uuid.now c.self.inside.weight c.self.invariant.weighed (sym found) ∙ c.self.view_is;
      none = tt;
    }

pub returns-in-None : goal.returns-in-None
returns-in-None c =
    let puts : Puts = c.self.inside.puts in
    record {
      value = ap (option_map (λ (change : ℕ × StagedChange). change.0)) c.in-None.ensures ∙ last_put puts c.self.inside.weight c.self.invariant ∙ ap greatest_of c.self.view_is;
      all = tt;
      none = sym c.self.view_is ∙ ap (λ (changes : Puts). values_of (entries_put changes)) (none_last puts (sym c.in-None.ensures));
    }
