-- An entry is put, or none.
use Rattle.std.proofs.Common.{◌≡◌, false, Option, Some, None, refl, sym, ap, subst, ◌∙◌}
use Rattle.std.proofs.lemmas.Bool.{false≢true}
use Rattle.entry_tree.specs.State.{entry_at}
use Rattle.entry_tree.specs.declared.entry.Entry.{Entry}
use Rattle.sync_consumer.specs.declared.stage.StagedChange.{StagedChange}
use Rattle.entry_tree.specs.NameIndex.{HasPathKey}
use Rattle.sync_consumer.specs.Holding.{keeps_name}
use Rattle.sync_consumer.specs.Staging.{change_of}
use Rattle.sync_consumer.proofs.names.keeps_name.Goals as goal

none_kept : (was : Option Entry) → keeps_name was None ≡ false
none_kept None = refl
none_kept (Some e) = refl

pub returns-in-AddOrModify : goal.returns-in-AddOrModify
returns-in-AddOrModify c = record {
  value = c.has_name_of.ensures.value ∙ sym (ap (λ (s : StagedChange). keeps_name (entry_at c.args.held.now (change_of s).0) (change_of s).1) c.in-AddOrModify.is);
  pathed = λ kept. subst (λ (s : StagedChange). HasPathKey (change_of s).1) (sym c.in-AddOrModify.is) c.has_name_of.ensures.pathed;
}

pub returns-in-Delete : goal.returns-in-Delete
returns-in-Delete c = record {
  value = sym (ap (λ (s : StagedChange). keeps_name (entry_at c.args.held.now (change_of s).0) (change_of s).1) c.in-Delete.is ∙ none_kept (entry_at c.args.held.now c.in-Delete.field-0));
  pathed = λ kept. absurd (false≢true kept);
}
