-- The first group is put there, or is too much.
use Rattle.std.proofs.Common.{◌≡◌, ◌<◌, false, true, length, refl, ap, arith, sym, ◌∙◌}
use Rattle.std.proofs.lemmas.Bool.{eqb-false}
use Rattle.std.specs.Prelude.{vec_len}
use Rattle.directory_writes.specs.Starting.{start_of}
use Rattle.entry_tree.specs.Selection.{search_of}
use Rattle.sync_model.specs.Law.{is_nil}
use Rattle.sync_model.proofs.Prefixes.{nil_is}
use Rattle.sync_provider.specs.Search.{SearchState}
use Rattle.sync_provider.specs.StagedGroups.{changed_with, messages_in}
use Rattle.sync_provider.specs.Staging.{HeldSearch, first_pushed}
use Rattle.sync_provider.proofs.Filling.{first_some, group_grown, kept_after, queued_after}
use Rattle.sync_provider.proofs.open_search.OpenSearch.push_next.Goals as goal

pub returns-then-is_decided : goal.returns-then-is_decided
returns-then-is_decided c =
    let was = c.self.inside in
    let group = c.in-Some.group in
    let rest = c.pop_front.new.self.items in
    let s : SearchState = record {
      id = was.id;
      spec = search_of was.spec.value;
      start = start_of was.start;
      accepted = was.accepted;
      persists = was.persists;
      progress = record was.refresh { due = was.queue.items };
      over = was.over;
    } in
    let some : 0 < length group.messages.items = omega (arith, eqb-false (vec_len group.messages) 0 (sym c.is_empty.ensures ∙ c.if-is_empty.false), group.messages.ok.0) in
    let none = nil_is was.refresh.left (sym c.is_decided.ensures ∙ c.if-is_decided.true) in
    let done = c.queue_messages-self-inside in
    (λ i. record {
      search = queued_after c.args.limit group.messages.items s was.refresh done.new.refresh done.new.queue.items done.result refl c.if-self.false none some done.ensures.over done.ensures.refresh done.ensures.queue i;
      staged = messages_in rest;
    })
    ∙ sym (first_some c.args.limit s was.staged.items rest group c.in-Some.ensures.items)
    ∙ ap (λ (held : HeldSearch). first_pushed c.args.limit held.search held.staged) c.self.view_is

pub returns : goal.returns
returns c =
    let was = c.self.inside in
    let group = c.in-Some.group in
    let rest = c.pop_front.new.self.items in
    let s : SearchState = record {
      id = was.id;
      spec = search_of was.spec.value;
      start = start_of was.start;
      accepted = was.accepted;
      persists = was.persists;
      progress = record was.refresh { due = was.queue.items };
      over = was.over;
    } in
    let left : is_nil was.refresh.left ≡ false = sym c.is_decided.ensures ∙ c.if-is_decided.false in
    let grown : group.changed ≡ changed_with was.refresh.changed group.messages.items =
    group_grown was.over was.refresh was.queue.spare was.staged_count was.staged.items rest group c.self.invariant c.in-Some.ensures.items left in
    let done = c.keep_changed-self-inside in
    (λ i. record {
      search = kept_after c.args.limit group.messages.items s was.refresh done.new.refresh group.changed done.new.queue.items done.result refl c.if-self.false left grown done.ensures.over done.ensures.refresh done.ensures.queue i;
      staged = messages_in rest;
    })
    ∙ sym (first_some c.args.limit s was.staged.items rest group c.in-Some.ensures.items)
    ∙ ap (λ (held : HeldSearch). first_pushed c.args.limit held.search held.staged) c.self.view_is
