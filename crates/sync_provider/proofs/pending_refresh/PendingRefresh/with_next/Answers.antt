-- One piece more, and after the last one the end.
use Rattle.std.proofs.Common.{arith, length-take, ◌≡◌, ℕ, true, false, [], ◌++◌, drop, length, take, ap, subst, sym, ◌∙◌}
use Rattle.std.proofs.lemmas.Result.{IfOk-weaker}
use Rattle.directory_writes.specs.Directory.{DirectoryState}
use Rattle.directory_writes.specs.Starting.{start_of}
use Rattle.entry_tree.specs.Selection.{Search, search_of}
use Rattle.sync_model.specs.Law.{is_nil}
use Rattle.sync_model.specs.Stream.{Start, after_walk, rest_of}
use Rattle.sync_slices.specs.Slices.{SliceProgress, most_decided, with_next}
use Rattle.sync_provider.specs.Gathering.{Gathers, AddsLast}
use Rattle.sync_provider.specs.Refreshing.{decided_now}
use Rattle.sync_provider.specs.Search.{session_of, sliced_in}
use Rattle.sync_provider.proofs.Pieces.{piece_goes_on, piece_ends}
use Rattle.sync_provider.proofs.pending_refresh.PendingRefresh.with_next.Goals as goal

pub gather_piece-requires-clause-few : goal.gather_piece-requires-clause-few
gather_piece-requires-clause-few c =
    let long = ap length (c.as_slice.ensures.value ∙ c.in_ok-uuids.ensures.exact) in
    let taken = length-take most_decided c.self.inside.walk in
    omega (arith, long, taken)

pub returns-then-not-is_over : goal.returns-then-not-is_over
returns-then-not-is_over c =
    let d : DirectoryState = c.args.directory.now.state in
    let now = length d.writes in
    let wanted : Search = search_of c.args.spec.now in
    let start : Start = start_of c.args.start in
    let s : SliceProgress = c.args.self.now in
    let uuids = c.in_ok-uuids.uuids.items in
    let left = c.in_ok-walk.walk in
    let marks = c.in_ok-marks.marks.items in
    let first = c.in_ok-gathering.gathering in
    let said = c.gather_piece.new.gathering in
    let taken : uuids ≡ take most_decided s.left = c.in_ok-uuids.ensures.exact ∙ ap (λ (p : SliceProgress). take most_decided p.left) c.self.view_is in
    let dropped : left ≡ drop most_decided s.left = c.in_ok-walk.ensures ∙ ap (λ (p : SliceProgress). drop most_decided p.left) c.self.view_is in
    let some : is_nil left ≡ false = sym c.is_over.ensures ∙ c.if-not-is_over.true in
    let same : c.in_ok-changed.changed ≡ s.changed = c.in_ok-changed.ensures ∙ ap (λ (p : SliceProgress). p.changed) c.self.view_is in
    IfOk-weaker c.decided.result
    (λ (refresh : SliceProgress). refresh ≡ record { marks = marks; left = left; names = said.names; changed = c.in_ok-changed.changed; rest = said.messages; due = [] })
    (λ (refresh : SliceProgress). (accepted : ℕ) → refresh ≡ with_next (sliced_in d wanted start c.args.persists accepted) now s)
    (λ refresh is accepted.
    is
    ∙ piece_goes_on (sliced_in d wanted start c.args.persists accepted) now s uuids left marks first said c.requires (ap (λ (p : SliceProgress). p.due) (sym c.self.view_is)) taken dropped c.in_ok-marks.ensures c.in_ok-gathering.ensures
    (subst (λ us. Gathers (decided_now c.args.persists d wanted start us) first said) c.as_slice.ensures.value (c.in_ok-gather_piece.ensures c.args.persists))
    c.in_ok-changed.changed same some)
    c.decided.ensures

pub returns : goal.returns
returns c =
    let d : DirectoryState = c.args.directory.now.state in
    let now = length d.writes in
    let wanted : Search = search_of c.args.spec.now in
    let start : Start = start_of c.args.start in
    let s : SliceProgress = c.args.self.now in
    let uuids = c.in_ok-uuids.uuids.items in
    let left = c.in_ok-walk.walk in
    let marks = c.in_ok-marks.marks.items in
    let first = c.in_ok-gathering.gathering in
    let said = c.gather_piece.new.gathering in
    let last = c.gather_end.new.gathering in
    let taken : uuids ≡ take most_decided s.left = c.in_ok-uuids.ensures.exact ∙ ap (λ (p : SliceProgress). take most_decided p.left) c.self.view_is in
    let dropped : left ≡ drop most_decided s.left = c.in_ok-walk.ensures ∙ ap (λ (p : SliceProgress). drop most_decided p.left) c.self.view_is in
    let over : is_nil left ≡ true = sym c.is_over.ensures ∙ c.if-not-is_over.false in
    IfOk-weaker c.decided-2.result
    (λ (refresh : SliceProgress). refresh ≡ record { marks = marks; left = c.none.result; names = last.names; changed = c.new-changed.result; rest = last.messages; due = [] })
    (λ (refresh : SliceProgress). (accepted : ℕ) → refresh ≡ with_next (sliced_in d wanted start c.args.persists accepted) now s)
    (λ refresh is accepted.
    is
    ∙ piece_ends (sliced_in d wanted start c.args.persists accepted) now s uuids left marks first said c.requires (ap (λ (p : SliceProgress). p.due) (sym c.self.view_is)) taken dropped c.in_ok-marks.ensures c.in_ok-gathering.ensures
    (subst (λ us. Gathers (decided_now c.args.persists d wanted start us) first said) c.as_slice.ensures.value (c.in_ok-gather_piece.ensures c.args.persists))
    c.none.result c.new-changed.result last c.none.ensures c.new-changed.ensures over
    (subst (λ changed. AddsLast (rest_of said.deletes said.names ++ after_walk (session_of c.args.persists d.sid d.history wanted d.writes) said.deletes now changed) said last)
    (ap (λ (p : SliceProgress). p.changed) c.self.view_is) c.in_ok-gather_end.ensures))
    c.decided-2.ensures
