-- What is kept beside the writes after one that is ready.
use Rattle.std.proofs.Common.{rules, ◌≡◌, ◌+◌, ◌∷◌, [], ◌++◌, ap, length, sym, subst, ◌∙◌, arith}
use Rattle.entry_tree.specs.declared.op.Write.{Write}
use Rattle.entry_tree.specs.declared.touched.EntryChange.{EntryChange}
use Rattle.directory_writes.specs.Directory.{DirectoryState, DirectoryWithRoom, with_write}
use Rattle.directory_writes.specs.Ready.{IsReadyWrite}
use Rattle.directory_writes.specs.Standing.{StandingState, LeadsTo}
use Rattle.directory_writes.specs.Touches.{noted_each, renewed, uuids_of}
use Rattle.directory_writes.proofs.Writes.{kept_ready, leads_ready, numbers_ready, put_is}
use Rattle.directory_writes.proofs.directory.Directory.install.Goals as goal

pub note_each-requires : goal.note_each-requires
note_each-requires c =
    omega (arith, c.requires.spare, ap (λ (v : DirectoryWithRoom). v.spare) c.self.view_is, ap (length {A = EntryChange}) c.list.ensures)

pub push_reserved-requires : goal.push_reserved-requires
push_reserved-requires c = omega (arith, c.requires.room, ap (λ (v : DirectoryWithRoom). v.room) c.self.view_is)

pub keep_previous-requires-clause-leads : goal.keep_previous-requires-clause-leads
keep_previous-requires-clause-leads c =
    let was = c.self.inside in
    let d : DirectoryState = record { suffix = was.suffix; sid = was.sid; history = was.history; writes = was.accepted.items; log = was.log.log } in
    let ready = c.args.ready in
    let is : IsReadyWrite d c.args.op ready = subst (λ (v : DirectoryWithRoom). IsReadyWrite v.state c.args.op ready) (sym c.self.view_is) c.requires.ready in
    subst (λ (s : StandingState). LeadsTo s.entries ready.preview.touched c.replace-before.new.dest.entries) (sym c.replace-before.ensures.value)
    (subst (λ (s : StandingState). LeadsTo was.standing.entries ready.preview.touched s.entries) (sym c.replace-before.ensures.after) (leads_ready d c.args.op ready was.standing c.self.invariant is))

pub keep_previous-requires-clause-numbers : goal.keep_previous-requires-clause-numbers
keep_previous-requires-clause-numbers c =
    let was = c.self.inside in
    let d : DirectoryState = record { suffix = was.suffix; sid = was.sid; history = was.history; writes = was.accepted.items; log = was.log.log } in
    let ready = c.args.ready in
    let is : IsReadyWrite d c.args.op ready = subst (λ (v : DirectoryWithRoom). IsReadyWrite v.state c.args.op ready) (sym c.self.view_is) c.requires.ready in
    (λ i. renewed (c.is_commit-commits.ensures i) (c.replace-before.ensures.after i).count (c.replace-before.ensures.value i).numbers ready.preview.touched)
    ∙ numbers_ready d c.args.op ready was.standing c.self.invariant is ∙ sym (ap (λ (s : StandingState). s.numbers) c.replace-before.ensures.after)

pub invariant_of-self : goal.invariant_of-self
invariant_of-self c =
    let was = c.self.inside in
    let d : DirectoryState = record { suffix = was.suffix; sid = was.sid; history = was.history; writes = was.accepted.items; log = was.log.log } in
    let ready = c.args.ready in
    let w : Write = record { csn = ready.preview.csn; op = c.args.op } in
    let is : IsReadyWrite d c.args.op ready = subst (λ (v : DirectoryWithRoom). IsReadyWrite v.state c.args.op ready) (sym c.self.view_is) c.requires.ready in
    let last : c.push_reserved.new.self.items ≡ was.accepted.items ++ w ∷ [] = search rules in
    let notes : c.note_each.new.log.log ≡ noted_each (length was.accepted.items + 1) (uuids_of ready.preview.touched) was.log.log = search rules in
    kept_ready d c.args.op ready was.standing c.keep_previous.new.self c.note_each.new.log.log c.push_reserved.new.self.items c.self.invariant is
    (record { csn = c.is_in_range.ensures; op = c.is_well_formed.ensures }) (c.keep_previous.ensures ∙ c.replace-before.ensures.after) last notes

pub returns-clause-state : goal.returns-clause-state
returns-clause-state c =
    let was = c.self.inside in
    let d : DirectoryState = record { suffix = was.suffix; sid = was.sid; history = was.history; writes = was.accepted.items; log = was.log.log } in
    let ready = c.args.ready in
    let w : Write = record { csn = ready.preview.csn; op = c.args.op } in
    let is : IsReadyWrite d c.args.op ready = subst (λ (v : DirectoryWithRoom). IsReadyWrite v.state c.args.op ready) (sym c.self.view_is) c.requires.ready in
    let last : c.push_reserved.new.self.items ≡ was.accepted.items ++ w ∷ [] = search rules in
    let notes : c.note_each.new.log.log ≡ noted_each (length was.accepted.items + 1) (uuids_of ready.preview.touched) was.log.log = search rules in
    put_is d c.args.op ready.preview c.note_each.new.log.log c.push_reserved.new.self.items is.plan last notes
    ∙ ap (λ (v : DirectoryWithRoom). with_write v.state w) c.self.view_is

pub returns-clause-room : goal.returns-clause-room
returns-clause-room c =
    omega (arith, ap (λ (v : DirectoryWithRoom). v.room) c.self.view_is, c.push_reserved.ensures.len, c.push_reserved.ensures.capacity)

pub returns-clause-spare : goal.returns-clause-spare
returns-clause-spare c =
    omega (arith, ap (λ (v : DirectoryWithRoom). v.spare) c.self.view_is, c.note_each.ensures.spare, ap (length {A = EntryChange}) c.list.ensures)
