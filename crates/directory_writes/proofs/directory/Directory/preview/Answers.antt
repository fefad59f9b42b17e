-- What is reported of an operation that is accepted.
use Rattle.std.proofs.Common.{rules, ◌≡◌, ◌+◌, length, true, None, Some, ap, subst, ◌∙◌, sym}
use Rattle.csn_cookie.specs.Csn.{CsnValue}
use Rattle.entry_tree.specs.Codes.{code_of}
use Rattle.entry_tree.specs.Effects.{effect}
use Rattle.entry_tree.specs.Fault.{HasOpCode}
use Rattle.entry_tree.specs.Fitting.{fits}
use Rattle.entry_tree.specs.History.{identity}
use Rattle.entry_tree.specs.Touched.{touched, with_changes, CanBeMade}
use Rattle.entry_tree.specs.declared.fault.OpFault.{OpFault}
use Rattle.directory_writes.specs.Directory.{DirectoryState, DirectoryWithRoom, entries_of, csn_of_next_write, has_room, judged, IsKeptBeside, Refuses}
use Rattle.directory_writes.specs.Weights.{op_weight, kept_weight}
use Rattle.directory_writes.specs.declared.preview.Preview.{Preview}
use Rattle.directory_writes.proofs.Writes.{touches_are, planned_is, refused_by}
use Rattle.directory_writes.proofs.directory.Directory.preview.Goals as goal

pub preview-requires-clause-fits : goal.preview-requires-clause-fits
preview-requires-clause-fits c =
    let kept = subst (λ (v : DirectoryWithRoom). IsKeptBeside v.state c.self.inside.standing) c.self.view_is c.self.invariant in
    ap (λ entries. fits entries c.args.op.now) (c.tree-tree.ensures ∙ kept.standing.made) ∙ c.requires.fits

pub returns-in_err-touched-clause-refused : goal.returns-in_err-touched-clause-refused
returns-in_err-touched-clause-refused c =
    let d : DirectoryState = c.args.self.now.state in
    let op = c.args.op.now in
    let fault : OpFault = c.in_err-touched.field-0.0 in
    let kept = subst (λ (v : DirectoryWithRoom). IsKeptBeside v.state c.self.inside.standing) c.self.view_is c.self.invariant in
    let made : c.tree-tree.result.now ≡ entries_of d = c.tree-tree.ensures ∙ kept.standing.made in
    let suffix : c.self.inside.suffix ≡ d.suffix = ap (λ (v : DirectoryWithRoom). v.state.suffix) c.self.view_is in
    let code : HasOpCode (code_of d.suffix (entries_of d) op) fault = subst (λ opposed. HasOpCode opposed fault) (λ i. code_of (suffix i) (made i) op) c.in_err-touched.ensures.refused in
    let refuses : Refuses (judged d op c.args.now) fault = refused_by d op c.args.now c.in_ok-drawn.drawn.csn fault c.in_ok-drawn.ensures.room c.in_ok-drawn.ensures.value code in
    search (rules, refuses)

pub returns-clause-touched : goal.returns-clause-touched
returns-clause-touched c =
    let d : DirectoryState = c.args.self.now.state in
    let op = c.args.op.now in
    let csn : CsnValue = c.in_ok-drawn.drawn.csn in
    let uuid = c.identity-uuid.result in
    let entries = c.tree-tree.result.now in
    let kept = subst (λ (v : DirectoryWithRoom). IsKeptBeside v.state c.self.inside.standing) c.self.view_is c.self.invariant in
    let made : entries ≡ entries_of d = c.tree-tree.ensures ∙ kept.standing.made in
    let same : uuid ≡ identity d.history (length d.writes + 1) = search rules in
    let is : c.in_ok-touched.touched ≡ touched entries (effect entries op uuid csn) = c.in_ok-touched.ensures.touched in
    touches_are d op csn entries uuid c.in_ok-touched.touched made same is

pub returns-clause-planned : goal.returns-clause-planned
returns-clause-planned c =
    let d : DirectoryState = c.args.self.now.state in
    let op = c.args.op.now in
    let drawn = c.in_ok-drawn.drawn in
    let touches = c.in_ok-touched.touched in
    let preview : Preview = record { csn = drawn.csn; csn_maker = drawn.csn_maker; weight = drawn.weight; touched = touches } in
    let uuid = c.identity-uuid.result in
    let entries = c.tree-tree.result.now in
    let kept = subst (λ (v : DirectoryWithRoom). IsKeptBeside v.state c.self.inside.standing) c.self.view_is c.self.invariant in
    let made : entries ≡ entries_of d = c.tree-tree.ensures ∙ kept.standing.made in
    let same : uuid ≡ identity d.history (length d.writes + 1) = search rules in
    let suffix : c.self.inside.suffix ≡ d.suffix = ap (λ (v : DirectoryWithRoom). v.state.suffix) c.self.view_is in
    let unopposed : code_of c.self.inside.suffix entries op ≡ None = c.in_ok-touched.ensures.accepted in
    let free : code_of d.suffix (entries_of d) op ≡ None = (λ i. code_of (sym suffix i) (sym made i) op) ∙ unopposed in
    let room : has_room d.writes op ≡ true = c.in_ok-drawn.ensures.room in
    let next : csn_of_next_write d c.args.now ≡ Some drawn.csn = c.in_ok-drawn.ensures.value in
    let maker : drawn.csn_maker ≡ drawn.csn = c.in_ok-drawn.ensures.maker in
    let weighs : drawn.weight ≡ kept_weight d.writes + op_weight op = c.in_ok-drawn.ensures.weight in
    let leads : with_changes entries touches ≡ effect entries op uuid drawn.csn = c.in_ok-touched.ensures.effect in
    let fit : CanBeMade entries touches = c.in_ok-touched.ensures.fit in
    planned_is d op c.args.now preview entries uuid made same (record { sound = c.requires.sound; unopposed = free; fitting = c.requires.fits }) room next maker weighs leads fit
