-- The number that is kept for an entry, or the one that its CSN gives, is that of its last touch.
use Rattle.std.proofs.Common.{sym, subst}
use Rattle.directory_writes.specs.Directory.{DirectoryState, DirectoryWithRoom, IsKeptBeside}
use Rattle.directory_writes.proofs.Served.{number_by_csn, number_kept}
use Rattle.directory_writes.proofs.directory.Directory.last_touch_of.Goals as goal

pub returns-in-None : goal.returns-in-None
returns-in-None c =
    let d : DirectoryState = c.args.self.now.state in
    let s = c.self.inside.standing in
    let kept = subst (λ (v : DirectoryWithRoom). IsKeptBeside v.state s) c.self.view_is c.self.invariant in
    number_by_csn d s c.args.uuid c.written_upto.result kept.standing kept.rises c.requires (sym c.in-None.ensures) c.written_upto.ensures

pub returns-in-Some : goal.returns-in-Some
returns-in-Some c =
    let d : DirectoryState = c.args.self.now.state in
    let s = c.self.inside.standing in
    let kept = subst (λ (v : DirectoryWithRoom). IsKeptBeside v.state s) c.self.view_is c.self.invariant in
    number_kept d s c.args.uuid c.in-Some.number kept.standing c.requires (sym c.in-Some.ensures)
