-- The writes before the place that is found are those that are counted.
use Rattle.std.proofs.Common.{rules, tests, ◌≡◌, ap, sym, subst, ◌∙◌}
use Rattle.std.proofs.lemmas.List.Sorted.{IsPartitionPoint-from_clause}
use Rattle.csn_cookie.specs.Csn.{start, is_upto, upto}
use Rattle.entry_tree.specs.declared.op.Write.{Write}
use Rattle.directory_writes.specs.Directory.{DirectoryWithRoom, csns, CsnsRise}
use Rattle.directory_writes.proofs.Csns.{upto_parted, upto_at}
use Rattle.directory_writes.proofs.directory.Directory.upto.Goals as goal

pub returns : goal.returns
returns c =
    let csn = c.args.csn in
    let kept = c.as_slice-writes.result.now in
    let same : kept ≡ c.self.inside.accepted.items = c.as_slice-writes.ensures.value in
    let rise : CsnsRise c.self.inside.sid kept = subst (CsnsRise c.self.inside.sid) (sym same) c.self.invariant.rises in
    let point =
    IsPartitionPoint-from_clause (λ (write : Write). is_upto write.csn csn) kept c.partition_point.result c.partition_point.ensures.partitioned (upto_parted csn (start c.self.inside.sid) kept rise)
    (λ a r q k. search (rules, tests)) in
    upto_at csn kept c.partition_point.result c.partition_point.ensures.bound point
    ∙ ap (λ writes. upto (csns writes) csn) same
    ∙ ap (λ (v : DirectoryWithRoom). upto (csns v.state.writes) csn) c.self.view_is
