-- A name is the RDNs of its text.
use Rattle.std.proofs.Common.{◌∙◌, sym}
use Rattle.std.proofs.lemmas.Result.{err_from_is_err_and}
use Rattle.dn_names.proofs.Pieces.{name_of_text-empty, name_of_text-rdns}
use Rattle.dn_names.proofs.dn.Dn.parse.Goals as goal

pub returns-then-is_empty-clause-ok : goal.returns-then-is_empty-clause-ok
returns-then-is_empty-clause-ok c = rw c.empty.ensures (name_of_text-empty c.args.text.now (sym c.is_empty.ensures ∙ c.if-is_empty.true))

pub returns-in_err-rdns-clause-fault : goal.returns-in_err-rdns-clause-fault
returns-in_err-rdns-clause-fault c =
    let p = err_from_is_err_and c.from_residual-in_err-rdns.result c.from_residual-in_err-rdns.ensures.1 in
    rw (p.1, p.2, name_of_text-rdns c.args.text.now (sym c.is_empty.ensures ∙ c.if-is_empty.false))
    (rw (c.as_slice.ensures.value, c.in_ok-chars.ensures.value) at c.in_err-rdns.ensures.fault)

pub returns-clause-ok : goal.returns-clause-ok
returns-clause-ok c =
    rw c.in_ok-of.ensures (name_of_text-rdns c.args.text.now (sym c.is_empty.ensures ∙ c.if-is_empty.false)
    ∙ rw (c.as_slice.ensures.value, c.in_ok-chars.ensures.value) at c.in_ok-rdns.ensures.ok)
