-- The CSN of the one value, or none.
use Rattle.std.proofs.Common.{codes, subst, sym, ap, ◌∙◌}
use Rattle.std.specs.Prelude.{Result, Ok}
use Rattle.csn_cookie.specs.Csn.{CsnValue}
use Rattle.ldap_ber.specs.Gives.{Gives}
use Rattle.sync_wire.specs.declared.fault.DecodeFault.{DecodeFault}
use Rattle.sync_wire.specs.Refusals.{DecodeFails}
use Rattle.sync_wire.specs.WireEntry.{csn_of, values_named}
use Rattle.sync_wire.proofs.Only.{one_csn-none, one_csn-some}
use Rattle.sync_wire.proofs.operational.entry_csn.Goals as goal

pub returns-in-Some : goal.returns-in-Some
returns-in-Some c =
    let values = values_named (codes "entryCSN") c.args.raws.now in
    subst (λ (read : Result CsnValue DecodeFault). Gives DecodeFails (λ (csn : CsnValue). Ok csn) c.csn_of.result read)
    (ap csn_of c.as_slice.ensures ∙ sym (one_csn-some values c.in-Some.value.now c.in-Some.ensures)) c.csn_of.ensures

pub returns-in-None : goal.returns-in-None
returns-in-None c = one_csn-none (values_named (codes "entryCSN") c.args.raws.now) c.in-None.ensures
