-- Each RDN is a step of reading the name.
use Rattle.std.proofs.Common.{◌<◌, ◌∙◌, ap, arith, length}
use Rattle.std.proofs.lemmas.Result.{err_from_is_err_and}
use Rattle.dn_names.specs.Reading.{without_leading_spaces}
use Rattle.dn_names.proofs.Pieces.{next_rdn, last_rdn, no_room, rdn_refused, width-after_comma, IsName-push}
use Rattle.dn_names.proofs.dn.read_rdns.Goals as goal

pub returns-in_err-rdn-clause-fault : goal.returns-in_err-rdn-clause-fault
returns-in_err-rdn-clause-fault c =
    let p = err_from_is_err_and c.from_residual-in_err-rdn.result c.from_residual-in_err-rdn.ensures.1 in
    let first = rw (c.is_some.ensures, c.cut.ensures.found, c.cut.ensures.prefix, c.width_of.ensures) at c.in_err-rdn.ensures.fault in
    rw (p.1, p.2) (rdn_refused c.args.bytes _ c.rdns.rdns.items c.rdns.rest.now c.rdns.invariant.read _ first)

pub returns-then-len-ge-MOST_RDNS-clause-fault : goal.returns-then-len-ge-MOST_RDNS-clause-fault
returns-then-len-ge-MOST_RDNS-clause-fault c =
    let first = rw (c.is_some.ensures, c.cut.ensures.found, c.cut.ensures.prefix, c.width_of.ensures) at c.in_ok-rdn.ensures.ok in
    rw c.width_of.ensures (no_room c.args.bytes _ c.rdns.rdns.items c.rdns.rest.now c.rdns.invariant.read _ (omega arith) first)

pub rdns-preserved : goal.rdns-preserved
rdns-preserved c =
    let first = rw (c.is_some.ensures, c.cut.ensures.found, c.cut.ensures.prefix, c.width_of.ensures) at c.in_ok-rdn.ensures.ok in
    let back = rw c.in-Some.is at c.cut.ensures.back in
    let room : length c.rdns.rdns.items < 32 = omega arith in
    let rest = c.without_leading_spaces-rest.ensures ∙ ap without_leading_spaces back.1 in
    record {
      read = rw rest (next_rdn c.args.bytes _ c.rdns.rdns.items c.rdns.rest.now c.rdns.invariant.read _ _ c.in_ok-push.ensures.items room back.0 first);
      sound = rw c.in_ok-push.ensures.items (IsName-push c.rdns.rdns.items _ c.rdns.invariant.sound c.in_ok-rdn.ensures.sound room);
      within = rw rest (omega (arith, width-after_comma c.rdns.rest.now, c.rdns.invariant.within));
    }

pub returns-in-None-clause-ok : goal.returns-in-None-clause-ok
returns-in-None-clause-ok c =
    let first = rw (c.is_some.ensures, c.cut.ensures.found, c.cut.ensures.prefix, c.width_of.ensures) at c.in_ok-rdn.ensures.ok in
    let none = rw c.in-None.is at c.cut.ensures.back in
    last_rdn c.args.bytes _ c.rdns.rdns.items c.rdns.rest.now c.rdns.invariant.read _ _ c.in_ok-push.ensures.items (omega arith) none first

pub returns-in-None-clause-sound : goal.returns-in-None-clause-sound
returns-in-None-clause-sound c =
    let room : length c.rdns.rdns.items < 32 = omega arith in
    rw c.in_ok-push.ensures.items (IsName-push c.rdns.rdns.items _ c.rdns.invariant.sound c.in_ok-rdn.ensures.sound room)
