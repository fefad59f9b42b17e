-- The header in front of its body is the element.
use Rattle.std.proofs.Common.{◌≡◌, ◌+◌, ◌-◌, length, drop, arith}
use Rattle.std.proofs.lemmas.List.{length-drop}
use Rattle.ldap_ber.proofs.UnfinishedLemmas.{header_put, small_element}
use Rattle.ldap_ber.proofs.writer.put_header_of.Goals as goal

pub put_header_at-requires-clause-within : goal.put_header_at-requires-clause-within
put_header_at-requires-clause-within c = omega (arith, c.in_ok-fit.ensures.fitted.within, c.header_length-wanted.ensures.value)

pub returns-clause-ok : goal.returns-clause-ok
returns-clause-ok c =
    let last = c.args.last.now in
    let xs = c.args.out.now.items in
    let count = c.len.result - last.start - last.room in
    let counted : count ≡ length (drop (last.start + last.room) xs) = omega (arith, length-drop (last.start + last.room) xs, c.len.ensures) in
    header_put last.tag last.start last.room c.header_length-wanted.result count xs c.fit.new.out.items c.put_header_at.new.out.items
    c.in_ok-fit.ensures.fitted c.header_length-wanted.ensures.value counted c.put_header_at.ensures

pub returns-clause-small : goal.returns-clause-small
returns-clause-small c =
    let last = c.args.last.now in
    let xs = c.args.out.now.items in
    small_element last.tag (drop (last.start + last.room) xs) (omega (arith, length-drop (last.start + last.room) xs, c.len.ensures))
