-- The innermost element ends.
use Rattle.std.proofs.Common.{◌-◌, length, vec_len, take, reverse, subst, ap, ◌∙◌, arith}
use Rattle.ldap_ber.specs.Writer.{Written, after_end, EndsSmall}
use Rattle.ldap_ber.proofs.UnfinishedLemmas.{ends, ends_small, last_within}
use Rattle.ldap_ber.proofs.writer.Writer.end.Goals as goal

pub put_header_of-requires : goal.put_header_of-requires
put_header_of-requires c =
    let inside = c.self.inside in
    let begun = inside.begun.items in
    last_within (reverse begun) (reverse (take (length begun - 1) begun)) c.in-Some.last inside.out.items (rw c.deref.ensures.value at c.in-Some.ensures.some) c.self.invariant

pub invariant_of-self-in-Some : goal.invariant_of-self-in-Some
invariant_of-self-in-Some c =
    let inside = c.self.inside in
    (ends inside.begun.items c.pop.new.self.items c.in-Some.last inside.out.items c.put_header_of.new.out.items (vec_len inside.begun)
    (rw c.deref.ensures.value at c.in-Some.ensures.some) (omega (arith, inside.begun.ok.0)) c.pop.ensures.rest c.in_ok-put_header_of-in-Some.ensures.ok c.self.invariant).kept

pub returns-in_ok-put_header_of-in-Some-clause-ok : goal.returns-in_ok-put_header_of-in-Some-clause-ok
returns-in_ok-put_header_of-in-Some-clause-ok c =
    let inside = c.self.inside in
    (ends inside.begun.items c.pop.new.self.items c.in-Some.last inside.out.items c.put_header_of.new.out.items (vec_len inside.begun)
    (rw c.deref.ensures.value at c.in-Some.ensures.some) (omega (arith, inside.begun.ok.0)) c.pop.ensures.rest c.in_ok-put_header_of-in-Some.ensures.ok c.self.invariant).value
    ∙ ap (λ (w : Written). after_end w) c.self.view_is

pub returns-in_ok-put_header_of-in-Some-clause-small : goal.returns-in_ok-put_header_of-in-Some-clause-small
returns-in_ok-put_header_of-in-Some-clause-small c =
    let inside = c.self.inside in
    let begun = inside.begun.items in
    subst (λ (w : Written). EndsSmall w) c.self.view_is
    (ends_small (reverse begun) (reverse (take (length begun - 1) begun)) c.in-Some.last inside.out.items
    (rw c.deref.ensures.value at c.in-Some.ensures.some) c.in_ok-put_header_of-in-Some.ensures.small)
