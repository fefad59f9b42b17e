-- An element that is put into the innermost one, or after those that are ended.
use Rattle.std.proofs.Common.{List, ℕ, reverse, subst, sym, ap, ◌∙◌}
use Rattle.ldap_ber.specs.Canonical.{element}
use Rattle.ldap_ber.specs.Writer.{Written, after_bytes}
use Rattle.ldap_ber.specs.Unfinished.{written, AreKept}
use Rattle.ldap_ber.proofs.UnfinishedLemmas.{puts_inside}
use Rattle.ldap_ber.proofs.writer.Writer.octets.Goals as goal

pub invariant_of-self-2 : goal.invariant_of-self-2
invariant_of-self-2 c =
    let begun = reverse c.self.inside.begun.items in
    let puts = puts_inside begun c.self.inside.out.items (element c.args.tag c.args.bytes.now) c.self.invariant in
    subst (λ (x : List ℕ). AreKept begun x) (sym c.in_ok-put.ensures.ok) puts.kept

pub returns-clause-ok : goal.returns-clause-ok
returns-clause-ok c =
    let begun = reverse c.self.inside.begun.items in
    let puts = puts_inside begun c.self.inside.out.items (element c.args.tag c.args.bytes.now) c.self.invariant in
    ap (λ (x : List ℕ). written begun x) c.in_ok-put.ensures.ok
    ∙ puts.value
    ∙ ap (λ (w : Written). after_bytes w (element c.args.tag c.args.bytes.now)) c.self.view_is
