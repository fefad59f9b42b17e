use Rattle.std.proofs.Common.{◌≡◌, ◌+◌, ◌++◌, ◌∙◌, ap, arith, drop, refl, suc, take}
use Rattle.ldap_server.proofs.session.Session.pass_by.Goals as goal

pub returns-then-stays-clause-next : goal.returns-then-stays-clause-next
returns-then-stays-clause-next g c = rw c.if-stays.true refl

pub returns-then-stays-clause-searches : goal.returns-then-stays-clause-searches
returns-then-stays-clause-searches g c = rw c.if-stays.true refl

pub returns-clause-next : goal.returns-clause-next
returns-clause-next g c = rw c.if-stays.false refl

pub returns-clause-searches : goal.returns-clause-searches
returns-clause-searches g c =
    let xs = c.args.self.now.searches.items in
    let next : suc c.args.place ≡ c.args.place + 1 = omega arith in
    rw c.if-stays.false (c.remove.ensures.items ∙ ap (λ n. take c.args.place xs ++ drop n xs) next)
