-- There are no notes, or the last one is not above the new one.
use Rattle.std.proofs.Common.{◌≡◌, ◌-◌, arith, get_or, length, subst}
use Rattle.std.specs.VecDeque.{deque_len}
use Rattle.std.proofs.lemmas.Bool.{false≢true}
use Rattle.session_log.proofs.InOrder.{in_order-one, in_order-push}
use Rattle.session_log.proofs.ascending.in_order_with.Goals as goal

pub returns-in-None : goal.returns-in-None
returns-in-None c = λ holds uuid.
    let notes = c.args.notes.now in
    in_order-one notes.items c.args.number uuid (omega (arith, c.in-None.ensures.item.3))

pub returns-then-follows : goal.returns-then-follows
returns-then-follows c = λ holds uuid.
    let notes = c.args.notes.now in
    let last = c.in-Some.last.now in
    let long : deque_len notes ≡ length notes.items = notes.ok.0 in
    in_order-push notes.items last c.args.number uuid (c.requires holds)
    (subst (λ count. last ≡ get_or notes.items (count - 1) last) long c.in-Some.ensures.lookup) c.if-follows.true

pub returns-else-follows : goal.returns-else-follows
returns-else-follows c = λ holds. absurd (false≢true holds)
