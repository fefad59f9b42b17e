use Rattle.std.proofs.Common.{◌≡◌, sym, ap, ◌∙◌, subst, ◌+◌, ◌<◌, length, ◌∷◌, arith}
use Rattle.std.specs.Prelude.{max}
use Rattle.std.specs.VecDeque.{deque_len}
use Rattle.session_log.specs.Log.{last_of, before_last, greatest}
use Rattle.session_log.proofs.Keeping.{last_of-drop, greatest-drop}
use Rattle.session_log.proofs.ending.keep_last.Goals as goal

pub loop-notes-preserved-in-Some : goal.loop-notes-preserved-in-Some
loop-notes-preserved-in-Some c =
    let popped : c.loop-notes.notes.items ≡ c.in-Some.note ∷ c.pop_front.new.self.items = c.in-Some.ensures.items in
    let long : c.args.limit < length c.loop-notes.notes.items = omega (arith, c.loop-notes-test.true, c.len.ensures, c.loop-notes.notes.ok) in
    let over : c.args.limit < length (c.in-Some.note ∷ c.pop_front.new.self.items) = subst (λ notes. c.args.limit < length notes) popped long in
    let higher : c.max-highest.result ≡ max c.loop-notes.highest c.in-Some.note.number = omega (arith, c.max-highest.ensures) in
    let fewer : deque_len c.pop_front.new.self + 1 ≡ deque_len c.loop-notes.notes = c.in-Some.ensures.cases in
    record {
      kept = sym (last_of-drop c.args.limit c.in-Some.note c.pop_front.new.self.items over)
          ∙ ap (last_of c.args.limit) (sym popped) ∙ c.loop-notes.invariant.kept;
      floor = ap (λ n. greatest n (before_last c.args.limit c.pop_front.new.self.items)) higher
          ∙ sym (greatest-drop c.args.limit c.loop-notes.highest c.in-Some.note c.pop_front.new.self.items over)
          ∙ ap (λ notes. greatest c.loop-notes.highest (before_last c.args.limit notes)) (sym popped)
          ∙ c.loop-notes.invariant.floor;
      len = omega (arith, fewer, c.loop-notes.invariant.len);
      capacity = c.in-Some.ensures.capacity ∙ c.loop-notes.invariant.capacity;
    }
