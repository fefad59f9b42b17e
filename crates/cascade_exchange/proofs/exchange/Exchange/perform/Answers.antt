use Rattle.std.proofs.Common.{refl, ap}
use Rattle.std.proofs.lemmas.Result.{on_err_weaker}
use Rattle.cascade_exchange.specs.Exchange.{is_stepwise, moves_searches}
use Rattle.cascade_exchange.proofs.Performing.{in_steps, owes_nothing}
use Rattle.cascade_exchange.proofs.Giving.{loses_cookie_does, sets_cookie_does}
use Rattle.cascade_exchange.proofs.exchange.Exchange.perform.Goals as goal

pub returns-in-Open-clause-does : goal.returns-in-Open-clause-does
returns-in-Open-clause-does c = rw c.in-Open.is c.open_search.ensures.does

pub returns-in-Settle-clause-does : goal.returns-in-Settle-clause-does
returns-in-Settle-clause-does c = rw c.in-Settle.is c.settle.ensures.does

pub returns-in-LoseCookie-clause-does : goal.returns-in-LoseCookie-clause-does
returns-in-LoseCookie-clause-does c = rw c.in-LoseCookie.is (loses_cookie_does c.args.out.now.lineage c.args.provider.now c.args.consumer_node.now c.lose_cookie.new.consumer_node _ c.lose_cookie.ensures)

pub returns-in-SetCookie-clause-does : goal.returns-in-SetCookie-clause-does
returns-in-SetCookie-clause-does c = rw c.in-SetCookie.is (sets_cookie_does c.args.out.now.lineage c.args.provider.now c.args.consumer_node.now c.set_cookie.new.consumer_node c.in-SetCookie.text _ c.set_cookie.result c.set_cookie.ensures.gives)

-- ---- exchanges in steps

pub returns-in-Open-clause-untouched : goal.returns-in-Open-clause-untouched
returns-in-Open-clause-untouched c = λ stepwise.
    owes_nothing c.args.kept.now c.args.consumer_node.now.search c.args.provider.now c.open_search.new.provider (c.requires.needed (ap moves_searches c.in-Open.is))

pub returns-in-Settle-clause-untouched : goal.returns-in-Settle-clause-untouched
returns-in-Settle-clause-untouched c = λ stepwise.
    owes_nothing c.args.kept.now c.args.consumer_node.now.search c.args.provider.now c.settle.new.provider (c.requires.needed (ap moves_searches c.in-Settle.is))

pub returns-in-Open-clause-err : goal.returns-in-Open-clause-err
returns-in-Open-clause-err c = in_steps c.args.self (ap is_stepwise c.in-Open.is)

pub returns-in-Settle-clause-err : goal.returns-in-Settle-clause-err
returns-in-Settle-clause-err c = in_steps c.args.self (ap is_stepwise c.in-Settle.is)

pub returns-in-Take-clause-err : goal.returns-in-Take-clause-err
returns-in-Take-clause-err c = in_steps c.args.self (ap is_stepwise c.in-Take.is)

pub returns-in-Take-clause-untouched : goal.returns-in-Take-clause-untouched
returns-in-Take-clause-untouched c = λ stepwise. c.take.ensures.untouched

pub returns-in-Send-clause-untouched : goal.returns-in-Send-clause-untouched
returns-in-Send-clause-untouched c = λ stepwise.
    owes_nothing c.args.kept.now c.args.consumer_node.now.search c.args.provider.now c.send.new.provider (c.requires.needed (ap moves_searches c.in-Send.is))

pub returns-in-Send-clause-err : goal.returns-in-Send-clause-err
returns-in-Send-clause-err c = in_steps c.args.self (ap is_stepwise c.in-Send.is)

-- ---- exchanges in one step

pub returns-in-Cut-clause-untouched : goal.returns-in-Cut-clause-untouched
returns-in-Cut-clause-untouched c = λ stepwise. in_steps c.args.self stepwise (ap is_stepwise c.in-Cut.is)

pub returns-in-LoseCookie-clause-untouched : goal.returns-in-LoseCookie-clause-untouched
returns-in-LoseCookie-clause-untouched c = λ stepwise. in_steps c.args.self stepwise (ap is_stepwise c.in-LoseCookie.is)

pub returns-in-SetCookie-clause-untouched : goal.returns-in-SetCookie-clause-untouched
returns-in-SetCookie-clause-untouched c = λ stepwise. in_steps c.args.self stepwise (ap is_stepwise c.in-SetCookie.is)

pub returns-in-CutIfBusy-clause-untouched : goal.returns-in-CutIfBusy-clause-untouched
returns-in-CutIfBusy-clause-untouched c = λ stepwise. in_steps c.args.self stepwise (ap is_stepwise c.in-CutIfBusy.is)

pub returns-in-Respec-clause-untouched : goal.returns-in-Respec-clause-untouched
returns-in-Respec-clause-untouched c = λ stepwise. in_steps c.args.self stepwise (ap is_stepwise c.in-Respec.is)

pub returns-in-Cut-clause-err : goal.returns-in-Cut-clause-err
returns-in-Cut-clause-err c = λ at_once. c.cut.ensures.err

pub returns-in-CutIfBusy-clause-err : goal.returns-in-CutIfBusy-clause-err
returns-in-CutIfBusy-clause-err c = λ at_once. c.cut_if_busy.ensures.err

pub returns-in-Respec-clause-err : goal.returns-in-Respec-clause-err
returns-in-Respec-clause-err c = λ at_once. c.respec.ensures.err

pub returns-in-SetCookie-clause-err : goal.returns-in-SetCookie-clause-err
returns-in-SetCookie-clause-err c = λ at_once. on_err_weaker c.set_cookie.result (λ same. (refl, same)) c.set_cookie.ensures.err
