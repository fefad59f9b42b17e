use Rattle.std.proofs.Common.{refl}
use Rattle.sync_io.proofs.Results.{holds_anyway}
use Rattle.directory_setup.proofs.Setups.{empty_made}
use Rattle.directory_setup.proofs.setup.first_of.Goals as goal

pub returns-clause-first : goal.returns-clause-first
returns-clause-first g c =
    let words = c.in-Some.ensures.words in
    empty_made c.args.place.0 c.args.place.1 c.args.sid c.args.limits c.in_ok-provider.provider c.set_log_limit.new.self c.set_queue_limit.new.self c.in-Some.history words.0 words.1
    c.in_ok-provider.ensures.state c.in_ok-provider.ensures.journal words.2 c.set_log_limit.ensures c.set_queue_limit.ensures

pub returns-clause-sound : goal.returns-clause-sound
returns-clause-sound g c = λ _. c.in-Some.ensures.sound refl

pub returns-in_err-provider-clause-err : goal.returns-in_err-provider-clause-err
returns-in_err-provider-clause-err g c = holds_anyway c.from_residual.result (c.in-Some.ensures.sound refl)
