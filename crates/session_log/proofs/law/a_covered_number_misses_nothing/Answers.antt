use Rattle.std.proofs.Common.{[]}
use Rattle.std.proofs.lemmas.Bool.{leb-true}
use Rattle.session_log.specs.Calls.{notes_of, after_calls}
use Rattle.session_log.specs.Log.{fresh}
use Rattle.session_log.proofs.Covering.{IsLogOf-fresh, IsLogOf-calls, since-covered}
use Rattle.session_log.proofs.law.a_covered_number_misses_nothing.Goals as goal

pub returns : goal.returns
returns c limit calls number covered =
    since-covered (notes_of calls) (after_calls (fresh limit) calls) number
    (IsLogOf-calls calls [] (fresh limit) (IsLogOf-fresh limit)) (leb-true _ number covered)
