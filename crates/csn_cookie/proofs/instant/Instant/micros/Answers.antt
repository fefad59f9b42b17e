use Rattle.std.proofs.Common.{◌≡◌, ◌≤◌, arith, pos}
use Rattle.std.specs.Int.{w128}
use Rattle.jiff.specs.Words.{signed_nanos, civil_nanos}
use Rattle.jiff_core.proofs.SignedLemmas.{back_small}
use Rattle.csn_cookie.specs.Csn.{greatest_micros}
use Rattle.csn_cookie.specs.Instant.{micros_of}
use Rattle.csn_cookie.proofs.instant.Instant.micros.Goals as goal
use Rattle.csn_cookie.proofs.InstantLemmas.{micros_between}

between : (c : goal.After-as_micros) → (c.as_micros.result ≡ pos (micros_of c.args.self.now)) × (micros_of c.args.self.now ≤ greatest_micros)
between c = micros_between c.in_ok-time.time (micros_of c.args.self.now) (civil_nanos c.epoch.result) (signed_nanos c.duration_since.result) c.as_micros.result
    c.in_ok-time.ensures.nanos c.epoch.ensures c.duration_since.ensures c.as_micros.ensures

pub overflow_cast-result : goal.overflow_cast-result
overflow_cast-result c =
    let is = between c in
    rw (is.0, back_small w128 (pos (micros_of c.args.self.now)) (omega (arith, is.1))) (tt, omega (arith, is.1))

pub returns-clause-bound : goal.returns-clause-bound
returns-clause-bound c =
    let is = between c in
    rw (is.0, back_small w128 (pos (micros_of c.args.self.now)) (omega (arith, is.1))) is.1
