use Rattle.std.proofs.Common.{◌∙◌}
use Rattle.std.specs.Result.{is_ok}
use Rattle.csn_cookie.proofs.instant.Instant.time.Goals as goal
use Rattle.csn_cookie.proofs.InstantLemmas.{found_exactly, civil_nanos-of_parts, IfSome-result_ok}
use Rattle.std.proofs.lemmas.Result.{IfOk-weaker}

pub returns-clause-found : goal.returns-clause-found
returns-clause-found c =
    c.ok.ensures.variant ∙ found_exactly c.args.self.now (is_ok c.new.result) c.requires c.if-self-lt-FIRST_YEAR.false c.new.ensures.succeeds

pub returns-clause-nanos : goal.returns-clause-nanos
returns-clause-nanos c =
    rw c.ok.ensures.value (IfSome-result_ok c.new.result _ (IfOk-weaker c.new.result _ _
    (λ dt is. civil_nanos-of_parts c.args.self.now dt c.requires c.if-self-lt-FIRST_YEAR.false is.0 is.1) c.new.ensures.value))
