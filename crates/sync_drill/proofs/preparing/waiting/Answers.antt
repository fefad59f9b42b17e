use Rattle.std.proofs.Common.{◌≡◌, Result, Ok, [], sym, ap, ◌∙◌, subst}
use Rattle.sync_consumer.specs.Taking.{ConsumerState}
use Rattle.sync_drill.specs.Delivered.{IsMadeOf}
use Rattle.sync_drill.proofs.preparing.waiting.Goals as goal

same_value : {E : Type 0} (result : Result ConsumerState E) (one other : ConsumerState) → result ≡ Ok one → result ≡ Ok other → one ≡ other
same_value result one other is also = cc

pub returns-clause-taking : goal.returns-clause-taking
returns-clause-taking c =
    let copy = c.in_ok-copy.copy in
    let is = same_value c.new.result copy _ c.in_ok-copy.was c.new.ensures in
    record {
      spec = ap (λ (s : ConsumerState). s.spec) is ∙ c.in_ok-spec.ensures;
      made = subst (λ items. IsMadeOf items copy.copy) (sym c.requires)
          (record { messages = []; read = tt; is = ap (λ (s : ConsumerState). s.copy) is; fit = tt });
    }
