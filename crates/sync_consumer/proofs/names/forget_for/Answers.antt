-- The name is taken away, unless it stays.
use Rattle.std.proofs.Common.{◌≡◌, ℕ, Bool, false, List, Option, refl, sym, subst, ◌∙◌}
use Rattle.std.specs.Bool.{MatchBool}
use Rattle.std.specs.Prelude.{Result, Ok, Err, OnOk}
use Rattle.entry_tree.specs.State.{entry_at}
use Rattle.entry_tree.specs.declared.entry.Entry.{Entry}
use Rattle.sync_consumer.specs.Holding.{HeldNames, keeps_name, Forgets, ForgetsFor}
use Rattle.sync_consumer.specs.Staging.{change_of}
use Rattle.sync_consumer.proofs.names.forget_for.Goals as goal

forgotten : {E : Type 0} (entries : List Entry) (old new : HeldNames) (change : ℕ × Option Entry) (uuid : ℕ) (result : Result (Unit {0}) E) → uuid ≡ change.0
    → keeps_name (entry_at entries change.0) change.1 ≡ false → OnOk result (Forgets old new (entry_at entries uuid)) → OnOk result (ForgetsFor entries change old new)
forgotten entries old new change uuid (Ok done) is off gone =
    subst (λ (b : Bool). MatchBool b (new ≡ old) (Forgets old new (entry_at entries change.0))) (sym off) (subst (λ (u : ℕ). Forgets old new (entry_at entries u)) is gone)
forgotten entries old new change uuid (Err error) is off gone = tt

pub returns-then-keeps_name : goal.returns-then-keeps_name
returns-then-keeps_name c =
    let names = c.args.names.now in
    subst (λ (b : Bool). MatchBool b (names ≡ names) (Forgets names names (entry_at c.args.held.now (change_of c.args.change.now).0)))
    (sym (sym c.keeps_name.ensures.value ∙ c.if-keeps_name.true))
    refl

pub returns : goal.returns
returns c =
    forgotten c.args.held.now c.args.names.now c.forget_at.new.names (change_of c.args.change.now) c.uuid.result c.forget_at.result c.uuid.ensures
    (sym c.keeps_name.ensures.value ∙ c.if-keeps_name.false) c.forget_at.ensures
