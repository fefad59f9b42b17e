use Rattle.std.proofs.Common.{◌≡◌, true, false, cond, is_some, Ok, sym, subst}
use Rattle.std.specs.Prelude.{not, ◌||◌}
use Rattle.sync_model.specs.Copy.{Stage}
use Rattle.sync_wire.specs.Requesting.{persists}
use Rattle.sync_consumer.specs.declared.consumer.Taken.{Taken}
use Rattle.sync_consumer.specs.declared.consumer.Taken.TheVariants.{Stored, Copied}
use Rattle.sync_consumer.specs.declared.session.SyncSession as kept
use Rattle.sync_consumer.specs.declared.session.SearchStep.{SearchStep}
use Rattle.sync_consumer.specs.declared.session.SearchStep.TheVariants.{Goes, Ends}
use Rattle.sync_consumer.specs.SyncSession.{session_of, copy_with, within, refresh_ended, StepsTo}
use Rattle.sync_consumer.proofs.Phases.{refresh_steps}
use Rattle.sync_consumer.proofs.session.SyncSession.end_refresh.Goals as goal

pub returns : goal.returns
returns c =
    let stage : Stage = c.in_ok-stage.stage in
    let after : kept.SyncSession = record c.args.self.now {
      persisting = true;
      ended = c.args.self.now.ended || not c.args.deletes;
      named = c.clear.new.self;
      stage = c.clear-2.new.self;
    } in
    let commit = c.in_ok-commit.commit in
    let answer_taken : Taken = cond (is_some c.args.cookie) (Stored commit) (Copied commit) in
    let step : c.after_refresh.result ≡ cond (persists c.args.self.now.mode) (Goes answer_taken) (Ends answer_taken) = cc (c.after_refresh.ensures, c.took_effect.ensures, c.is_some-has_cookie.ensures) in
    subst (λ (s : SearchStep). StepsTo c.args.held.now c.args.self.now c.commit_stage.new.self after (Ok s)
    (within false c.args.held.now c.args.self.now (refresh_ended (copy_with c.args.held.now c.args.self.now) (session_of c.args.self.now) c.args.deletes c.args.cookie))) (sym step)
    (refresh_steps c.args.held.now c.args.self.now c.commit_stage.new.self after c.args.deletes c.args.cookie commit stage c.in_ok-stage.ensures
    c.in_ok-commit.ensures.within c.in_ok-commit.ensures.entries c.in_ok-commit.ensures.cookie c.in_ok-commit.ensures.commit
    (λ i. record {
      id = c.args.self.now.id;
      persists = persists c.args.self.now.mode;
      persisting = true;
      ended = c.args.self.now.ended || not c.args.deletes;
      named = c.clear.ensures i;
      stage = c.clear-2.ensures i;
    }))
