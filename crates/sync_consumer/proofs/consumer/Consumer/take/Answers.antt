-- What the search made of the message is all that is promised of it.
use Rattle.std.proofs.Common.{◌≡◌, Option, Some, sym, subst, rules}
use Rattle.std.specs.Prelude.{option_map}
use Rattle.sync_model.specs.Copy as model
use Rattle.sync_consumer.specs.declared.session.SyncSession.{SyncSession}
use Rattle.sync_consumer.specs.Committing.{IsReadyOn, stage_in}
use Rattle.sync_consumer.specs.SyncSession.{session_of, copy_of, copy_with}
use Rattle.sync_consumer.proofs.Naming.{named_apart, held_allowed}
use Rattle.sync_consumer.proofs.Upholding.{IsTaken, search_taken}
use Rattle.sync_consumer.proofs.consumer.Consumer.take.Goals as goal
use Rattle.sync_consumer.proofs.consumer.Consumer.take.Goals.{In-Some}

-- the copy before
was : (c : In-Some) → c.args.self.now.copy ≡ copy_with c.self.inside.held c.in-Some.session
was c = cc

-- what held of it
had : (c : In-Some) → IsReadyOn c.args.self.now.copy.held (stage_in c.args.self.now.copy.session)
had c =
    let here : c.self.inside.session ≡ Some c.in-Some.session = cc in
    let all = subst (λ (r : Option SyncSession). IsReadyOn c.self.inside.held.entries (stage_in (option_map session_of r))) here c.self.invariant in
    subst (λ (k : model.Copy). IsReadyOn k.held (stage_in k.session)) (sym (was c)) all

pub invariant_of-self-2 : goal.invariant_of-self-2
invariant_of-self-2 c =
    let some = (goal.at.invariant_of-self-2 c).In-Some in
    (search_taken c.after_message-session.result.1 c.self.inside.held c.in-Some.session c.args.message.now c.args.self.now.copy
    (copy_of c.after_message-session.new.held (option_map session_of c.after_message-session.result.0)) (was some) c.after_message-session.ensures (had some)).kept

pub returns : goal.returns
returns c =
    let some = (goal.at.returns c).In-Some in
    let all : IsTaken c.args.self.now.copy c.args.message.now (copy_of c.after_message-session.new.held (option_map session_of c.after_message-session.result.0)) c.after_message-session.result.1 =
    search_taken c.after_message-session.result.1 c.self.inside.held c.in-Some.session c.args.message.now c.args.self.now.copy
    (copy_of c.after_message-session.new.held (option_map session_of c.after_message-session.result.0)) (was some) c.after_message-session.ensures (had some) in
    record {
      exact = all.exact;
      entries = all.entries;
      cookie = all.cookie;
      fit = all.fit;
      names = all.names;
      clear = all.clear;
      committed = all.committed;
      spec = search rules;
      reload = search rules;
    }

pub returns-in_default-clause-names : goal.returns-in_default-clause-names
returns-in_default-clause-names c = named_apart c.self.inside.held.entries c.self.invariant.held.1

pub returns-in_default-clause-clear : goal.returns-in_default-clause-clear
returns-in_default-clause-clear c = held_allowed c.self.inside.held.entries c.self.invariant.held.1
