-- A list of calls with their answers, and the calls that count.
use Rattle.std.proofs.Common.{◌≡◌, ℕ, true, false, cond, List, [], ◌∷◌, refl, ap, sym, ◌∙◌, inl, inr, ◌⊎◌, arith, nat_eq, eqb-true, eq-eqb}
use Rattle.std.specs.Prelude.{Bool, flat_map, Result, Ok, Err}
use Rattle.std.proofs.lemmas.Bool.{cases_eq, false≢true}
use Rattle.ldap_constants.specs.declared.result_codes.TheConstants.{SUCCESS, OTHER}
use Rattle.entry_tree.specs.declared.op.Op.{Op}
use Rattle.entry_tree.specs.declared.op.Write.{Write}
use Rattle.directory_writes.specs.Directory.{code_of_judged}
use Rattle.sync_provider.specs.Accepting as accepting
use Rattle.sync_provider.specs.HandingOut as handing
use Rattle.sync_provider.specs.Answering.{WriteLeaves, AcceptLeaves, HandOutLeaves, Answered, MayLeave, Leads, calls_of, calls_of_accepted, calls_of_handed}
use Rattle.sync_provider.specs.Answering.Answered.{Wrote, Committed, CommittedEach, Accepts, HandedOut, Dropped, LimitedLog, LimitedQueue}
use Rattle.sync_provider.specs.Machine.{ProviderState, after_judged, judged_by, run}
use Rattle.sync_provider.specs.Machine.{ProviderCall as calls}
use Rattle.sync_provider.specs.declared.handed.Handed.{Handed}
use Rattle.sync_provider.specs.declared.handed.Handed.TheVariants as handed
use Rattle.sync_provider.specs.declared.searches.Accepted.{Accepted}
use Rattle.sync_provider.specs.declared.searches.Accepted.TheVariants as accepted
use Rattle.sync_provider.specs.declared.searches.SyncSearch.{SyncSearch}
use Rattle.sync_provider.specs.declared.writing.Reply.{Reply}
use Rattle.sync_provider.proofs.Returns.{run_append}

-- ---- a write

-- an operation with another code than success changes nothing
judged_none : (p : ProviderState) (outcome : Result Write ℕ) → (code_of_judged outcome ≡ SUCCESS → ⊥) → after_judged p outcome ≡ p
judged_none p (Ok write) far = absurd (far refl)
judged_none p (Err code) far = refl

write_counts : (old new : ProviderState) (op : Op) (now : ℕ) (reply : Reply) → WriteLeaves old op now reply new → new ≡ run old (calls_of (Wrote op now reply))
write_counts old new op now reply is = by (nat_eq reply.code SUCCESS) refl
  where
    none : (reply.code ≡ SUCCESS → ⊥) → (reply.code ≡ OTHER) ⊎ (reply.code ≡ OTHER → ⊥) → new ≡ old
    none some (inl code) = is.err code
    none some (inr far) = is.state far ∙ judged_none old (judged_by old.kind old.directory op now) (λ nought. some (is.code far ∙ nought))

    by : (b : Bool) → nat_eq reply.code SUCCESS ≡ b → new ≡ run old (cond b (calls.Writes op now ∷ []) [])
    by true nought =
        let code : reply.code ≡ SUCCESS = eqb-true reply.code SUCCESS nought in
        is.state (λ full. let never : ⊥ = omega (arith, code, full) in never)
    by false some = none (λ nought. false≢true (sym some ∙ eq-eqb reply.code SUCCESS nought)) (cases_eq reply.code OTHER)

-- ---- a search that is asked for

accept_counts : (old new : ProviderState) (ask : SyncSearch) (result : Accepted) → AcceptLeaves old ask result new → new ≡ run old (calls_of_accepted ask result)
accept_counts old new ask (accepted.Opened number writes) is =
    is.state ∙ ap (λ answer. record old { searches = accepting.after_answer old.directory old.searches ask answer }) (sym is.answer)
accept_counts old new ask (accepted.Refused code) is = is.state
accept_counts old new ask accepted.NoMemory is = is.state

-- ---- a hand-out

hand_out_counts : (old new : ProviderState) (number : ℕ) (result : Handed) → HandOutLeaves old number result new → new ≡ run old (calls_of_handed number result)
hand_out_counts old new number (handed.Message message) is =
    is.state ∙ ap (λ turn. record old { searches = handing.after_turn old.directory old.searches number turn }) is.turn
hand_out_counts old new number (handed.Ended code message) is =
    is.state ∙ ap (λ turn. record old { searches = handing.after_turn old.directory old.searches number turn }) is.turn
hand_out_counts old new number handed.Nothing is = is.state
hand_out_counts old new number handed.NoSuchSearch is = is.state
hand_out_counts old new number handed.NoMemory is = is.state

-- ---- each call

call_counts : (old new : ProviderState) (call : Answered) → MayLeave old call new → new ≡ run old (calls_of call)
call_counts old new (Wrote op now reply) is = write_counts old new op now reply is
call_counts old new (Committed puts drops now (Ok number)) is = is.state
call_counts old new (Committed puts drops now (Err fault)) is = is.err
call_counts old new (CommittedEach commits now (Ok number)) is = is.state
call_counts old new (CommittedEach commits now (Err fault)) is = is.err
call_counts old new (Accepts ask result) is = accept_counts old new ask result is
call_counts old new (HandedOut number result) is = hand_out_counts old new number result is
call_counts old new (Dropped number result) is = is.state
call_counts old new (LimitedLog limit) is = is
call_counts old new (LimitedQueue limit) is = is

-- those that were refused count as none
pub refusals_count : (old new : ProviderState) (answered : List Answered) → Leads old answered new → new ≡ run old (flat_map calls_of answered)
refusals_count old new [] is = is
refusals_count old new (call ∷ answered) (between, here, later) =
    refusals_count between new answered later
    ∙ ap (λ p. run p (flat_map calls_of answered)) (call_counts old between call here)
    ∙ sym (run_append old (calls_of call) (flat_map calls_of answered))
