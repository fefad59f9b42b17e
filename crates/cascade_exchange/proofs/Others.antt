-- The searches of others at a provider, which nothing between it and a consumer changes.
use Rattle.std.proofs.Common.{◌≡◌, ℕ, Bool, true, false, List, Option, Some, None, refl, ap, sym, subst, ◌∙◌}
use Rattle.std.specs.Prelude.{Result, Ok, Err, IfOk}
use Rattle.std.proofs.lemmas.Bool.{false≢true}
use Rattle.entry_tree.specs.Selection.{Search}
use Rattle.sync_messages.specs.Request.{request_of}
use Rattle.sync_messages.specs.declared.fault.SyncFault.{SyncFault}
use Rattle.sync_messages.specs.declared.request.SyncRequest.{SyncRequest}
use Rattle.directory_writes.proofs.Keyed.{kept_at, closed_at}
use Rattle.sync_provider.specs.Accepting as accepting
use Rattle.sync_provider.specs.HandingOut.{search_at, handed_on}
use Rattle.sync_provider.specs.Machine.{ProviderState}
use Rattle.sync_provider.specs.declared.searches.Accepted.TheVariants as accepted
use Rattle.sync_provider.proofs.Kept.{request_free}
use Rattle.sync_provider.proofs.ClosedAgain.{closed_on, closed_opened}
use Rattle.cascade_script.specs.declared.fault.Cause.{Cause}
use Rattle.cascade_nodes.specs.declared.node.ConsumerNode.{ConsumerNode}
use Rattle.cascade_nodes.specs.Opening.{answer_to, answer_to_request, after_accepted}
use Rattle.cascade_exchange.specs.Exchange.{closed, is_busy}
use Rattle.cascade_exchange.specs.Parts.{KeepsAllButSearches}

-- ---- what closing a search leaves

-- the directory with its writes
pub directory_stays : (p : ProviderState) (search : Option ℕ) → (closed p search).directory ≡ p.directory
directory_stays p None = refl
directory_stays p (Some number) = refl

queue_limit_stays : (p : ProviderState) (search : Option ℕ) → (closed p search).queue_limit ≡ p.queue_limit
queue_limit_stays p None = refl
queue_limit_stays p (Some number) = refl

-- a provider whose search is closed is of the kind that it was
pub kind_stays : (p : ProviderState) (search : Option ℕ) → (closed p search).kind ≡ p.kind
kind_stays p None = refl
kind_stays p (Some number) = refl

-- where the searches of others stay, so does all that is no search
pub only_searches : (p p1 : ProviderState) (search search1 : Option ℕ) → closed p1 search1 ≡ closed p search → KeepsAllButSearches p p1
only_searches p p1 search search1 same = record {
  directory = sym (directory_stays p1 search1) ∙ ap (λ (q : ProviderState). q.directory) same ∙ directory_stays p search;
  queue_limit = sym (queue_limit_stays p1 search1) ∙ ap (λ (q : ProviderState). q.queue_limit) same ∙ queue_limit_stays p search;
  kind = sym (kind_stays p1 search1) ∙ ap (λ (q : ProviderState). q.kind) same ∙ kind_stays p search;
}

-- ---- what is handed out

-- a message that is handed out changes its own search alone
pub others_handed : (p p1 : ProviderState) (search : Option ℕ) (number : ℕ) → search ≡ Some number → p1 ≡ record p { searches = handed_on p.directory p.searches number (search_at p.searches number) } → closed p1 search ≡ closed p search
others_handed p p1 search number is after =
    let own : closed p1 (Some number) ≡ closed p (Some number) =
    ap (λ q. closed q (Some number)) after ∙ ap (λ es. record p { searches = es }) (closed_on p.directory p.searches number (search_at p.searches number)) in
    subst (λ s. closed p1 s ≡ closed p s) (sym is) own

-- and so does the last one
pub others_ended : (p p1 : ProviderState) (search : Option ℕ) (number : ℕ) → search ≡ Some number → p1 ≡ record p { searches = closed_at p.searches number } → closed p1 None ≡ closed p search
others_ended p p1 search number is after = after ∙ sym (ap (closed p) is)

-- ---- what is opened

number_is_free : (p : ProviderState) (wanted : Search) (number writes : ℕ) (request : Result SyncRequest SyncFault) → answer_to_request p wanted request ≡ accepted.Opened number writes → search_at p.searches number ≡ None
number_is_free p wanted number writes (Err fault) is = absurd (refused is)
  where
    refused : answer_to_request p wanted (Err fault) ≡ accepted.Opened number writes → ⊥
    refused e = cc
number_is_free p wanted number writes (Ok request) is = (request_free p.directory p.searches request number writes _ is).free

-- a search that is opened by a consumer without one is the only one that is new
pub opened_others : (p p1 : ProviderState) (wanted : Search) (control : List ℕ) (number writes : ℕ) (search : Option ℕ) → accepting.AnswersAccept (accepted.Opened number writes) (answer_to p wanted control)
    → p1 ≡ after_accepted p wanted control (accepted.Opened number writes) → search ≡ None → closed p1 (Some number) ≡ closed p search
opened_others p p1 wanted control number writes search answer after none =
    let free : kept_at p.searches number ≡ None = number_is_free p wanted number writes (request_of control) answer in
    let own : closed (after_accepted p wanted control (accepted.Opened number writes)) (Some number) ≡ p = ap (λ es. record p { searches = es }) (closed_opened p.searches number _ free) in
    ap (λ q. closed q (Some number)) after ∙ own ∙ sym (ap (closed p) none)

-- ---- consumers without a search

-- no search of a consumer is open that is not busy
pub free_is_idle : (f : ConsumerNode) (busy : Bool) → busy ≡ is_busy f → busy ≡ false → f.search ≡ None
free_is_idle f busy is free = by f.search (sym is ∙ free)
  where
    by : (search : Option ℕ) → is_busy (record f { search = search }) ≡ false → search ≡ None
    by None h = refl
    by (Some number) h = absurd (false≢true (sym h))

-- whatever is answered
pub idle_anyhow : (result : Result Bool Cause) (search : Option ℕ) → search ≡ None → IfOk result (λ again. again ≡ true → search ≡ None)
idle_anyhow (Ok again) search none = λ required. none
idle_anyhow (Err cause) search none = tt
