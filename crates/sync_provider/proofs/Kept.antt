-- A search that is accepted, and while other calls are made.
use Rattle.std.proofs.Common.{◌≡◌, ◌≢◌, ℕ, Bool, true, false, cond, List, [], ◌∷◌, length, Option, Some, None, refl, ap, sym, ◌∙◌}
use Rattle.std.specs.Prelude.{Result, Ok, Err, not, is_some}
use Rattle.std.proofs.lemmas.Bool.{false≢true, true≢false}
use Rattle.ldap_constants.specs.declared.result_codes.TheConstants.{PROTOCOL_ERROR, ADMIN_LIMIT_EXCEEDED, NO_SUCH_OBJECT}
use Rattle.dn_names.specs.Names.{is_at_or_below}
use Rattle.entry_tree.proofs.Finding.{found_passes}
use Rattle.sync_messages.specs.Request.{request_of}
use Rattle.sync_messages.specs.declared.fault.SyncFault.{SyncFault}
use Rattle.sync_messages.specs.declared.request.SyncRequest.{SyncRequest}
use Rattle.sync_model.specs.Message.{SyncMessage}
use Rattle.sync_model.specs.Message.SyncMessage.{AddOrModify, Delete, Present, IdSet, NewCookie, RefreshDelete, RefreshPresent, Done, Ignored}
use Rattle.sync_wire.specs.Sending.{sent}
use Rattle.directory_writes.specs.Directory.{DirectoryState}
use Rattle.directory_writes.proofs.Keyed.{opened-same, opened-other, closed-other, put_on-same, put_on-other}
use Rattle.sync_provider.specs.Accepting as accepting
use Rattle.sync_provider.specs.Accepting.{is_free, numbers_from, free_number, request_code, refused_or_opened, numbered, answer_to_request, answer_to}
use Rattle.sync_provider.specs.HandingOut.{HandOut, turn_of_message, turn_of_pending, turn_of_found, turn_at, search_at, handed_on, after_turn}
use Rattle.sync_provider.specs.HandingOut.HandOut.{Hands, Closes, Waits, Unknown}
use Rattle.sync_provider.specs.Law.{asked}
use Rattle.sync_provider.specs.Machine.{ProviderState, accepted}
use Rattle.sync_provider.specs.Search.{SearchState, pending, advanced, is_end}
use Rattle.sync_provider.specs.declared.searches.Accepted.{Accepted}
use Rattle.sync_provider.specs.declared.searches.Accepted.TheVariants.{Opened, Refused, NoMemory}
use Rattle.sync_provider.specs.declared.searches.SyncSearch.{SyncSearch}

-- ---- what is accepted had a free number

free_none : (found : Option SearchState) → not (is_some found) ≡ true → found ≡ None
free_none None h = refl
free_none (Some s) h = absurd (false≢true h)

-- no open search has the number, and the count is that of the writes
pub record IsFree (d : DirectoryState) (es : List (ℕ × SearchState)) (number count : ℕ) : Type 0 where
  pub free : search_at es number ≡ None
  pub counted : count ≡ length d.writes

-- where a request is answered so, beside whether the base is in the directory
pub request_free : (d : DirectoryState) (es : List (ℕ × SearchState)) (request : SyncRequest) (number count : ℕ) (within : Bool)
    → cond within (numbered d request (free_number es)) (Refused NO_SUCH_OBJECT) ≡ Opened number count → IsFree d es number count
request_free d es request number count within = by_base within
  where
    refused : (code : ℕ) → Refused code ≡ Opened number count → ⊥
    refused code e = cc

    numbers : (n : ℕ) → Opened n (length d.writes) ≡ Opened number count → n ≡ number
    numbers n e = cc

    counts : (n : ℕ) → Opened n (length d.writes) ≡ Opened number count → count ≡ length d.writes
    counts n e = cc

    by_code : (n : ℕ) → free_number es ≡ Some n → (code : Option ℕ) → refused_or_opened d n code ≡ Opened number count → IsFree d es number count
    by_code n is None e = record {
      free = ap (search_at es) (sym (numbers n e)) ∙ free_none (search_at es n) (found_passes (is_free es) (numbers_from 1 64) n is);
      counted = counts n e;
    }
    by_code n is (Some code) e = absurd (refused code e)

    by_number : (n : Option ℕ) → free_number es ≡ n → numbered d request n ≡ Opened number count → IsFree d es number count
    by_number None is e = absurd (refused ADMIN_LIMIT_EXCEEDED e)
    by_number (Some n) is e = by_code n is (request_code d request) e

    by_base : (b : Bool) → cond b (numbered d request (free_number es)) (Refused NO_SUCH_OBJECT) ≡ Opened number count → IsFree d es number count
    by_base true e = by_number (free_number es) refl e
    by_base false e = absurd (refused NO_SUCH_OBJECT e)

-- the number that it gets was free
pub opened_free : (d : DirectoryState) (es : List (ℕ × SearchState)) (ask : SyncSearch) (number count : ℕ) → answer_to d es ask ≡ Opened number count → IsFree d es number count
opened_free d es ask number count = by_request (request_of ask.control)
  where
    refused : Refused PROTOCOL_ERROR ≡ Opened number count → ⊥
    refused e = cc

    by_request : (read : Result SyncRequest SyncFault) → answer_to_request d es ask read ≡ Opened number count → IsFree d es number count
    by_request (Err fault) e = absurd (refused e)
    by_request (Ok request) e = request_free d es request number count (is_at_or_below ask.spec.base d.suffix) e

-- ---- a search while other calls are made

-- it stays where another one is asked for
pub answered_other : (d : DirectoryState) (es : List (ℕ × SearchState)) (ask : SyncSearch) (answer : Accepted) → answer_to d es ask ≡ answer → (number : ℕ) (s : SearchState)
    → search_at es number ≡ Some s → search_at (accepting.after_answer d es ask answer) number ≡ Some s
answered_other d es ask (Opened other count) is number s found = opened-other es other number _ far ∙ found
  where
    apart : None ≡ Some s → ⊥
    apart e = cc

    far : number ≢ other
    far same = apart (sym (ap (search_at es) same ∙ (opened_free d es ask other count is).free) ∙ found)
answered_other d es ask (Refused code) is number s found = found
answered_other d es ask NoMemory is number s found = found

on_other : (d : DirectoryState) (es : List (ℕ × SearchState)) (k q : ℕ) (found : Option SearchState) → q ≢ k → search_at (handed_on d es k found) q ≡ search_at es q
on_other d es k q None far = refl
on_other d es k q (Some s) far = put_on-other es k q (advanced d s) far

-- a hand-out leaves the other searches
pub turn_other : (d : DirectoryState) (es : List (ℕ × SearchState)) (k q : ℕ) (turn : HandOut) → q ≢ k → search_at (after_turn d es k turn) q ≡ search_at es q
turn_other d es k q (Hands message) far = on_other d es k q (search_at es k) far
turn_other d es k q (Closes code message) far = closed-other es k q far
turn_other d es k q Waits far = refl
turn_other d es k q Unknown far = refl

-- ---- its own turn

-- a message that ends nothing is handed out as it is
pub hands : (id : ℕ) (m : SyncMessage) → is_end m ≡ false → turn_of_message id m ≡ Hands (sent id m)
hands id (AddOrModify adds entry cookie) h = refl
hands id (Delete uuid name cookie) h = refl
hands id (Present uuid cookie) h = refl
hands id (IdSet deletes uuids cookie) h = refl
hands id (NewCookie cookie) h = refl
hands id (RefreshDelete done cookie) h = refl
hands id (RefreshPresent done cookie) h = refl
hands id (Done code control) h = absurd (true≢false h)
hands id Ignored h = refl

-- where nothing is pending
pub waiting_turn : (d : DirectoryState) (es : List (ℕ × SearchState)) (number : ℕ) (s : SearchState) → search_at es number ≡ Some s → pending d s ≡ []
    → search_at (after_turn d es number (turn_at d es number)) number ≡ Some s
waiting_turn d es number s found none =
    ap (λ o. search_at (after_turn d es number (turn_of_found d o)) number) found
    ∙ ap (λ ms. search_at (after_turn d es number (turn_of_pending s.id ms)) number) none
    ∙ found

-- where a message is pending after which it goes on
pub next_turn : (d : DirectoryState) (es : List (ℕ × SearchState)) (number : ℕ) (s : SearchState) (m : SyncMessage) (rest : List SyncMessage)
    → search_at es number ≡ Some s → pending d s ≡ m ∷ rest → is_end m ≡ false → search_at (after_turn d es number (turn_at d es number)) number ≡ Some (advanced d s)
next_turn d es number s m rest found first goes =
    ap (λ o. search_at (after_turn d es number (turn_of_found d o)) number) found
    ∙ ap (λ ms. search_at (after_turn d es number (turn_of_pending s.id ms)) number) first
    ∙ ap (λ turn. search_at (after_turn d es number turn) number) (hands s.id m goes)
    ∙ ap (λ o. search_at (handed_on d es number o) number) found
    ∙ put_on-same es number (advanced d s) s found

-- ---- the search that is asked for

-- it is open then
pub asked_at : (p : ProviderState) (ask : SyncSearch) (number count : ℕ) → answer_to p.directory p.searches ask ≡ Opened number count
    → search_at (accepted p ask).searches number ≡ Some (asked p ask)
asked_at p ask number count answered =
    ap (λ answer. search_at (accepting.after_answer p.directory p.searches ask answer) number) answered ∙ opened-same p.searches number (asked p ask)
