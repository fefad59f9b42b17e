-- From a servable cookie a search sends only what was touched since.
use Rattle.std.proofs.Common.{◌≡◌, ℕ, zero, suc, ◌-◌, ◌≤◌, Bool, true, false, cond, List, [], ◌∷◌, ◌++◌, length, Option, Some, None, refl, sym, ap, ◌∙◌, arith, subst}
use Rattle.std.specs.Prelude.{All, filter_map, take, Result, Ok, Err}
use Rattle.std.specs.List.{cons_option}
use Rattle.std.proofs.lemmas.List.Elements.{All-nil, All-cons, All-head, All-tail}
use Rattle.std.proofs.Math.Seq.{take-append_seam}
use Rattle.csn_cookie.specs.Csn.{upto}
use Rattle.csn_cookie.specs.Cookie.{cookie_of_text}
use Rattle.csn_cookie.specs.declared.cookie.Cookie.{Cookie}
use Rattle.entry_tree.specs.declared.entry.Entry.{Entry}
use Rattle.entry_tree.specs.declared.op.Write.{Write}
use Rattle.entry_tree.specs.History.{touched_over}
use Rattle.session_log.specs.Log.{covers}
use Rattle.sync_messages.specs.Request.{request_of}
use Rattle.sync_messages.specs.declared.fault.SyncFault.{SyncFault}
use Rattle.sync_messages.specs.declared.request.SyncRequest.{SyncRequest}
use Rattle.sync_model.specs.Incremental.{number_of, sent_entry}
use Rattle.sync_model.specs.Message.{SyncMessage}
use Rattle.sync_model.specs.Stream.{RefreshPiece, among, last_mark, refresh, later}
use Rattle.sync_model.specs.Stream.Start.{DeletePhase, PresentPhase}
use Rattle.sync_model.proofs.Histories.{ascends-state_of}
use Rattle.sync_model.proofs.Incremental.{refresh_sent}
use Rattle.sync_slices.specs.Slices.{SlicedRefresh, all_pieces}
use Rattle.directory_writes.specs.Starting.{is_ours, prefix_of, prefix_of_cookie, start_at}
use Rattle.sync_provider.specs.Accepting.{start_of_read, start_of_ask, answer_to}
use Rattle.directory_writes.specs.Directory.{DirectoryState, csns}
use Rattle.sync_provider.specs.Law.{refresh_at, Delivery, delivered, all_delivered, Delivers, asked, SendsWhatWasTouched}
use Rattle.sync_provider.specs.Machine.{ProviderState, ProviderCall, accepted}
use Rattle.sync_provider.specs.Search.{busy_end}
use Rattle.sync_provider.specs.declared.searches.Accepted.TheVariants.{Opened}
use Rattle.sync_provider.specs.declared.searches.SyncSearch.{SyncSearch}
use Rattle.sync_provider.proofs.Followed.{delivers_its_stream, cuts_its_walk}
use Rattle.sync_model.proofs.Groups.{heads, tails}
use Rattle.directory_writes.proofs.Csns.{upto_low}

-- ---- a search begins with no more writes than there are

abbrev pub IsLow : DirectoryState → Option ℕ → Type 0
IsLow d prefix = (number : ℕ) → prefix ≡ Some number → number ≤ length d.writes

-- the number of a cookie is no greater
pub prefix_low : (d : DirectoryState) (found : Option Cookie) → IsLow d (prefix_of d found)
prefix_low d None number is = absurd (never is) where
  never : None ≡ Some number → ⊥
  never q = cc
prefix_low d (Some cookie) number is = step (is_ours d cookie) is where
  step : (b : Bool) → cond b (Some (upto (csns d.writes) cookie.csn)) None ≡ Some number → number ≤ length d.writes
  step true same = let here : upto (csns d.writes) cookie.csn ≡ number = cc in omega (arith, here, upto_low d.writes cookie.csn)
  step false same = let never : ⊥ = cc in absurd never

-- so is that of a cookie's text
pub asked_low : (d : DirectoryState) (text : Option (List ℕ)) → IsLow d (prefix_of_cookie d text)
asked_low d None number is = let never : ⊥ = cc in absurd never
asked_low d (Some text) number is = prefix_low d (cookie_of_text text) number is

-- the number that a search begins with is that of its cookie
start_number : (d : DirectoryState) (prefix : Option ℕ) → number_of (start_at d prefix) ≡ prefix
start_number d None = refl
start_number d (Some number) = step (covers number d.log) where
  step : (b : Bool) → number_of (cond b (DeletePhase number) (PresentPhase number)) ≡ Some number
  step true = refl
  step false = refl

ask_low : (d : DirectoryState) (ask : SyncSearch) → IsLow d (number_of (start_of_ask d ask))
ask_low d ask = by (request_of ask.control) where
  by : (read : Result SyncRequest SyncFault) → IsLow d (number_of (start_of_read d read))
  by (Err fault) number is = let never : ⊥ = cc in absurd never
  by (Ok request) number is = asked_low d request.cookie number (sym (start_number d (prefix_of_cookie d request.cookie)) ∙ is)

-- ---- as much of what is reported

-- the entries that some messages send whole
abbrev Sends : (Entry → Type 0) → List SyncMessage → Type 0
Sends P ms = All P (filter_map sent_entry ms)

more_sends : (P : Entry → Type 0) (m : SyncMessage) (ms : List SyncMessage) (left : List SyncMessage) → Sends P (m ∷ left) → (Sends P left → Sends P ms) → Sends P (m ∷ ms)
more_sends P m ms left sends rest = by (sent_entry m) sends where
  by : (found : Option Entry) → All P (cons_option found (filter_map sent_entry left)) → All P (cons_option found (filter_map sent_entry ms))
  by None each = rest each
  by (Some entry) each =
      All-cons P entry (filter_map sent_entry ms) (All-head P entry (filter_map sent_entry left) each)
      (rest (All-tail P entry (filter_map sent_entry left) each))

take_none : (n : ℕ) → take {A = SyncMessage} n [] ≡ []
take_none zero = refl
take_none (suc n) = refl

-- a refresh of which a prefix is reported, and then the end with the code busy
cut_sends : (P : Entry → Type 0) (refresh prefix left later : List SyncMessage) → prefix ++ left ≡ refresh ++ later → Sends P refresh
    → Sends P (take (length refresh) (prefix ++ busy_end ∷ []))
cut_sends P [] prefix left later split sends = All-nil P
cut_sends P (m ∷ refresh) [] left later split sends = subst (λ ms. Sends P (busy_end ∷ ms)) (sym (take_none (length refresh))) (All-nil P)
cut_sends P (m ∷ refresh) (x ∷ prefix) left later split sends =
    let first : x ≡ m = heads x m (prefix ++ left) (refresh ++ later) split in
    let rest : prefix ++ left ≡ refresh ++ later = tails x m (prefix ++ left) (refresh ++ later) split in
    subst (λ y. Sends P (y ∷ take (length refresh) (prefix ++ busy_end ∷ []))) (sym first)
    (more_sends P m (take (length refresh) (prefix ++ busy_end ∷ [])) refresh sends (cut_sends P refresh prefix left later rest))

notified_sends : (P : Entry → Type 0) (over : Bool) (messages refresh later : List SyncMessage) → Delivers over messages (refresh ++ later) → Sends P refresh
    → Sends P (take (length refresh) messages)
notified_sends P false messages refresh later shows sends = subst (Sends P) (sym (ap (take (length refresh)) shows ∙ take-append_seam refresh later)) sends
notified_sends P true messages refresh later shows sends =
    subst (λ ms. Sends P (take (length refresh) ms)) (sym shows.is) (cut_sends P refresh shows.prefix shows.left later shows.split sends)

-- what is sent whole was touched
pub sends_what_was_touched : (p : ProviderState) (ask : SyncSearch) (number count : ℕ) (calls : List ProviderCall) → answer_to p.directory p.searches ask ≡ Opened number count
    → SendsWhatWasTouched p ask number calls
sends_what_was_touched p ask number count calls answered writes begins prefix is =
    notified_sends Touched t.over (all_delivered t) (refresh r.operation r.start r.accepted pieces) (cond r.operation.persists (later r.operation (last_mark r.accepted pieces) (t.writes - last_mark r.accepted pieces)) [])
    (delivers_its_stream p ask number count calls answered writes begins)
    (refresh_sent r.operation (λ n. ascends-state_of p.directory.history writes n) r.start prefix r.accepted pieces is (ask_low p.directory ask prefix is)
    (cuts_its_walk p ask number count calls answered writes begins))
  where
    r : SlicedRefresh
    r = refresh_at p.directory (asked p ask) writes

    t : Delivery
    t = delivered number (accepted p ask) calls

    pieces : List RefreshPiece
    pieces = all_pieces r t.marks t.writes

    Touched : Entry → Type 0
    Touched entry = among entry.uuid (touched_over p.directory.history writes prefix (last_mark r.accepted pieces)) ≡ true
