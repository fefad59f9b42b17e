-- What is printed of an answer, message by message.
use Rattle.std.proofs.Common.{◌≡◌, true, List, [], ◌∷◌, ◌++◌, Some, None, Result, Ok, Err, Option, inl, inr, refl, sym, ap, subst, ◌∙◌, append_assoc}
use Rattle.std.proofs.KnownBytes.{Appends-nil, Appends-trans}
use Rattle.std.proofs.lemmas.List.{append-nil}
use Rattle.std.proofs.lemmas.List.Elements.{All-append, All-cons, All-nil}
use Rattle.std.specs.Io.KnownBytes.{Appends}
use Rattle.std.specs.Prelude.{ℕ, ℤ, IfOk, OnErr}
use Rattle.entry_tree.specs.Selection.{Search}
use Rattle.ldap_client.proofs.Given.{given_asked, given_next, given_none}
use Rattle.ldap_client.specs.Clients.{Asks, ClientState, GivesNext, HasGiven, fresh}
use Rattle.ldap_client.specs.Links.{LinkState}
use Rattle.ldap_client.specs.declared.fault.ClientFault.{ClientFault}
use Rattle.ldap_client.specs.declared.fault.ClientFault.TheVariants as fault_of
use Rattle.ldap_messages.specs.Whole.{MessageValue, message_octets, message_value}
use Rattle.ldap_messages.specs.declared.ldap_result.LdapResult.{LdapResult}
use Rattle.ldap_messages.specs.declared.message.Message.{Message}
use Rattle.ldap_messages.specs.declared.protocol.Protocol.{Protocol}
use Rattle.ldap_messages.specs.declared.protocol.Protocol.TheVariants.{BindRequest, BindResponse, UnbindRequest, SearchRequest, SearchResultEntry, SearchResultDone, Write, ModifyResponse, AddResponse, DelResponse, ModifyDnResponse, CompareRequest, CompareResponse, AbandonRequest, SearchResultReference, ExtendedRequest, ExtendedResponse, IntermediateResponse}
use Rattle.ldap_messages.specs.Operation.{change_of, operation_of}
use Rattle.sync_io.specs.Faults.{CountHasRisen}
use Rattle.sync_io.specs.Sink.{AppendsPrefix}
use Rattle.ldap_search.specs.Answers.{AnswerPart, AreParts, End, Entry, Reference, Stray, goes_on, part_of, part_of_operation, part_text, result_text, texts_of}
use Rattle.ldif_text.specs.Received.{received_text}
use Rattle.schema_rules.specs.declared.raw.Change.{Change}
use Rattle.schema_rules.specs.declared.raw.Change.TheVariants.{Add, Delete, Modify, Rename}
use Rattle.schema_rules.specs.declared.raw.RawAttribute.{RawAttribute}
use Rattle.ldap_search.specs.Printing.{Prints, PrintsLast}
use Rattle.ldap_search.specs.Requests.{plain_request}
use Rattle.ldap_search.specs.Steps.{IsPrinted, PrintsNext, PrintsPart, StopsPrinting}
use Rattle.ldap_search.specs.Talks.{Answers, AnswersInPart, AsksPlainly, AsksPlainlyInPart, OutputState, end_by}
use Rattle.ldap_search.specs.declared.end.SearchEnd.{SearchEnd}
use Rattle.ldap_search.specs.declared.end.SearchEnd.TheVariants.{Done, NetFault, OutputFault, PeerFault}
use Rattle.ldap_search.proofs.Reading.{ended_early, prefix_after, read_before, read_so_far, read_up_to, reading_fails, refused_early, sound_ended, sound_refused, sound_stopped, still_sound}
use Rattle.ldap_search.proofs.Writing.{unwritten}

-- the text of one message more
text_more : (messages : List MessageValue) (whole : MessageValue) → texts_of (messages ++ whole ∷ []) ≡ texts_of messages ++ part_text (part_of whole)
text_more [] whole = append-nil (part_text (part_of whole))
text_more (one ∷ more) whole =
    ap (λ text. part_text (part_of one) ++ text) (text_more more whole)
    ∙ sym (append_assoc (part_text (part_of one)) (texts_of more) (part_text (part_of whole)))

-- one part more
parts_more : (messages : List MessageValue) (whole : MessageValue) (first : LinkState) (start : OutputState) (client : ClientState) (output : OutputState)
    → IsPrinted first start messages client output → goes_on (part_of whole) ≡ true → AreParts (messages ++ whole ∷ [])
parts_more messages whole first start client output so_far goes =
    let Goes = λ (w : MessageValue). goes_on (part_of w) ≡ true in
    All-append Goes messages (whole ∷ []) so_far.parts (All-cons Goes whole [] goes (All-nil Goes))

-- ---- what an operation is

-- an entry, a reference and the end are parts of an answer
pub entry_part : (op : Protocol) (name : List ℕ) (attributes : List RawAttribute) → op ≡ SearchResultEntry name attributes → part_of_operation (operation_of op) ≡ Entry name attributes
unfolding operation_of part_of_operation
entry_part op name attributes is = rw is refl

-- a SearchResultReference is a reference in an answer
pub reference_part : (op : Protocol) (uris : List (List ℕ)) → op ≡ SearchResultReference uris → part_of_operation (operation_of op) ≡ Reference
unfolding operation_of part_of_operation
reference_part op uris is = rw is refl

-- a SearchResultDone ends an answer with its code
pub done_part : (op : Protocol) (outcome : LdapResult) → op ≡ SearchResultDone outcome → part_of_operation (operation_of op) ≡ End outcome.code
unfolding operation_of part_of_operation
done_part op outcome is = rw is refl

change_part : (change : Change) → part_of_operation (change_of change) ≡ Stray
unfolding part_of_operation
change_part (Add name attributes) = refl
change_part (Delete name) = refl
change_part (Modify name edits) = refl
change_part (Rename name rdn goes superior) = refl

-- every other operation is no part of an answer
pub stray_part : (op : Protocol) → ((name : List ℕ) (attributes : List RawAttribute) → op ≡ SearchResultEntry name attributes → ⊥)
    → ((uris : List (List ℕ)) → op ≡ SearchResultReference uris → ⊥) → ((outcome : LdapResult) → op ≡ SearchResultDone outcome → ⊥)
    → part_of_operation (operation_of op) ≡ Stray
unfolding operation_of part_of_operation
stray_part (BindRequest version name authentication) entry reference done = refl
stray_part (BindResponse result sasl) entry reference done = refl
stray_part UnbindRequest entry reference done = refl
stray_part (SearchRequest asked) entry reference done = refl
stray_part (SearchResultEntry name attributes) entry reference done = absurd (entry name attributes refl)
stray_part (SearchResultDone outcome) entry reference done = absurd (done outcome refl)
stray_part (Write change) entry reference done = change_part change
stray_part (ModifyResponse result) entry reference done = refl
stray_part (AddResponse result) entry reference done = refl
stray_part (DelResponse result) entry reference done = refl
stray_part (ModifyDnResponse result) entry reference done = refl
stray_part (CompareRequest name type value) entry reference done = refl
stray_part (CompareResponse result) entry reference done = refl
stray_part (AbandonRequest id) entry reference done = refl
stray_part (SearchResultReference uris) entry reference done = absurd (reference uris refl)
stray_part (ExtendedRequest name value) entry reference done = refl
stray_part (ExtendedResponse result name value) entry reference done = refl
stray_part (IntermediateResponse name value) entry reference done = refl

-- what is printed of an entry, in what the code answers
pub prints_entry : {E : Type 0} (name : List ℕ) (attributes : List RawAttribute) (old new : OutputState) (result : Result (Option SearchEnd) E)
    → IfOk result (λ end. Prints (received_text name attributes) old.held old.faults end new.held new.faults) → PrintsPart (Entry name attributes) old result new
prints_entry name attributes old new (Ok None) prints = (refl, prints.0, prints.1)
prints_entry name attributes old new (Ok (Some OutputFault)) prints = prints
prints_entry name attributes old new (Ok (Some Done)) prints = absurd prints
prints_entry name attributes old new (Ok (Some NetFault)) prints = absurd prints
prints_entry name attributes old new (Ok (Some PeerFault)) prints = absurd prints
prints_entry name attributes old new (Err fault) prints = tt

-- what is printed of the end
prints_done : (E : Type 0) (code : ℤ) (old new : OutputState) (end : SearchEnd) → PrintsLast (result_text code) old.held old.faults end new.held new.faults
    → PrintsPart {E = E} (End code) old (Ok (Some end)) new
prints_done E code old new Done prints = (code, refl, prints.0, prints.1)
prints_done E code old new OutputFault prints = prints
prints_done E code old new NetFault prints = absurd prints
prints_done E code old new PeerFault prints = absurd prints

-- the same of a part that is the end
pub prints_end_part : (E : Type 0) (part : AnswerPart) (code : ℤ) (old new : OutputState) (end : SearchEnd) → part ≡ End code
    → PrintsLast (result_text code) old.held old.faults end new.held new.faults → PrintsPart {E = E} part old (Ok (Some end)) new
prints_end_part E part code old new end is prints =
    subst (λ (p : AnswerPart). PrintsPart {E = E} p old (Ok (Some end)) new) (sym is) (prints_done E code old new end prints)

-- what comes of a message that was given
pub prints_next : {E : Type 0} (client : ClientState) (output : OutputState) (message : Message) (result : Result (Option SearchEnd) E) (client' : ClientState) (output' : OutputState)
    → GivesNext client (Ok message) client' → PrintsPart (part_of (message_value message)) output result output' → PrintsNext client output result client' output'
prints_next client output message (Ok None) client' output' gives part = λ first start messages so_far. (
  message_value message,
  record {
    given = given_next first messages client client' message so_far.given gives;
    live = gives.fault;
    parts = parts_more messages (message_value message) first start client output so_far part.0;
    printed = subst (λ text. Appends start.held output'.held text) (sym (text_more messages (message_value message)))
        (Appends-trans start.held output.held output'.held (texts_of messages) (part_text (part_of (message_value message))) so_far.printed part.1);
    faults = part.2 ∙ so_far.faults;
    reads = gives.faultless (λ e. let never : ⊥ = cc in never) ∙ so_far.reads;
    writes = gives.reads.write_faults ∙ so_far.writes;
  },
)
prints_next client output message (Ok (Some Done)) client' output' gives part = λ first start messages so_far. (
  (
    message_value message,
    part.0,
    part.1,
    read_up_to first messages (message_value message) client' (given_next first messages client client' message so_far.given gives),
    Appends-trans start.held output.held output'.held (texts_of messages) (result_text part.0) so_far.printed part.2,
  ),
  (still_sound first client client' message (so_far.reads, so_far.writes) gives, part.3 ∙ so_far.faults),
)
prints_next client output message (Ok (Some PeerFault)) client' output' gives part = λ first start messages so_far. (
  (
    inr (
      message_value message,
      part.0,
      read_up_to first messages (message_value message) client' (given_next first messages client client' message so_far.given gives),
    ),
    subst (λ (now : OutputState). Appends start.held now.held (texts_of messages)) (sym part.1) so_far.printed,
  ),
  (still_sound first client client' message (so_far.reads, so_far.writes) gives, ap (λ (now : OutputState). now.faults) part.1 ∙ so_far.faults),
)
prints_next client output message (Ok (Some OutputFault)) client' output' gives part = λ first start messages so_far. (
  (
    message_value message,
    read_up_to first messages (message_value message) client' (given_next first messages client client' message so_far.given gives),
    subst (λ text. AppendsPrefix start.held output'.held text) (sym (text_more messages (message_value message)))
        (prefix_after start.held output.held output'.held (texts_of messages) (part_text (part_of (message_value message))) so_far.printed part.0),
    subst (λ faults. CountHasRisen faults output'.faults) so_far.faults part.1,
  ),
  still_sound first client client' message (so_far.reads, so_far.writes) gives,
)
prints_next client output message (Ok (Some NetFault)) client' output' gives part = absurd part
prints_next client output message (Err fault) client' output' gives part = tt

-- no message was given
pub prints_fault : (E : Type 0) (client : ClientState) (output : OutputState) (fault : ClientFault) (client' : ClientState) → GivesNext client (Err fault) client' → (fault ≡ fault_of.NoMemory → ⊥)
    → PrintsNext {E = E} client output (Ok (Some (end_by fault))) client' output
prints_fault E client output fault_of.ReadFault client' gives memory = λ first start messages so_far.
    ((reading_fails first messages client client' so_far.given gives, so_far.printed), so_far.faults)
prints_fault E client output (fault_of.PeerMessage place) client' gives memory = λ first start messages so_far.
    ((inl (refused_early first messages client client' place so_far.given gives), so_far.printed), (sound_refused first client client' place (so_far.reads, so_far.writes) gives, so_far.faults))
prints_fault E client output fault_of.EndOfInput client' gives memory = λ first start messages so_far.
    ((inl (ended_early first messages client client' so_far.given gives), so_far.printed), (sound_ended first client client' (so_far.reads, so_far.writes) gives, so_far.faults))
prints_fault E client output fault_of.WriteFault client' gives memory = absurd gives.next
prints_fault E client output fault_of.NoMemory client' gives memory = absurd (memory refl)

-- the end by a fault, in what the code answers
pub prints_end : {E : Type 0} (client : ClientState) (output : OutputState) (fault : ClientFault) (result : Result (Option SearchEnd) E) (client' : ClientState) → GivesNext client (Err fault) client'
    → IfOk result (λ end. (fault ≡ fault_of.NoMemory → ⊥) × (end ≡ Some (end_by fault))) → PrintsNext client output result client' output
prints_end {E} client output fault (Ok end) client' gives is =
    subst (λ (e : Option SearchEnd). PrintsNext {E = E} client output (Ok e) client' output) (sym is.1) (prints_fault E client output fault client' gives is.0)
prints_end client output fault (Err memory) client' gives is = tt

-- memory ran out at a message that was given, of which nothing was printed
pub stops_printing : {E : Type 0} (client : ClientState) (output : OutputState) (message : Message) (result : Result (Option SearchEnd) E) (client' : ClientState) (output' : OutputState)
    → GivesNext client (Ok message) client' → OnErr result (output' ≡ output) → OnErr result (StopsPrinting client output client' output')
stops_printing client output message (Ok end) client' output' gives same = tt
stops_printing client output message (Err fault) client' output' gives same = λ first start messages so_far. (
  read_before first messages (message_value message) client' (given_next first messages client client' message so_far.given gives),
  subst (λ (now : OutputState). Appends start.held now.held (texts_of messages)) (sym same) so_far.printed,
  (still_sound first client client' message (so_far.reads, so_far.writes) gives, ap (λ (now : OutputState). now.faults) same ∙ so_far.faults),
)

-- or before the next was given
pub stops_reading : {E : Type 0} (client : ClientState) (output : OutputState) (fault : ClientFault) (result : Result (Option SearchEnd) E) (client' : ClientState)
    → GivesNext client (Err fault) client' → OnErr result (fault ≡ fault_of.NoMemory) → OnErr result (StopsPrinting client output client' output)
stops_reading client output fault (Ok end) client' gives memory = tt
stops_reading client output fault (Err none) client' gives memory = λ first start messages so_far. (
  read_so_far first messages client client' fault so_far.given gives,
  so_far.printed,
  (
    sound_stopped first client client' (so_far.reads, so_far.writes) (subst (λ (f : ClientFault). GivesNext client (Err f) client') memory gives),
    so_far.faults,
  ),
)

-- the client answers no fault where the search goes on
pub live_after : {E : Type 0} (result : Result (Option SearchEnd) E) (now : Option ClientFault) → now ≡ None → IfOk result (λ end. end ≡ None → now ≡ None)
live_after (Ok end) now live = λ none. live
live_after (Err fault) now live = tt

-- a search that has not ended had no fault of its client
pub live_not : {E : Type 0} (result : Result (Option SearchEnd) E) (fault : ClientFault) (now : Option ClientFault)
    → IfOk result (λ end. (fault ≡ fault_of.NoMemory → ⊥) × (end ≡ Some (end_by fault))) → IfOk result (λ end. end ≡ None → now ≡ None)
live_not (Ok end) fault now is = λ none. absurd (let wrong : None ≡ Some (end_by fault) = sym none ∙ is.1 in cc)
live_not (Err memory) fault now is = tt

-- ---- the request

-- what is printed at first
plainly_begun : (spec : Search) (old mid : ClientState) (output : OutputState) → old ≡ fresh old.link
    → Asks (message_octets (plain_request spec)) old (Ok tt) mid → IsPrinted old.link output [] mid output
plainly_begun spec old mid output begun asks =
    let octets = message_octets (plain_request spec) in
    let none : HasGiven old.link [] old = subst (λ c. HasGiven old.link [] c) (sym begun) (given_none old.link) in
    record {
      given = given_asked old.link [] octets old mid (Ok tt) none asks;
      live = asks.fault;
      parts = All-nil (λ (w : MessageValue). goes_on (part_of w) ≡ true);
      printed = Appends-nil output.held;
      faults = refl;
      reads = asks.read_faults;
      writes = asks.writes.1;
    }

-- it was written, and then the answer was printed
pub plainly_asked : (spec : Search) (old mid : ClientState) (new : LinkState) (output : OutputState) (end : SearchEnd) (output' : OutputState) → old ≡ fresh old.link
    → Asks (message_octets (plain_request spec)) old (Ok tt) mid → new.held ≡ mid.link.held
    → ((first : LinkState) (start : OutputState) (messages : List MessageValue) → IsPrinted first start messages mid output → Answers first new start end output')
    → AsksPlainly spec old.link new output end output'
plainly_asked spec old mid new output end output' begun asks held answers =
    inl (
      subst (λ h. Appends old.link.held h (message_octets (plain_request spec))) (sym held) asks.writes.0,
      answers old.link output [] (plainly_begun spec old mid output begun asks),
    )

-- after the request is written its answer is printed up to where memory ran out
pub plainly_in_part : {E : Type 0} (result : Result SearchEnd E) (spec : Search) (old mid : ClientState) (new : LinkState) (output output' : OutputState) → old ≡ fresh old.link
    → Asks (message_octets (plain_request spec)) old (Ok tt) mid → new.held ≡ mid.link.held
    → OnErr result ((first : LinkState) (start : OutputState) (messages : List MessageValue) → IsPrinted first start messages mid output → AnswersInPart first new start output')
    → OnErr result (AsksPlainlyInPart spec old.link new output output')
plainly_in_part (Ok end) spec old mid new output output' begun asks held answers = tt
plainly_in_part (Err fault) spec old mid new output output' begun asks held answers =
    inr (
      subst (λ h. Appends old.link.held h (message_octets (plain_request spec))) (sym held) asks.writes.0,
      answers old.link output [] (plainly_begun spec old mid output begun asks),
    )

-- writing it ran out of memory
pub plainly_unasked : {E : Type 0} (fault : ClientFault) (result : Result SearchEnd E) (spec : Search) (old new : ClientState) (output : OutputState)
    → Asks (message_octets (plain_request spec)) old (Err fault) new → OnErr result (fault ≡ fault_of.NoMemory) → OnErr result (AsksPlainlyInPart spec old.link new.link output output)
plainly_unasked fault (Ok end) spec old new output asks memory = tt
plainly_unasked fault (Err none) spec old new output asks memory =
    let same = unwritten (message_octets (plain_request spec)) fault old new asks memory in inl (same.0, same.1, refl)

-- after the request is written the answer that is printed is that of this search
pub plainly_asked_ok : {E : Type 0} (result : Result SearchEnd E) (spec : Search) (old mid : ClientState) (new : LinkState) (output output' : OutputState) → old ≡ fresh old.link
    → Asks (message_octets (plain_request spec)) old (Ok tt) mid → new.held ≡ mid.link.held
    → IfOk result (λ end. (first : LinkState) (start : OutputState) (messages : List MessageValue) → IsPrinted first start messages mid output → Answers first new start end output')
    → IfOk result (λ end. AsksPlainly spec old.link new output end output')
plainly_asked_ok (Ok end) spec old mid new output output' begun asks held answers = plainly_asked spec old mid new output end output' begun asks held answers
plainly_asked_ok (Err fault) spec old mid new output output' begun asks held answers = tt

-- writing it failed
pub plainly_ended : {E : Type 0} (fault : ClientFault) (result : Result SearchEnd E) (spec : Search) (old new : ClientState) (output : OutputState)
    → Asks (message_octets (plain_request spec)) old (Err fault) new
    → IfOk result (λ end. (fault ≡ fault_of.NoMemory → ⊥) × (end ≡ end_by fault)) → IfOk result (λ end. AsksPlainly spec old.link new.link output end output)
plainly_ended fault (Err memory) spec old new output asks is = tt
plainly_ended fault_of.WriteFault (Ok end) spec old new output asks is = inr (is.1, refl, asks.writes)
plainly_ended fault_of.ReadFault (Ok end) spec old new output asks is = absurd asks.writes
plainly_ended (fault_of.PeerMessage place) (Ok end) spec old new output asks is = absurd asks.writes
plainly_ended fault_of.EndOfInput (Ok end) spec old new output asks is = absurd asks.writes
plainly_ended fault_of.NoMemory (Ok end) spec old new output asks is = absurd (is.0 refl)
