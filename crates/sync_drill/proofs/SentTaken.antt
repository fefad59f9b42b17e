-- A message of a search is read from its encoding as what it is, and a copy takes it as that.
use Rattle.std.proofs.Common.{◌≡◌, ◌<◌, ◌≤◌, ◌^◌, ℕ, Bool, true, false, cond, Option, List, [], ◌∷◌, ◌++◌, length, append-nil, Some, None, Ok, refl, ap, sym, ◌∙◌, arith, subst, inr}
use Rattle.std.specs.Prelude.{All, pos, ◌==◌, if◌then◌else◌, ◌||◌, not}
use Rattle.std.specs.Ordering.{int_eq}
use Rattle.std.proofs.lemmas.List.Elements.{All-nil, All-cons}
use Rattle.ldap_constants.specs.declared.result_codes.TheConstants.{SUCCESS, BUSY}
use Rattle.csn_cookie.specs.Cookie.{cookie_text}
use Rattle.csn_cookie.specs.declared.cookie.Cookie.{Cookie}
use Rattle.csn_cookie.proofs.SizeLemmas.{IsText, cookie_size}
use Rattle.dn_names.specs.Names.{TypeAndValue}
use Rattle.dn_names.specs.Sound.{IsName}
use Rattle.dn_names.specs.Writing.{name_text}
use Rattle.entry_tree.specs.declared.entry.Entry.{Entry}
use Rattle.ldap_messages.specs.declared.message.Message.{Message}
use Rattle.ldap_messages.specs.Frame.{read_of, message}
use Rattle.ldap_messages.specs.Operation.{IsHeld}
use Rattle.ldap_messages.specs.Whole.{MessageValue, message_value, message_octets, HasSpelling}
use Rattle.ldap_messages.proofs.MessageSpellings.{message_read_again}
use Rattle.sync_model.specs.Copy as model
use Rattle.sync_model.specs.Copy.{Copy, SyncSession, Answer, Fault as fault}
use Rattle.sync_model.specs.Message.{SyncMessage, phase_end}
use Rattle.sync_model.specs.Message.SyncMessage.{AddOrModify, Delete, IdSet, RefreshDelete, RefreshPresent, Done}
use Rattle.sync_model.specs.Within.{taken_within, limit_fault, refused_by}
use Rattle.sync_model.proofs.Gather.{Each}
use Rattle.sync_wire.specs.CanBeSent.{CanBeSent}
use Rattle.sync_wire.specs.Decoding.{said}
use Rattle.sync_wire.specs.Kind.{tag_of}
use Rattle.sync_wire.specs.Law.{IsIdentity, CanBeDecoded}
use Rattle.sync_wire.specs.Sending as wire
use Rattle.sync_wire.proofs.Lengths.{put_size, set_size, phase_size, done_size, busy_size}
use Rattle.sync_wire.proofs.Notified.{sent_round_trip}
use Rattle.sync_wire.proofs.OfSearch.{IsOfSearch, end_with, of_each, gone_short, short_text}
use Rattle.sync_consumer.specs.Taking.{answer_taken, taken_of, taken_by, taken_as, without_search}
use Rattle.sync_consumer.specs.declared.consumer.Taken.{Taken}
use Rattle.sync_consumer.specs.declared.consumer.Taken.TheVariants.{Fault}
use Rattle.sync_consumer.specs.declared.fault.PeerFault.TheVariants as peer
use Rattle.sync_provider.specs.Search.{busy_end}
use Rattle.sync_drill.specs.Delivered.{IsReadFrom, WasTaken, encoded}

-- ---- what is read

read_again : (whole : MessageValue) → HasSpelling whole → IsHeld whole.1.0 → length (message_octets whole) ≤ 4194304
    → read_of (message_octets whole) ≡ message whole (length (message_octets whole))
read_again whole has held short =
    let octets = message_octets whole in
    let again : read_of (octets ++ []) ≡ message whole (length octets) = message_read_again {E = Unit {0}} (Ok octets) whole has refl (omega (arith, short)) held short [] in
    ap read_of (sym (append-nil octets)) ∙ again

abbrev IsRead : SyncMessage → Type 0
IsRead m = read_of (encoded (1, m)) ≡ message (wire.sent 1 m) (length (encoded (1, m)))

put_read : (adds : Bool) (e : Entry) (cookie : Option (List ℕ)) → CanBeSent e → IsText cookie → IsRead (AddOrModify adds e cookie)
put_read adds e cookie can text = read_again (wire.sent 1 (AddOrModify adds e cookie)) (omega arith, tt) tt (put_size adds e cookie can text)

gone_read : (uuid : ℕ) (dn : List (List TypeAndValue)) (cookie : Option (List ℕ)) → IsIdentity uuid → IsName dn → IsText cookie → IsRead (Delete uuid (name_text dn) cookie)
gone_read uuid dn cookie range name text = read_again (wire.sent 1 (Delete uuid (name_text dn) cookie)) (omega arith, tt) tt (gone_short uuid dn cookie range name text)

set_read : (deletes : Bool) (uuids : List ℕ) → Each IsIdentity uuids → length uuids ≤ 256 → IsRead (IdSet deletes uuids None)
set_read deletes uuids range few = read_again (wire.sent 1 (IdSet deletes uuids None)) (omega arith, tt) tt (set_size deletes uuids few)

phase_read : (deletes done : Bool) (cookie : Option (List ℕ)) → IsText cookie → IsRead (phase_end deletes done cookie)
phase_read true done cookie text = read_again (wire.sent 1 (RefreshDelete done cookie)) (omega arith, tt) tt (phase_size true done cookie text)
phase_read false done cookie text = read_again (wire.sent 1 (RefreshPresent done cookie)) (omega arith, tt) tt (phase_size false done cookie text)

end_read : (deletes : Bool) (cookie : Cookie) → IsRead (end_with deletes cookie)
end_read deletes cookie = read_again (wire.sent 1 (end_with deletes cookie)) (omega arith, tt) (omega arith) (done_size deletes cookie)

busy_read : IsRead busy_end
busy_read = read_again (wire.sent 1 busy_end) (omega arith, tt) (omega arith) busy_size

same_message : (one other : MessageValue) (count more : ℕ) → message one count ≡ message other more → one ≡ other
same_message one other count more same = cc

-- what is read from the encoding of a message of a search is that message
pub read_is : (m : SyncMessage) → IsOfSearch m → (taken : Message) → IsReadFrom (encoded (1, m)) taken → message_value taken ≡ wire.sent 1 m
read_is m is taken read =
    let whole : IsRead m =
    of_each IsRead (record { puts = put_read; gones = gone_read; sets = set_read; phases = phase_read; ends = end_read; busy = busy_read }) m is in
    same_message (message_value taken) (wire.sent 1 m) read.0 (length (encoded (1, m))) (sym read.1 ∙ whole)

-- ---- what it says

all_of : (uuids : List ℕ) → Each IsIdentity uuids → All IsIdentity uuids
all_of [] each = All-nil IsIdentity
all_of (u ∷ us) each = All-cons IsIdentity u us each.0 (all_of us each.1)

module _ (persisting : Bool) where
  abbrev Can : SyncMessage → Type 0
  Can m = CanBeDecoded persisting m

  put_can : (adds : Bool) (e : Entry) (cookie : Option (List ℕ)) → CanBeSent e → IsText cookie → Can (AddOrModify adds e cookie)
  put_can adds e cookie can text = (can, short_text cookie text)

  gone_can : (uuid : ℕ) (dn : List (List TypeAndValue)) (cookie : Option (List ℕ)) → IsIdentity uuid → IsName dn → IsText cookie → Can (Delete uuid (name_text dn) cookie)
  gone_can uuid dn cookie range name text = (range, short_text cookie text)

  set_can : (deletes : Bool) (uuids : List ℕ) → Each IsIdentity uuids → length uuids ≤ 256 → Can (IdSet deletes uuids None)
  set_can deletes uuids range few = (all_of uuids range, omega (arith, few), tt)

  phase_can : (deletes done : Bool) (cookie : Option (List ℕ)) → IsText cookie → Can (phase_end deletes done cookie)
  phase_can true done cookie text = short_text cookie text
  phase_can false done cookie text = short_text cookie text

  end_can : (deletes : Bool) (cookie : Cookie) → Can (end_with deletes cookie)
  end_can deletes cookie = let short : length (cookie_text cookie) < 2 ^ 24 = omega (arith, cookie_size cookie) in short

  busy_can : Can (Done (pos BUSY) None)
  busy_can = tt

  can_be_decoded : (m : SyncMessage) → IsOfSearch m → Can m
  can_be_decoded m is = of_each Can (record { puts = put_can; gones = gone_can; sets = set_can; phases = phase_can; ends = end_can; busy = busy_can }) m is

-- ---- what a copy makes of it

-- a copy with a search of the message ID 1 takes a message of a search as what it is
takes_as : (copy : Copy) (session : SyncSession) (m : SyncMessage) (taken : Message) → copy.session ≡ Some session → session.id ≡ 1 → IsOfSearch m
    → message_value taken ≡ wire.sent 1 m → taken_of copy taken ≡ ((taken_within 1 copy m).0, answer_taken (tag_of taken.op) (taken_within 1 copy m).1)
takes_as copy session m taken runs one is same =
    ap (λ found. taken_by found copy taken) runs
    ∙ (λ i. if id i == one i then taken_as (tag_of taken.op) (id i) copy (said session.persisting taken) else (without_search copy, Fault (peer.OutOfPlace (tag_of taken.op))))
    ∙ ap (λ s. taken_as (tag_of taken.op) 1 copy s) (sent_round_trip session.persisting 1 m taken (can_be_decoded session.persisting m is) same)
  where
    id : taken.id ≡ 1
    id = ap (λ (w : MessageValue). w.0) same

-- and the copy is then what the model makes of it
pub takes_sent : (copy : Copy) (session : SyncSession) (m : SyncMessage) (taken : Message) → copy.session ≡ Some session → session.id ≡ 1 → IsOfSearch m
    → message_value taken ≡ wire.sent 1 m → (taken_of copy taken).0 ≡ (taken_within 1 copy m).0
takes_sent copy session m taken runs one is same = ap (λ (o : Copy × Taken). o.0) (takes_as copy session m taken runs one is same)

-- a message that is refused is not taken
pub never_taken : (copy : Copy) (session : SyncSession) (m : SyncMessage) (taken : Message) (fault' : model.Fault) → copy.session ≡ Some session → session.id ≡ 1 → IsOfSearch m
    → message_value taken ≡ wire.sent 1 m → taken_within 1 copy m ≡ model.refused copy fault' → WasTaken (taken_of copy taken).1 → ⊥
never_taken copy session m taken fault' runs one is same refused =
    subst (λ (t : Taken). WasTaken t → ⊥)
    (sym (ap (λ (o : Copy × Taken). o.1) (takes_as copy session m taken runs one is same) ∙ ap (λ (o : Copy × Answer). answer_taken (tag_of taken.op) o.1) refused))
    (λ was. was)

-- the end with the code busy is a message of a search
pub busy_is_of_search : IsOfSearch busy_end
busy_is_of_search = inr (refl, refl)

-- the end with the code busy ends a search that goes on after its refresh, and leaves the entries
pub busy_over : (copy : Copy) (session : SyncSession) → copy.session ≡ Some session → session.id ≡ 1 → session.persists ≡ true → taken_within 1 copy busy_end ≡ model.over copy (pos BUSY)
busy_over copy session runs one goes = λ i. refused_by (limit_fault false (outcome i).0 (outcome i).1) copy (outcome i)
  where
    outcome : model.taken 1 copy busy_end ≡ model.over copy (pos BUSY)
    outcome =
        ap (λ found. model.taken_by found 1 copy busy_end) runs
        ∙ (λ i. cond (1 == one i)
        (cond (goes i || not (int_eq (pos BUSY) (pos SUCCESS))) (model.over copy (pos BUSY)) (model.taken_done copy session None))
        (model.refused copy fault.OutOfPlace))
