-- The messages of a search, and which they are.
use Rattle.std.proofs.Common.{◌≡◌, ◌≤◌, ℕ, Bool, true, false, Option, List, length, Some, None, ap, subst, sym, arith, inl, inr}
use Rattle.std.specs.Prelude.{◌⊎◌, pos}
use Rattle.ldap_constants.specs.declared.result_codes.TheConstants.{SUCCESS, BUSY}
use Rattle.csn_cookie.specs.Cookie.{cookie_text}
use Rattle.csn_cookie.specs.declared.cookie.Cookie.{Cookie}
use Rattle.csn_cookie.proofs.SizeLemmas.{IsText, cookie_size, none_text}
use Rattle.dn_names.specs.Names.{TypeAndValue}
use Rattle.dn_names.specs.Sound.{IsName}
use Rattle.dn_names.specs.Writing.{name_text}
use Rattle.dn_names.proofs.Sizes.{name_size}
use Rattle.ldap_messages.specs.Whole.{message_octets}
use Rattle.entry_tree.specs.declared.entry.Entry.{Entry}
use Rattle.sync_model.specs.Message.{SyncMessage, phase_end}
use Rattle.sync_model.specs.Message.SyncMessage.{AddOrModify, Delete, Present, IdSet, NewCookie, RefreshDelete, RefreshPresent, Done, Ignored}
use Rattle.sync_model.proofs.FewNames.{IsFew}
use Rattle.sync_model.proofs.Gather.{Each, IsPart}
use Rattle.sync_wire.specs.CanBeSent.{CanBeSent}
use Rattle.sync_wire.specs.Law.{IsIdentity}
use Rattle.sync_wire.specs.Law as wire_short
use Rattle.sync_wire.specs.Sending as wire
use Rattle.sync_wire.proofs.Lengths.{gone_size}

-- a message of a search: an entry that can be sent, the name of one that is gone, a set of a few identities, the end of
-- the refresh of a search that goes on, or the end with the text of a cookie or with busy
abbrev pub IsOfSearch : SyncMessage → Type 0
IsOfSearch (AddOrModify adds entry cookie) = CanBeSent entry × IsText cookie
IsOfSearch (Delete uuid name cookie) = IsIdentity uuid × ((dn : List (List TypeAndValue)) × IsName dn × (name ≡ name_text dn)) × IsText cookie
IsOfSearch (Present uuid cookie) = ⊥
IsOfSearch (IdSet deletes uuids cookie) = Each IsIdentity uuids × (length uuids ≤ 256) × (cookie ≡ None)
IsOfSearch (NewCookie cookie) = ⊥
IsOfSearch (RefreshDelete done cookie) = IsText cookie
IsOfSearch (RefreshPresent done cookie) = IsText cookie
IsOfSearch (Done code control) =
    ((cookie : Cookie) × (deletes : Bool) × (code ≡ pos SUCCESS) × (control ≡ Some (deletes, Some (cookie_text cookie)))) ⊎ ((code ≡ pos BUSY) × (control ≡ None))
IsOfSearch Ignored = ⊥

-- a message of a part is one
pub of_part : (deletes : Bool) (m : SyncMessage) → IsPart deletes CanBeSent IsIdentity m → IsFew m → IsOfSearch m
of_part deletes (AddOrModify adds e cookie) part few = (part.1, none_text cookie part.0)
of_part deletes (IdSet d uuids cookie) part few = (part.2, few, part.0)
of_part deletes (Delete uuid name cookie) part few = absurd part
of_part deletes (Present uuid cookie) part few = absurd part
of_part deletes (NewCookie cookie) part few = absurd part
of_part deletes (RefreshDelete done cookie) part few = absurd part
of_part deletes (RefreshPresent done cookie) part few = absurd part
of_part deletes (Done code control) part few = absurd part
of_part deletes Ignored part few = absurd part

-- so is the end of a phase with the text of a cookie
pub of_phase : (deletes done : Bool) (cookie : Option (List ℕ)) → IsText cookie → IsOfSearch (phase_end deletes done cookie)
of_phase true done cookie text = text
of_phase false done cookie text = text

-- the end of a search with its cookie
abbrev pub end_with : Bool → Cookie → SyncMessage
end_with deletes cookie = Done (pos SUCCESS) (Some (deletes, Some (cookie_text cookie)))

-- what holds of the six holds of each
pub record OfAll (P : SyncMessage → Type 0) : Type 0 where
  pub puts : (adds : Bool) (e : Entry) (cookie : Option (List ℕ)) → CanBeSent e → IsText cookie → P (AddOrModify adds e cookie)
  pub gones : (uuid : ℕ) (dn : List (List TypeAndValue)) (cookie : Option (List ℕ)) → IsIdentity uuid → IsName dn → IsText cookie → P (Delete uuid (name_text dn) cookie)
  pub sets : (deletes : Bool) (uuids : List ℕ) → Each IsIdentity uuids → length uuids ≤ 256 → P (IdSet deletes uuids None)
  pub phases : (deletes done : Bool) (cookie : Option (List ℕ)) → IsText cookie → P (phase_end deletes done cookie)
  pub ends : (deletes : Bool) (cookie : Cookie) → P (end_with deletes cookie)
  pub busy : P (Done (pos BUSY) None)

-- what holds of the six kinds of messages holds of each message of a search
pub of_each : (P : SyncMessage → Type 0) → OfAll P → (m : SyncMessage) → IsOfSearch m → P m
of_each P all (AddOrModify adds e cookie) is = all.puts adds e cookie is.0 is.1
of_each P all (Delete uuid name cookie) is = subst (λ n. P (Delete uuid n cookie)) (sym is.1.2) (all.gones uuid is.1.0 cookie is.0 is.1.1 is.2)
of_each P all (Present uuid cookie) is = absurd is
of_each P all (IdSet deletes uuids cookie) is = subst (λ c. P (IdSet deletes uuids c)) (sym is.2) (all.sets deletes uuids is.0 is.1)
of_each P all (NewCookie cookie) is = absurd is
of_each P all (RefreshDelete done cookie) is = all.phases true done cookie is
of_each P all (RefreshPresent done cookie) is = all.phases false done cookie is
of_each P all (Done code control) (inl is) = subst (λ c. P (Done c control)) (sym is.2) (subst (λ c. P (Done (pos SUCCESS) c)) (sym is.3) (all.ends is.1 is.0))
of_each P all (Done code control) (inr is) = subst (λ c. P (Done c control)) (sym is.0) (subst (λ c. P (Done (pos BUSY) c)) (sym is.1) all.busy)
of_each P all Ignored is = absurd is

-- ---- its length

abbrev IsShort : SyncMessage → Type 0
IsShort m = length (message_octets (wire.sent 1 m)) ≤ 4194304

-- the message of an entry that is gone is within the limit of a message
pub gone_short : (uuid : ℕ) (dn : List (List TypeAndValue)) (cookie : Option (List ℕ)) → IsIdentity uuid → IsName dn → IsText cookie → IsShort (Delete uuid (name_text dn) cookie)
gone_short uuid dn cookie range name text = gone_size uuid (name_text dn) cookie (name_size dn name) text

-- ---- what it says

-- the text of a cookie is not too long
pub short_text : (cookie : Option (List ℕ)) → IsText cookie → wire_short.IsShort cookie
short_text None is = tt
short_text (Some text) is = omega (arith, ap (λ (x : List ℕ). length x) is.1, cookie_size is.0)
