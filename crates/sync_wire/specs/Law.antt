-- What is sent is decoded.
use Rattle.std.specs.Prelude.{◌≡◌, ◌<◌, ◌^◌, ⊤, ℕ, Bool, false, Option, Some, None, Ok, length, All}
use Rattle.ldap_messages.specs.declared.message.Message.{Message}
use Rattle.ldap_messages.specs.Whole.{message_value}
use Rattle.sync_model.specs.Message.{CookieText, SyncMessage}
use Rattle.sync_model.specs.Message.SyncMessage.{AddOrModify, Delete, Present, IdSet, NewCookie, RefreshDelete, RefreshPresent, Done, Ignored}
use Rattle.sync_wire.specs.CanBeSent.{CanBeSent}
use Rattle.sync_wire.specs.Sending.{sent}
use Rattle.sync_wire.specs.Decoding.{said}

-- an identity has sixteen octets
abbrev pub IsIdentity : ℕ → Type 0
IsIdentity uuid = uuid < 2 ^ 128

-- a value with the cookie is not too long for the lengths of BER that are read
abbrev pub IsShort : Option CookieText → Type 0
IsShort None = ⊤
IsShort (Some cookie) = length cookie < 2 ^ 24

-- what a Sync Done control says is not too long either
abbrev pub HasShort : Option (Bool × Option CookieText) → Type 0
HasShort None = ⊤
HasShort (Some control) = IsShort control.1

-- the message can be read again as it was sent, in a refresh or after it: an entry is one that can
-- be sent, identities have sixteen octets, a syncIdSet has not too many of them, and only a refresh
-- names an entry as present
abbrev pub CanBeDecoded : (persisting : Bool) → SyncMessage → Type 0
CanBeDecoded persisting (AddOrModify adds entry cookie) = CanBeSent entry × IsShort cookie
CanBeDecoded persisting (Delete uuid name cookie) = IsIdentity uuid × IsShort cookie
CanBeDecoded persisting (Present uuid cookie) =
    (persisting ≡ false) × IsIdentity uuid × IsShort cookie
CanBeDecoded persisting (IdSet deletes uuids cookie) =
    All IsIdentity uuids × (length uuids < 2 ^ 24) × IsShort cookie
CanBeDecoded persisting (NewCookie cookie) = IsShort (Some cookie)
CanBeDecoded persisting (RefreshDelete done cookie) = IsShort cookie
CanBeDecoded persisting (RefreshPresent done cookie) = IsShort cookie
CanBeDecoded persisting (Done code control) = HasShort control
CanBeDecoded persisting Ignored = ⊤

-- the message of LDAP that a message is sent as says that message again
abbrev pub SentIsDecoded : Type 0
SentIsDecoded =
    (persisting : Bool) (id : ℕ) (event : SyncMessage) (message : Message)
    → CanBeDecoded persisting event
    → message_value message ≡ sent id event → said persisting message ≡ Ok event
