-- The tags of operations (RFC 4511, sections 4.2 to 4.13).
use Rattle.std.specs.Prelude.{ℕ}
use Rattle.schema_rules.specs.declared.raw.Change.{Change}
use Rattle.schema_rules.specs.declared.raw.Change.TheVariants.{Add, Delete, Modify, Rename}
use Rattle.ldap_messages.specs.declared.protocol.Protocol.{Protocol}
use Rattle.ldap_messages.specs.declared.protocol.Protocol.TheVariants.{BindRequest, BindResponse, UnbindRequest, SearchRequest, SearchResultEntry, SearchResultDone, Write, ModifyResponse, AddResponse, DelResponse, ModifyDnResponse, CompareRequest, CompareResponse, AbandonRequest, SearchResultReference, ExtendedRequest, ExtendedResponse, IntermediateResponse}

-- [APPLICATION 6], 8, 10 and 12
abbrev pub tag_of_change : Change → ℕ
tag_of_change (Modify name edits) = 102
tag_of_change (Add name attributes) = 104
tag_of_change (Delete name) = 74
tag_of_change (Rename name rdn deletes superior) = 108

-- the octet of [APPLICATION n]: 64 + n, and 32 more where the operation is constructed
abbrev pub tag_of : Protocol → ℕ
tag_of (BindRequest version name authentication) = 96
tag_of (BindResponse result sasl) = 97
tag_of UnbindRequest = 66
tag_of (SearchRequest asked) = 99
tag_of (SearchResultEntry name attributes) = 100
tag_of (SearchResultDone result) = 101
tag_of (Write change) = tag_of_change change
tag_of (ModifyResponse result) = 103
tag_of (AddResponse result) = 105
tag_of (DelResponse result) = 107
tag_of (ModifyDnResponse result) = 109
tag_of (CompareRequest entry name value) = 110
tag_of (CompareResponse result) = 111
tag_of (AbandonRequest id) = 80
tag_of (SearchResultReference uris) = 115
tag_of (ExtendedRequest name value) = 119
tag_of (ExtendedResponse result name value) = 120
tag_of (IntermediateResponse name value) = 121
