-- The operations (RFC 4511, section 4.2 to 4.14): the choice by their tag.
use Rattle.std.specs.Prelude.{◌≡◌, ℕ, ◌≤◌, List, true, if◌then◌else◌, Option, ℤ, FitsSigned}
use Rattle.std.specs.Int.{w64}
use Rattle.ldap_ber.specs.Reader.{has_tag}
use Rattle.ldap_ber.specs.Form.{Form}
use Rattle.ldap_ber.specs.Reading.{Reading, made_at}
use Rattle.schema_rules.specs.declared.raw.RawAttribute.{RawAttribute}
use Rattle.schema_rules.specs.declared.raw.RawEdit.{RawEdit}
use Rattle.schema_rules.specs.declared.raw.Change.{Change}
use Rattle.schema_rules.specs.declared.raw.Change.TheVariants.{Add, Delete, Modify, Rename as RenameChange}
use Rattle.ldap_filter.specs.FilterTree.{tree_of, depth}
use Rattle.ldap_parts.specs.Filters.{have_piece}
use Rattle.ldap_messages.specs.declared.bind.Authentication.{Authentication}
use Rattle.ldap_messages.specs.declared.ldap_result.LdapResult.{LdapResult}
use Rattle.ldap_messages.specs.declared.protocol.Protocol.{Protocol}
use Rattle.ldap_messages.specs.declared.protocol.Protocol.TheVariants.{BindRequest, BindResponse, UnbindRequest, SearchRequest, SearchResultEntry, SearchResultDone, Write, ModifyResponse, AddResponse, DelResponse, ModifyDnResponse, CompareRequest, CompareResponse, AbandonRequest, SearchResultReference, ExtendedRequest, ExtendedResponse, IntermediateResponse}
use Rattle.ldap_messages.specs.Uris.{HaveOne}
use Rattle.ldap_messages.specs.LdapResult.{HasReferral, ResponseForm, response_at, response_octets}
use Rattle.ldap_messages.specs.Bind.{BindForm, bind_at, bind_octets, BindResponseForm, bind_response_at, bind_response_octets}
use Rattle.ldap_messages.specs.Unbind.{UnbindForm, unbind_at, unbind_octets}
use Rattle.ldap_messages.specs.Search.{SearchForm, search_at, search_octets, EntryForm, entry_at, entry_octets, ReferenceForm, reference_at, reference_octets, SearchParts, scope_number}
use Rattle.ldap_messages.specs.Modify.{ModifyForm, modify_at, modify_octets}
use Rattle.ldap_messages.specs.Add.{AddForm, add_at, add_octets}
use Rattle.ldap_messages.specs.Delete.{DeleteForm, delete_at, delete_octets}
use Rattle.ldap_messages.specs.ModifyDn.{RenameForm, rename_at, rename_octets, Rename}
use Rattle.ldap_messages.specs.Compare.{CompareForm, compare_at, compare_octets}
use Rattle.ldap_messages.specs.Abandon.{AbandonForm, abandon_at, abandon_octets}
use Rattle.ldap_messages.specs.Extended.{ExtendedForm, extended_at, extended_octets, ExtendedResponseForm, extended_response_at, extended_response_octets}
use Rattle.ldap_messages.specs.Intermediate.{IntermediateForm, intermediate_at, intermediate_octets}

-- an operation without where it lies in memory: its components in order
pub data Operation : Type 0 where
  bind : ℕ × (List ℕ × Authentication) → Operation
  unbind : Unit {0} → Operation
  search : SearchParts → Operation
  modify : List ℕ × List RawEdit → Operation
  add : List ℕ × List RawAttribute → Operation
  delete : List ℕ → Operation
  rename : Rename → Operation
  compare : List ℕ × (List ℕ × List ℕ) → Operation
  abandon : ℤ → Operation
  extended : List ℕ × Option (List ℕ) → Operation
  bind_response : LdapResult × Option (List ℕ) → Operation
  entry : List ℕ × List RawAttribute → Operation
  search_done : LdapResult → Operation
  reference : List (List ℕ) → Operation
  modify_response : LdapResult → Operation
  add_response : LdapResult → Operation
  delete_response : LdapResult → Operation
  rename_response : LdapResult → Operation
  compare_response : LdapResult → Operation
  extended_response : LdapResult × (Option (List ℕ) × Option (List ℕ)) → Operation
  intermediate : Option (List ℕ) × Option (List ℕ) → Operation

abbrev pub change_of : Change → Operation
change_of (Add name attributes) = add (name, attributes)
change_of (Delete name) = delete name
change_of (Modify name edits) = modify (name, edits)
change_of (RenameChange name rdn goes superior) = rename (name, (rdn, (goes, superior)))

unfoldable pub operation_of : Protocol → Operation
operation_of (BindRequest version name authentication) = bind (version, (name, authentication))
operation_of (BindResponse result sasl) = bind_response (result, sasl)
operation_of UnbindRequest = unbind tt
operation_of (SearchRequest asked) =
    search (
      (
        asked.base,
        (
          scope_number asked.scope,
          (asked.deref, (asked.size_limit, (asked.time_limit, asked.types_only))),
        ),
      ),
      (tree_of asked.filter, asked.attributes),
    )
operation_of (SearchResultEntry name attributes) = entry (name, attributes)
operation_of (SearchResultDone result) = search_done result
operation_of (Write change) = change_of change
operation_of (ModifyResponse result) = modify_response result
operation_of (AddResponse result) = add_response result
operation_of (DelResponse result) = delete_response result
operation_of (ModifyDnResponse result) = rename_response result
operation_of (CompareRequest entry' name value) = compare (entry', (name, value))
operation_of (CompareResponse result) = compare_response result
operation_of (AbandonRequest id) = abandon id
operation_of (SearchResultReference uris) = reference uris
operation_of (ExtendedRequest name value) = extended (name, value)
operation_of (ExtendedResponse result name value) = extended_response (result, (name, value))
operation_of (IntermediateResponse name value) = intermediate (name, value)

-- ---- how they are spelled

abbrev pub OperationForm : Form Operation
OperationForm bytes (bind parts) rest = BindForm bytes parts rest
OperationForm bytes (unbind parts) rest = UnbindForm bytes parts rest
OperationForm bytes (search parts) rest = SearchForm bytes parts rest
OperationForm bytes (modify parts) rest = ModifyForm bytes parts rest
OperationForm bytes (add parts) rest = AddForm bytes parts rest
OperationForm bytes (delete parts) rest = DeleteForm bytes parts rest
OperationForm bytes (rename parts) rest = RenameForm bytes parts rest
OperationForm bytes (compare parts) rest = CompareForm bytes parts rest
OperationForm bytes (abandon parts) rest = AbandonForm bytes parts rest
OperationForm bytes (extended parts) rest = ExtendedForm bytes parts rest
OperationForm bytes (bind_response parts) rest = BindResponseForm bytes parts rest
OperationForm bytes (entry parts) rest = EntryForm bytes parts rest
OperationForm bytes (search_done parts) rest = ResponseForm 101 bytes parts rest
OperationForm bytes (reference parts) rest = ReferenceForm bytes parts rest
OperationForm bytes (modify_response parts) rest = ResponseForm 103 bytes parts rest
OperationForm bytes (add_response parts) rest = ResponseForm 105 bytes parts rest
OperationForm bytes (delete_response parts) rest = ResponseForm 107 bytes parts rest
OperationForm bytes (rename_response parts) rest = ResponseForm 109 bytes parts rest
OperationForm bytes (compare_response parts) rest = ResponseForm 111 bytes parts rest
OperationForm bytes (extended_response parts) rest = ExtendedResponseForm bytes parts rest
OperationForm bytes (intermediate parts) rest = IntermediateForm bytes parts rest

-- ---- how they are read

-- The first octet reports the operation. Each reading tries a few and hands on to the next.

-- of the responses, what is left
unfoldable pub other_response_at : Reading ℕ Operation
other_response_at stop bytes =
    if has_tag 111 bytes then made_at compare_response (response_at 111) stop bytes else
    made_at intermediate intermediate_at stop bytes

-- the answer to a write, or another response
unfoldable pub write_response_at : Reading ℕ Operation
write_response_at stop bytes =
    if has_tag 103 bytes then made_at modify_response (response_at 103) stop bytes else
    if has_tag 105 bytes then made_at add_response (response_at 105) stop bytes else
    if has_tag 107 bytes then made_at delete_response (response_at 107) stop bytes else
    if has_tag 109 bytes then made_at rename_response (response_at 109) stop bytes else
    other_response_at stop bytes

-- an answer to a search, or another response
unfoldable pub search_response_at : Reading ℕ Operation
search_response_at stop bytes =
    if has_tag 100 bytes then made_at entry entry_at stop bytes else
    if has_tag 101 bytes then made_at search_done (response_at 101) stop bytes else
    if has_tag 115 bytes then made_at reference reference_at stop bytes else
    write_response_at stop bytes

-- what a server sends
unfoldable pub session_response_at : Reading ℕ Operation
session_response_at stop bytes =
    if has_tag 97 bytes then made_at bind_response bind_response_at stop bytes else
    if has_tag 120 bytes then made_at extended_response extended_response_at stop bytes else
    search_response_at stop bytes

-- a write, or what a server sends
unfoldable pub write_request_at : Reading ℕ Operation
write_request_at stop bytes =
    if has_tag 102 bytes then made_at modify modify_at stop bytes else
    if has_tag 104 bytes then made_at add add_at stop bytes else
    if has_tag 74 bytes then made_at delete delete_at stop bytes else
    if has_tag 108 bytes then made_at rename rename_at stop bytes else
    session_response_at stop bytes

-- a question, or a write, or what a server sends
unfoldable pub entry_request_at : Reading ℕ Operation
entry_request_at stop bytes =
    if has_tag 99 bytes then made_at search search_at stop bytes else
    if has_tag 110 bytes then made_at compare compare_at stop bytes else
    write_request_at stop bytes

-- what a client sends, or else a server
unfoldable pub operation_at : Reading ℕ Operation
operation_at stop bytes =
    if has_tag 96 bytes then made_at bind bind_at stop bytes else
    if has_tag 66 bytes then made_at unbind unbind_at stop bytes else
    if has_tag 80 bytes then made_at abandon abandon_at stop bytes else
    if has_tag 119 bytes then made_at extended extended_at stop bytes else
    entry_request_at stop bytes

-- ---- how they are written

abbrev pub operation_octets : Operation → List ℕ
operation_octets (bind parts) = bind_octets parts
operation_octets (unbind parts) = unbind_octets
operation_octets (search parts) = search_octets parts
operation_octets (modify parts) = modify_octets parts
operation_octets (add parts) = add_octets parts
operation_octets (delete parts) = delete_octets parts
operation_octets (rename parts) = rename_octets parts
operation_octets (compare parts) = compare_octets parts
operation_octets (abandon parts) = abandon_octets parts
operation_octets (extended parts) = extended_octets parts
operation_octets (bind_response parts) = bind_response_octets parts
operation_octets (entry parts) = entry_octets parts
operation_octets (search_done parts) = response_octets 101 parts
operation_octets (reference parts) = reference_octets parts
operation_octets (modify_response parts) = response_octets 103 parts
operation_octets (add_response parts) = response_octets 105 parts
operation_octets (delete_response parts) = response_octets 107 parts
operation_octets (rename_response parts) = response_octets 109 parts
operation_octets (compare_response parts) = response_octets 111 parts
operation_octets (extended_response parts) = extended_response_octets parts
operation_octets (intermediate parts) = intermediate_octets parts

-- the operation is one of the grammar: its numbers are in their bounds, its references and its
-- referral have a URI, and its filter is not too deep
abbrev pub IsOfGrammar : Operation → Type 0
IsOfGrammar (bind parts) = (1 ≤ parts.0) × (parts.0 ≤ 127)
IsOfGrammar (search parts) =
    (parts.0.1.1.0 ≤ 3) × (parts.0.1.1.1.0 ≤ 2147483647) × (parts.0.1.1.1.1.0 ≤ 2147483647)
    × (depth parts.1.0 ≤ 32)
IsOfGrammar (reference uris) = HaveOne uris
IsOfGrammar (bind_response parts) = HasReferral parts.0
IsOfGrammar (search_done outcome) = HasReferral outcome
IsOfGrammar (modify_response outcome) = HasReferral outcome
IsOfGrammar (add_response outcome) = HasReferral outcome
IsOfGrammar (delete_response outcome) = HasReferral outcome
IsOfGrammar (rename_response outcome) = HasReferral outcome
IsOfGrammar (compare_response outcome) = HasReferral outcome
IsOfGrammar (extended_response parts) = HasReferral parts.0
IsOfGrammar _ = Unit {0}

-- what an operation has by the types that hold it: the scope is one of three, each substring filter
-- has a piece, and numbers have 64 bits
abbrev pub IsHeld : Operation → Type 0
IsHeld (search parts) = (parts.0.1.0 ≤ 2) × (have_piece parts.1.0 ≡ true)
IsHeld (abandon id) = FitsSigned w64 id
IsHeld (bind_response parts) = FitsSigned w64 parts.0.code
IsHeld (search_done outcome) = FitsSigned w64 outcome.code
IsHeld (modify_response outcome) = FitsSigned w64 outcome.code
IsHeld (add_response outcome) = FitsSigned w64 outcome.code
IsHeld (delete_response outcome) = FitsSigned w64 outcome.code
IsHeld (rename_response outcome) = FitsSigned w64 outcome.code
IsHeld (compare_response outcome) = FitsSigned w64 outcome.code
IsHeld (extended_response parts) = FitsSigned w64 parts.0.code
IsHeld _ = Unit {0}
