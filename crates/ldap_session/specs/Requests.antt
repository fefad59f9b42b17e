-- What a message asks for, by its kind.
use Rattle.std.specs.Prelude.{ℕ, ℤ, Bool, true, false, not, ◌&&◌, ◌||◌, List, Option}
use Rattle.std.specs.List.{list_any}
use Rattle.std.specs.Str.{bytes_eq}
use Rattle.ldap_constants.specs.declared.object_identifiers.TheConstants.{MANAGE_DSA_IT, SYNC_REQUEST}
use Rattle.ldap_filter.specs.FilterTree.{FilterTree}
use Rattle.ldap_messages.specs.Operation.{Operation, bind, unbind, search, modify, add, delete, rename, compare, abandon, extended, bind_response, entry, search_done, reference, modify_response, add_response, delete_response, rename_response, compare_response, extended_response, intermediate}
use Rattle.ldap_messages.specs.declared.bind.Authentication.{Authentication}
use Rattle.ldap_parts.specs.declared.control.Control.{Control}
use Rattle.schema_rules.specs.declared.raw.Change.{Change}
use Rattle.schema_rules.specs.declared.raw.Change.TheVariants.{Add, Delete, Modify, Rename}

-- what a search is asked about: its base, its scope by number, how many entries at most, whether
-- types alone are wanted, its filter, and the attributes
pub record SearchParametersValue : Type 0 where
  pub base : List ℕ
  pub scope : ℕ
  pub size_limit : ℕ
  pub types_only : Bool
  pub filter : FilterTree
  pub selectors : List (List ℕ)

-- a message, by what it asks for
pub data Request : Type 0 where
  Binds : (version : ℕ) → (name : List ℕ) → Authentication → Request
  Unbinds : Request
  Writes : Change → Request
  Compares : (entry name value : List ℕ) → Request
  Searches : SearchParametersValue → Request
  Abandons : ℤ → Request
  Extends : (name : List ℕ) → (value : Option (List ℕ)) → Request
  -- what a server alone sends
  Responds : Request

-- ---- controls (RFC 4511, section 4.1.11)

-- ManageDsaIT is known of every operation, Sync Request of a search
abbrev pub is_known : Bool → Control → Bool
is_known searches control =
    bytes_eq control.name MANAGE_DSA_IT.now || (searches && bytes_eq control.name SYNC_REQUEST.now)

-- some control is critical and not known
abbrev pub has_unknown_critical : Bool → List Control → Bool
has_unknown_critical searches controls =
    list_any (λ control. control.critical && not (is_known searches control)) controls

-- it is a search
abbrev pub is_search : Request → Bool
is_search (Binds version name authentication) = false
is_search Unbinds = false
is_search (Writes change) = false
is_search (Compares object name value) = false
is_search (Searches asked) = true
is_search (Abandons target) = false
is_search (Extends name value) = false
is_search Responds = false

-- ---- what an operation asks for

-- how aliases are dereferenced and how long a search may take have no effect
unfoldable pub request_of : Operation → Request
request_of (bind parts) = Binds parts.0 parts.1.0 parts.1.1
request_of (unbind parts) = Unbinds
request_of (search parts) = Searches (record {
  base = parts.0.0;
  scope = parts.0.1.0;
  size_limit = parts.0.1.1.1.0;
  types_only = parts.0.1.1.1.1.1;
  filter = parts.1.0;
  selectors = parts.1.1;
})
request_of (modify parts) = Writes (Modify parts.0 parts.1)
request_of (add parts) = Writes (Add parts.0 parts.1)
request_of (delete name) = Writes (Delete name)
request_of (rename parts) = Writes (Rename parts.0 parts.1.0 parts.1.1.0 parts.1.1.1)
request_of (compare parts) = Compares parts.0 parts.1.0 parts.1.1
request_of (abandon target) = Abandons target
request_of (extended parts) = Extends parts.0 parts.1
request_of (bind_response parts) = Responds
request_of (entry parts) = Responds
request_of (search_done outcome) = Responds
request_of (reference uris) = Responds
request_of (modify_response outcome) = Responds
request_of (add_response outcome) = Responds
request_of (delete_response outcome) = Responds
request_of (rename_response outcome) = Responds
request_of (compare_response outcome) = Responds
request_of (extended_response parts) = Responds
request_of (intermediate parts) = Responds
