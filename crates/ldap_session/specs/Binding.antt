-- Who a session is bound as (RFC 4511, section 4.2; RFC 4513, section 5.1).
use Rattle.std.specs.Prelude.{◌≡◌, ◌<◌, ℕ, Bool, true, false, not, ◌&&◌, ◌==◌, List, length, Result, Ok, Err, if◌then◌else◌}
use Rattle.std.specs.Str.{bytes_eq}
use Rattle.dn_names.specs.declared.fault.NameFault.{NameFault}
use Rattle.dn_names.specs.Names.{TypeAndValue, same_name}
use Rattle.dn_names.specs.Reading.{name_of_text}
use Rattle.ldap_constants.specs.declared.result_codes.TheConstants.{AUTH_METHOD_NOT_SUPPORTED, INVALID_CREDENTIALS, INVALID_DN_SYNTAX, PROTOCOL_ERROR, SUCCESS, UNWILLING_TO_PERFORM}
use Rattle.ldap_messages.specs.declared.bind.Authentication.{Authentication}
use Rattle.ldap_messages.specs.declared.bind.Authentication.TheVariants.{Simple, Sasl}
use Rattle.ldap_session.specs.declared.access.Access.{Access}
use Rattle.ldap_session.specs.declared.access.Access.TheVariants.{Free, Named}

-- the code of a name that was read, with a password
abbrev pub named_code : Access → Result (List (List TypeAndValue)) NameFault → List ℕ → ℕ
named_code access (Err fault) password = INVALID_DN_SYNTAX
named_code Free (Ok name) password = INVALID_CREDENTIALS
named_code (Named known secret) (Ok name) password =
    if same_name name known && bytes_eq password secret then SUCCESS else INVALID_CREDENTIALS

-- the code of a simple bind: anonymous, unauthenticated, or by name and password
abbrev pub simple_code : Access → List ℕ → List ℕ → ℕ
simple_code access name password =
    if length password == 0 then (if length name == 0 then SUCCESS else UNWILLING_TO_PERFORM)
    else named_code access (name_of_text name) password

abbrev pub authentication_code : Access → List ℕ → Authentication → ℕ
authentication_code access name (Simple password) = simple_code access name password
authentication_code access name (Sasl body) = AUTH_METHOD_NOT_SUPPORTED

-- the code of a bind
unfoldable pub bind_code : Access → (version : ℕ) → List ℕ → Authentication → ℕ
bind_code access version name authentication =
    if version == 3 then authentication_code access name authentication else PROTOCOL_ERROR

-- the bind has a password
abbrev pub has_password : Authentication → Bool
has_password (Simple password) = not (length password == 0)
has_password (Sasl body) = false

-- whether a session is bound as the configured name after a bind with this code: it succeeded, and
-- was not anonymous
abbrev pub binds_as : ℕ → Authentication → Bool
binds_as code authentication = (code == SUCCESS) && has_password authentication

-- whether a session may write: it is bound as the configured name, or none is configured
abbrev pub may_write : Access → Bool → Bool
may_write Free bound = true
may_write (Named name password) bound = bound

-- the bind, of version 3, gave the configured name and its password, which is not empty
pub record IsByName
    (known : List (List TypeAndValue)) (secret : List ℕ)
    (version : ℕ) (name : List ℕ) (authentication : Authentication) : Type 0 where
  pub version_is : version ≡ 3
  pub password_is : authentication ≡ Simple secret
  pub some : 0 < length secret
  pub found : List (List TypeAndValue)
  pub name_is : name_of_text name ≡ Ok found
  pub same : same_name found known ≡ true
