-- Which binds bind a session as the configured name.
use Rattle.std.proofs.Common.{◌≡◌, ℕ, Bool, true, false, List, length, refl, sym, ap, subst, ◌∙◌, arith}
use Rattle.std.specs.Prelude.{Result, Ok, Err, ◌&&◌, ◌==◌, if◌then◌else◌}
use Rattle.std.specs.Str.{bytes_eq}
use Rattle.std.proofs.lemmas.Bool.{and_parts, not-true, eqb-true, ne_eqb, cond-false, false≢true}
use Rattle.std.proofs.lemmas.Bool.Decides.{nat_tests}
use Rattle.std.proofs.lemmas.Slice.Eq.{bytes_eq-Decides}
use Rattle.dn_names.specs.declared.fault.NameFault.{NameFault}
use Rattle.dn_names.specs.Names.{TypeAndValue, same_name}
use Rattle.dn_names.specs.Reading.{name_of_text}
use Rattle.ldap_messages.specs.declared.bind.Authentication.{Authentication}
use Rattle.ldap_messages.specs.declared.bind.Authentication.TheVariants.{Simple, Sasl}
use Rattle.ldap_session.specs.declared.access.Access.TheVariants.{Named}
use Rattle.ldap_constants.specs.declared.result_codes.TheConstants.{INVALID_CREDENTIALS, PROTOCOL_ERROR, SUCCESS, UNWILLING_TO_PERFORM}
use Rattle.ldap_session.specs.Binding.{named_code, simple_code, authentication_code, bind_code, has_password, binds_as, IsByName}

abbrev Name : Type 0
Name = List (List TypeAndValue)

-- the name that was read is the known one, and the password the secret
record IsKnown (known : Name) (secret : List ℕ) (read : Result Name NameFault) (password : List ℕ) : Type 0 where
  found : Name
  name_is : read ≡ Ok found
  same : same_name found known ≡ true
  password_is : password ≡ secret

known_by : (known : Name) (secret : List ℕ) (read : Result Name NameFault) (password : List ℕ) → (named_code (Named known secret) read password == SUCCESS) ≡ true → IsKnown known secret read password
known_by known secret (Err fault) password succeeds = absurd (false≢true succeeds)
known_by known secret (Ok found) password succeeds = step (same_name found known && bytes_eq password secret) refl succeeds
  where
    step : (both : Bool) → (same_name found known && bytes_eq password secret) ≡ both → ((if both then SUCCESS else INVALID_CREDENTIALS) == SUCCESS) ≡ true → IsKnown known secret (Ok found) password
    step false is succeeds = absurd (false≢true succeeds)
    step true is succeeds =
        let parts = and_parts (same_name found known) (bytes_eq password secret) is in
        record {
          found = found;
          name_is = refl;
          same = parts.0;
          password_is = (bytes_eq-Decides password secret).0 parts.1;
        }

-- a simple bind with a password
simple_by : (known : Name) (secret name password : List ℕ) → (length password == 0) ≡ false → (simple_code (Named known secret) name password == SUCCESS) ≡ true → IsKnown known secret (name_of_text name) password
simple_by known secret name password some succeeds =
    let later : simple_code (Named known secret) name password ≡ named_code (Named known secret) (name_of_text name) password =
    cond-false (length password == 0) (if length name == 0 then SUCCESS else UNWILLING_TO_PERFORM) (named_code (Named known secret) (name_of_text name) password) some in
    known_by known secret (name_of_text name) password (sym (ap (λ (code : ℕ). code == SUCCESS) later) ∙ succeeds)

bound_by : (known : Name) (secret : List ℕ) (version : ℕ) (name : List ℕ) (authentication : Authentication) → version ≡ 3 → (authentication_code (Named known secret) name authentication == SUCCESS) ≡ true → has_password authentication ≡ true
    → IsByName known secret version name authentication
bound_by known secret version name (Sasl body) three succeeds some = absurd cc
bound_by known secret version name (Simple password) three succeeds given =
    let some : (length password == 0) ≡ false = not-true (length password == 0) given in
    let is = simple_by known secret name password some succeeds in
    let some' : (length secret == 0) ≡ false = subst (λ (xs : List ℕ). (length xs == 0) ≡ false) is.password_is some in
    record {
      version_is = three;
      password_is = ap (λ (xs : List ℕ). Simple xs) is.password_is;
      some = grind (arith, nat_tests);
      found = is.found;
      name_is = is.name_is;
      same = is.same;
    }

-- a bind that binds it is by that name and its password
pub only_by_name : (known : Name) (secret : List ℕ) (version : ℕ) (name : List ℕ) (authentication : Authentication) → binds_as (bind_code (Named known secret) version name authentication) authentication ≡ true
    → IsByName known secret version name authentication
unfolding bind_code
only_by_name known secret version name authentication bound =
    let parts = and_parts (bind_code (Named known secret) version name authentication == SUCCESS) (has_password authentication) bound in
    step (version == 3) refl parts.0 parts.1
  where
    step : (third : Bool) → (version == 3) ≡ third → ((if third then authentication_code (Named known secret) name authentication else PROTOCOL_ERROR) == SUCCESS) ≡ true → has_password authentication ≡ true → IsByName known secret version name authentication
    step false is succeeds some = absurd (false≢true succeeds)
    step true is succeeds some = bound_by known secret version name authentication (eqb-true version 3 is) succeeds some

simple_bound : (known : Name) (secret name : List ℕ) (found : Name) → name_of_text name ≡ Ok found → same_name found known ≡ true → (length secret == 0) ≡ false → binds_as (simple_code (Named known secret) name secret) (Simple secret) ≡ true
simple_bound known secret name found is same some = rw (some, is, same, (bytes_eq-Decides secret secret).1 refl) refl

-- a bind by that name and its password binds it
pub by_name_enough : (known : Name) (secret : List ℕ) (version : ℕ) (name : List ℕ) (authentication : Authentication) → IsByName known secret version name authentication
    → binds_as (bind_code (Named known secret) version name authentication) authentication ≡ true
unfolding bind_code
by_name_enough known secret version name authentication given =
    let some : (length secret == 0) ≡ false = ne_eqb (length secret) 0 (λ none. omega (arith, none, given.some)) in
    rw (given.version_is, given.password_is) (simple_bound known secret name given.found given.name_is given.same some)
