-- What a configuration that was read has.
use Rattle.std.proofs.Common.{◌≡◌, ℕ, ◌<◌, ◌≤◌, ◌&&◌, ℤ, pos, negsuc, Bool, true, false, not, List, Option, Some, None, Result, Ok, Err, codes, if◌then◌else◌, is_some, nat_le, ap, refl, subst, ◌∙◌, leb-true, arith}
use Rattle.std.specs.Prelude.{IsSome, option_map}
use Rattle.toml.specs.Data.{Data, get, as_integer, as_str, table}
use Rattle.dn_names.specs.Reading.{name_of_text}
use Rattle.dn_names.specs.declared.fault.NameFault.{NameFault}
use Rattle.sync_config.specs.Keys.{Name, has, integer_in, name_in, name_of, number_of, text_in, text_of, with_found}
use Rattle.sync_config.specs.Settings.{ConfigValue, IsReadAs, bind_name_of, bind_password_of, config_of, config_value, connections_of, ldif_of, listen_of, log_limit_of, queue_limit_of, seats_of, sid_of, suffix_of}
use Rattle.sync_config.specs.Upstreams.{FollowedValue, UpstreamValue, some_upstream, upstream_by, upstream_in, upstream_of, upstream_value}
use Rattle.sync_config.specs.declared.config.Config.{Config}
use Rattle.sync_config.specs.declared.fault.ConfigFault.{ConfigFault}
use Rattle.sync_config.specs.declared.fault.ConfigFault.TheVariants.{BadValue, MissingKey}
use Rattle.sync_model.proofs.Limits.{option_map-none}
use Rattle.sync_model.proofs.Refresh.{none_from_false}

-- what stands under four keys, by what is found under all
record Keyed (suffix : Result (Option Name) ConfigFault) (sid seats : Result ℕ ConfigFault) (followed : Result (Option FollowedValue) ConfigFault) (config : ConfigValue) : Type 0 where
  pub suffix_is : suffix ≡ Ok config.suffix
  pub sid_is : sid ≡ Ok config.sid
  pub seats_is : seats ≡ Ok config.seats
  pub upstream : Option FollowedValue
  pub followed_is : followed ≡ Ok upstream
  pub upstream_is : option_map (λ (f : FollowedValue). f.upstream) upstream ≡ config.upstream

abbrev suffix_in : Result ConfigValue ConfigFault → Result (Option Name) ConfigFault
suffix_in (Ok c) = Ok c.suffix
suffix_in (Err fault) = Err fault

abbrev sid_in : Result ConfigValue ConfigFault → Result ℕ ConfigFault
sid_in (Ok c) = Ok c.sid
sid_in (Err fault) = Err fault

abbrev seats_in : Result ConfigValue ConfigFault → Result ℕ ConfigFault
seats_in (Ok c) = Ok c.seats
seats_in (Err fault) = Err fault

abbrev upstream_at : Result ConfigValue ConfigFault → Option UpstreamValue
upstream_at (Ok c) = c.upstream
upstream_at (Err fault) = None

-- what is found before the rest, and the rest
found_first : {A : Type 0} (found : Result A ConfigFault) (later : A → Result ConfigValue ConfigFault) (config : ConfigValue)
    → with_found found later ≡ Ok config → (value : A) × (found ≡ Ok value) × (later value ≡ Ok config)
found_first (Ok value) later config is = (value, refl, is)
found_first (Err fault) later config is = absurd cc

keyed : (d : Data) (config : ConfigValue) → config_of d ≡ Ok config
    → Keyed (suffix_of d) (sid_of d) (seats_of d) (upstream_of d) config
keyed d config is =
    let listen = found_first (listen_of d) _ config is in
    let suffix = found_first (suffix_of d) _ config listen.2 in
    let sid = found_first (sid_of d) _ config suffix.2 in
    let ldif = found_first (ldif_of d) _ config sid.2 in
    let log_limit = found_first (log_limit_of d) _ config ldif.2 in
    let queue_limit = found_first (queue_limit_of d) _ config log_limit.2 in
    let bind_name = found_first (bind_name_of d) _ config queue_limit.2 in
    let bind_password = found_first (bind_password_of d) _ config bind_name.2 in
    let seats = found_first (seats_of d) _ config bind_password.2 in
    let connections = found_first (connections_of d) _ config seats.2 in
    let followed = found_first (upstream_of d) _ config connections.2 in
    record {
      suffix_is = suffix.1 ∙ ap suffix_in followed.2;
      sid_is = sid.1 ∙ ap sid_in followed.2;
      seats_is = seats.1 ∙ ap seats_in followed.2;
      upstream = followed.0;
      followed_is = followed.1;
      upstream_is = ap upstream_at followed.2;
    }

-- ---- numbers

integer_within : (key : List ℕ) (least most : ℕ) (found : Option ℤ) (number : ℕ)
    → integer_in key least most found ≡ Ok number → (least ≤ number) × (number ≤ most)
integer_within key least most None number is = absurd cc
integer_within key least most (Some (negsuc n)) number is = absurd cc
integer_within key least most (Some (pos n)) number is = by (nat_le least n) (nat_le n most) refl refl is
  where
    by : (low high : Bool) → nat_le least n ≡ low → nat_le n most ≡ high
        → (if low && high then Ok n else Err (BadValue key)) ≡ Ok number → (least ≤ number) × (number ≤ most)
    by true true low high found =
        let same : n ≡ number = cc in
        (subst (λ m. least ≤ m) same (leb-true least n low), subst (λ m. m ≤ most) same (leb-true n most high))
    by true false low high wrong = absurd cc
    by false high' low high wrong = absurd cc

number_within : (key : List ℕ) (least most absent : ℕ) → least ≤ absent → absent ≤ most → (value : Option Data) (number : ℕ)
    → number_of key least most absent value ≡ Ok number → (least ≤ number) × (number ≤ most)
number_within key least most absent low high None number is =
    let same : absent ≡ number = cc in
    (subst (λ m. least ≤ m) same low, subst (λ m. m ≤ most) same high)
number_within key least most absent low high (Some value) number is =
    integer_within key least most (as_integer value) number is

-- ---- configurations

-- its server id is below 4096
pub sid_small : (text : List ℕ) (config : Config) → IsReadAs text (Ok config) → config.sid < 4096
sid_small text config (members, document, is) =
    let within = number_within (codes "sid") 0 4095 0 (omega arith) (omega arith) (get (codes "sid") (table members)) config.sid (keyed (table members) (config_value config) is).sid_is in
    let most : config.sid ≤ 4095 = within.1 in omega arith

-- it has 1 to 64 seats
pub seats_within : (text : List ℕ) (config : Config) → IsReadAs text (Ok config)
    → (1 ≤ config.seats) × (config.seats ≤ 64)
seats_within text config (members, document, is) =
    number_within (codes "seats") 1 64 16 (omega arith) (omega arith) (get (codes "seats") (table members)) config.seats (keyed (table members) (config_value config) is).seats_is

-- what stands under the key of the suffix, where another directory is followed or not
abbrev suffix_at : Bool → Option Data → Result (Option Name) ConfigFault
suffix_at follows value =
    if not follows && not (is_some value) then Err (MissingKey (codes "suffix"))
    else name_of (codes "suffix") (text_of (codes "suffix") value)

read_name : (name : Result Name NameFault) → name_in (codes "suffix") name ≡ Ok None → ⊥
read_name (Ok name) is = cc
read_name (Err fault) is = cc

read_text : (text : Option (List ℕ)) → name_of (codes "suffix") (text_in (codes "suffix") text) ≡ Ok None → ⊥
read_text None is = cc
read_text (Some text) is = read_name (name_of_text text) is

read_suffix : (value : Option Data) → suffix_at false value ≡ Ok None → ⊥
read_suffix None is = cc
read_suffix (Some value) is = read_text (as_str value) is

-- no table is found where no directory is followed
unfollowed : (value : Option Data) → upstream_by value ≡ Ok None → is_some value ≡ false
unfollowed None is = refl
unfollowed (Some found) is = absurd (some_found (upstream_in found) is)
  where
    some_found : (read : Result FollowedValue ConfigFault) → some_upstream read ≡ Ok None → ⊥
    some_found (Ok followed) wrong = cc
    some_found (Err fault) wrong = cc

some_is : {A : Type 0} (value : Option A) → (value ≡ None → ⊥) → IsSome value
some_is None never = absurd (never refl)
some_is (Some x) never = refl

-- a directory that follows no other one has a suffix
pub has_suffix : (text : List ℕ) (config : Config) → IsReadAs text (Ok config) → is_some config.upstream ≡ false → IsSome config.suffix
has_suffix text config (members, document, is) alone = some_is config.suffix never
  where
    d : Data
    d = table members

    k : Keyed (suffix_of d) (sid_of d) (seats_of d) (upstream_of d) (config_value config)
    k = keyed d (config_value config) is

    -- what the configuration has for an upstream was found
    none : k.upstream ≡ None
    none = option_map-none (λ (f : FollowedValue). f.upstream) k.upstream (k.upstream_is ∙ ap (option_map upstream_value) (none_from_false config.upstream alone))

    follows : has (codes "upstream") d ≡ false
    follows = unfollowed (get (codes "upstream") d) (k.followed_is ∙ ap (λ (f : Option FollowedValue). Ok f) none)

    found : suffix_at (has (codes "upstream") d) (get (codes "suffix") d) ≡ Ok config.suffix
    found = k.suffix_is

    never : config.suffix ≡ None → ⊥
    never nothing =
        read_suffix (get (codes "suffix") d)
        (subst (λ f. suffix_at f (get (codes "suffix") d) ≡ Ok None) follows (found ∙ ap (λ (s : Option Name). Ok s) nothing))
