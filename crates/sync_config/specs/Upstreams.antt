-- What stands in the table of an upstream, or which of its keys is refused first.
use Rattle.std.specs.Prelude.{ℕ, Bool, if◌then◌else◌, List, Option, Some, None, Result, Ok, Err, is_some, bytes_eq, codes}
use Rattle.dn_names.specs.Reading.{name_of_text}
use Rattle.dn_names.specs.declared.fault.NameFault.{NameFault}
use Rattle.entry_tree.specs.Selection.{Search, search_of}
use Rattle.entry_tree.specs.declared.spec.Scope.{Scope}
use Rattle.entry_tree.specs.declared.spec.Scope.TheVariants.{Base, One, Sub}
use Rattle.ldap_filter.specs.FilterTree.{FilterTree}
use Rattle.ldap_filter.specs.Reading.{read_filter}
use Rattle.ldap_filter.specs.declared.fault.FilterFault.{FilterFault}
use Rattle.toml.specs.Data.{Data, as_table, get}
use Rattle.sync_config.specs.Keys.{Name, flag_of, number_of, required, text_of, with_found}
use Rattle.sync_config.specs.declared.fault.ConfigFault.{ConfigFault}
use Rattle.sync_config.specs.declared.fault.ConfigFault.TheVariants.{BadValue}
use Rattle.sync_config.specs.declared.upstream.Followed.{Followed}
use Rattle.sync_config.specs.declared.upstream.Options.{Options}
use Rattle.sync_config.specs.declared.upstream.Upstream.{Upstream}

-- an upstream, with its filter seen as a tree
pub record UpstreamValue : Type 0 where
  pub address : List ℕ
  pub spec : Search
  pub reload : Bool

abbrev pub upstream_value : Upstream → UpstreamValue
upstream_value upstream = record {
  address = upstream.address;
  spec = search_of upstream.spec;
  reload = upstream.reload_hint;
}

-- with how many connections to it are tried
pub record FollowedValue : Type 0 where
  pub upstream : UpstreamValue
  pub rounds : ℕ

abbrev pub followed_value : Followed → FollowedValue
followed_value followed = record {
  upstream = upstream_value followed.upstream;
  rounds = followed.rounds;
}

-- the text under a key of the table, which has to be there
abbrev pub text_in : (whole key : List ℕ) → Data → Result (List ℕ) ConfigFault
text_in whole key found = required whole (text_of whole (get key found))

abbrev pub address_of : Data → Result (List ℕ) ConfigFault
address_of found = text_in (codes "upstream.address") (codes "address") found

-- the base of what is wanted
abbrev pub base_in : Result Name NameFault → Result Name ConfigFault
base_in (Ok name) = Ok name
base_in (Err fault) = Err (BadValue (codes "upstream.base"))

abbrev pub base_of : Data → Result Name ConfigFault
base_of found =
    with_found (text_in (codes "upstream.base") (codes "base") found)
    (λ text. base_in (name_of_text text))

-- its scope
abbrev pub scope_named : List ℕ → Option Scope
scope_named text =
    if bytes_eq text (codes "base") then Some Base
    else (if bytes_eq text (codes "one") then Some One
    else (if bytes_eq text (codes "sub") then Some Sub else None))

abbrev pub scope_by : Option Scope → Result Scope ConfigFault
scope_by (Some scope) = Ok scope
scope_by None = Err (BadValue (codes "upstream.scope"))

abbrev pub scope_of : Data → Result Scope ConfigFault
scope_of found =
    with_found (text_in (codes "upstream.scope") (codes "scope") found)
    (λ text. scope_by (scope_named text))

-- its filter
abbrev pub filter_by : Result FilterTree FilterFault → Result FilterTree ConfigFault
filter_by (Ok filter) = Ok filter
filter_by (Err fault) = Err (BadValue (codes "upstream.filter"))

abbrev pub filter_of : Data → Result FilterTree ConfigFault
filter_of found =
    with_found (text_in (codes "upstream.filter") (codes "filter") found)
    (λ text. filter_by (read_filter text))

abbrev pub reload_of : Data → Result Bool ConfigFault
reload_of found = flag_of (codes "upstream.reload_hint") (get (codes "reload_hint") found)

abbrev pub rounds_of : Data → Result ℕ ConfigFault
rounds_of found = number_of (codes "upstream.rounds") 0 1000000 0 (get (codes "rounds") found)

-- the keys that may be absent
abbrev pub options_of : Data → Result Options ConfigFault
options_of found =
    with_found (reload_of found) (λ reload.
    with_found (rounds_of found) (λ rounds. Ok (record { reload_hint = reload; rounds = rounds })))

-- the keys of the table, in the order in which they are judged
abbrev pub members_in : Data → Result FollowedValue ConfigFault
members_in found =
    with_found (address_of found) (λ address.
    with_found (base_of found) (λ base.
    with_found (scope_of found) (λ scope.
    with_found (filter_of found) (λ filter.
    with_found (options_of found) (λ options.
    Ok (record {
      upstream = record {
        address = address;
        spec = record { base = base; scope = scope; filter = filter };
        reload = options.reload_hint;
      };
      rounds = options.rounds;
    }))))))

-- what stands under the key is a table with these keys
unfoldable pub upstream_in : Data → Result FollowedValue ConfigFault
upstream_in found =
    if is_some (as_table found) then members_in found else Err (BadValue (codes "upstream"))

-- the upstream of a document, if it has one
abbrev pub some_upstream : Result FollowedValue ConfigFault
    → Result (Option FollowedValue) ConfigFault
some_upstream (Ok followed) = Ok (Some followed)
some_upstream (Err fault) = Err fault

abbrev pub upstream_by : Option Data → Result (Option FollowedValue) ConfigFault
upstream_by None = Ok None
upstream_by (Some found) = some_upstream (upstream_in found)

abbrev pub upstream_of : Data → Result (Option FollowedValue) ConfigFault
upstream_of document = upstream_by (get (codes "upstream") document)
