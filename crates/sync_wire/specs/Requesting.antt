-- The request of a search (RFC 4511, section 4.5.1; RFC 4533, section 2.2).
use Rattle.std.specs.Prelude.{ℕ, Bool, true, false, [], ◌∷◌, codes, Option, Some}
use Rattle.ldap_constants.specs.declared.object_identifiers.TheConstants.{SYNC_REQUEST}
use Rattle.dn_names.specs.Writing.{name_text}
use Rattle.entry_tree.specs.declared.spec.Scope.{Scope}
use Rattle.entry_tree.specs.declared.spec.Scope.TheVariants.{Base, One, Sub}
use Rattle.entry_tree.specs.Selection.{Search}
use Rattle.ldap_parts.specs.declared.control.Control.{Control}
use Rattle.ldap_messages.specs.Operation.{search}
use Rattle.ldap_messages.specs.Whole.{MessageValue}
use Rattle.sync_messages.specs.declared.request.Mode.{Mode}
use Rattle.sync_messages.specs.declared.request.Mode.TheVariants.{RefreshOnly, RefreshAndPersist}
use Rattle.sync_messages.specs.Request.{request_octets}
use Rattle.sync_model.specs.Message.{CookieText}

abbrev pub persists : Mode → Bool
persists RefreshOnly = false
persists RefreshAndPersist = true

abbrev pub scope_number : Scope → ℕ
scope_number Base = 0
scope_number One = 1
scope_number Sub = 2

abbrev pub sync_control : Mode → Bool → Option CookieText → Control
sync_control mode reload cookie = record {
  name = SYNC_REQUEST.now;
  critical = true;
  value = Some (request_octets (record { mode = mode; cookie = cookie; reload_hint = reload }));
}

-- all user and all operational attributes, without limits and without following aliases
abbrev pub search_request : Search → ℕ → Mode → Bool → Option CookieText → MessageValue
search_request spec id mode reload cookie = (
  id,
  (
    search (
      (name_text spec.base, (scope_number spec.scope, (0, (0, (0, false))))),
      (spec.filter, codes "*" ∷ codes "+" ∷ []),
    ),
    sync_control mode reload cookie ∷ [],
  ),
)
