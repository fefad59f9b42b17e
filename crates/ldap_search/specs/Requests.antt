-- What a search asks for (RFC 4511, sections 4.3 and 4.5.1).
use Rattle.std.specs.Prelude.{◌+◌, false, []}
use Rattle.dn_names.specs.Writing.{name_text}
use Rattle.entry_tree.specs.Selection.{Search}
use Rattle.ldap_messages.specs.Operation.{search, unbind}
use Rattle.ldap_messages.specs.Whole.{MessageValue}
use Rattle.sync_wire.specs.Requesting.{scope_number}
use Rattle.ldap_search.specs.Answers.{search_id}

-- all user attributes of what is selected, without limits, without following aliases and without a
-- control
abbrev pub plain_request : Search → MessageValue
plain_request spec = (
  search_id,
  (
    search (
      (name_text spec.base, (scope_number spec.scope, (0, (0, (0, false))))),
      (spec.filter, []),
    ),
    [],
  ),
)

-- the message after it, which ends the session
abbrev pub unbind_request : MessageValue
unbind_request = (search_id + 1, (unbind tt, []))
