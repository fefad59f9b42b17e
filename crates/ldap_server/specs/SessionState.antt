-- What a session keeps between two messages.
use Rattle.std.specs.Prelude.{ℕ, Bool, not, ◌==◌, List, Option, filter, find}
use Rattle.ldap_server.specs.declared.session_search.SessionSearch.{SessionSearch}

-- whether it is bound as the configured name, and its searches that are open, in the order in which
-- they were opened
pub record SessionState : Type 0 where
  pub bound : Bool
  pub searches : List SessionSearch

-- the search with this message ID
abbrev pub search_with : ℕ → List SessionSearch → Option SessionSearch
search_with id searches = find (λ search. search.id == id) searches

-- the searches without that of this message ID
abbrev pub without : ℕ → List SessionSearch → List SessionSearch
without id searches = filter (λ search. not (search.id == id)) searches
