-- A request of the code, without where it lies in memory.
use Rattle.ldap_filter.specs.FilterTree.{tree_of}
use Rattle.ldap_messages.specs.Search.{scope_number}
use Rattle.ldap_session.specs.declared.request.SearchParameters.{SearchParameters}
use Rattle.ldap_session.specs.declared.request.Request as code
use Rattle.ldap_session.specs.declared.request.Request.TheVariants.{Bind, Unbind, Write, Compare, Search, Abandon, Extended, Response}
use Rattle.ldap_session.specs.Requests.{SearchParametersValue, Request, Binds, Unbinds, Writes, Compares, Searches, Abandons, Extends, Responds}

abbrev pub search_shown : SearchParameters → SearchParametersValue
search_shown search = record {
  base = search.base;
  scope = scope_number search.scope;
  size_limit = search.size_limit;
  types_only = search.types_only;
  filter = tree_of search.filter;
  selectors = search.selectors;
}

abbrev pub shown : code.Request → Request
shown (Bind version name authentication) = Binds version name authentication
shown Unbind = Unbinds
shown (Write change) = Writes change
shown (Compare entry name value) = Compares entry name value
shown (Search search) = Searches (search_shown search)
shown (Abandon target) = Abandons target
shown (Extended name value) = Extends name value
shown Response = Responds
