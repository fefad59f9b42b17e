use Rattle.std.proofs.Common.{not, ◌==◌, rules}
use Rattle.std.proofs.lemmas.Fn.{filter_same}
use Rattle.ldap_server.proofs.session.Session.drop_search.Goals as goal

pub returns-clause-searches : goal.returns-clause-searches
returns-clause-searches g c = filter_same _ (λ search. not (search.id == c.args.search.id)) _ (λ x b f' k. search rules) _ _ c.retain.ensures.filtered
