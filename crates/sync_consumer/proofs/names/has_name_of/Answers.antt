-- The name of the entry that its identity has, where there is one.
use Rattle.std.proofs.Common.{Some, ap, ◌∙◌}
use Rattle.std.specs.Prelude.{bytes_eq}
use Rattle.dn_names.specs.Paths.{path_key}
use Rattle.sync_consumer.specs.Holding.{keeps_name}
use Rattle.sync_consumer.proofs.names.has_name_of.Goals as goal

pub returns-in-Some-clause-value : goal.returns-in-Some-clause-value
returns-in-Some-clause-value c =
    c.has_path_key.ensures
    ∙ ap (bytes_eq (path_key c.in-Some.was.now.dn)) c.path-path.ensures.value
    ∙ ap (λ found. keeps_name found (Some c.args.entry.now)) c.in-Some.ensures

pub returns-in-None-clause-value : goal.returns-in-None-clause-value
returns-in-None-clause-value c = ap (λ found. keeps_name found (Some c.args.entry.now)) c.in-None.ensures
