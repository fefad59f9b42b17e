-- Of a type of object classes a value of its syntax is kept.
use Rattle.std.proofs.Common.{ap, sym, ◌∙◌}
use Rattle.std.specs.List.{list_all}
use Rattle.std.proofs.lemmas.Result.{IfOk-weaker}
use Rattle.schema_rules.specs.Attributes.{is_of_syntax}
use Rattle.sync_wire.proofs.Keeping.{known_class}
use Rattle.sync_wire.proofs.wire_entry.is_kept.Goals as goal

pub returns-in-Class : goal.returns-in-Class
returns-in-Class c =
    IfOk-weaker c.are_of_syntax.result _ _
    (λ all same.
    same ∙ ap (list_all (is_of_syntax c.args.kind)) c.from_ref.ensures.value
    ∙ known_class c.args.kind c.args.value.now (sym c.rule.ensures ∙ c.in-Class.is))
    c.are_of_syntax.ensures
