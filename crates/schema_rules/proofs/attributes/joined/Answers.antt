-- The next attribute is refused, or joins the others.
use Rattle.std.proofs.Common.{◌≡◌, None, Some, ap, sym, ◌∙◌}
use Rattle.std.proofs.lemmas.Result.{err_from_is_err_and}
use Rattle.schema_rules.specs.Attributes.{first_code, raw_code, typed_code, with_values}
use Rattle.schema_rules.proofs.Joining.{IsAttributeList-with_values, is_given-with_values}
use Rattle.schema_rules.proofs.Reading.{HasCode-same, first_code_none, first_code_some, joined_more, none_given, none_filled}
use Rattle.schema_rules.proofs.attributes.joined.Goals as goal

pub returns-in_err-kind-clause-fault : goal.returns-in_err-kind-clause-fault
returns-in_err-kind-clause-fault c =
    let raws = c.args.raws.now in
    let p = err_from_is_err_and c.from_residual-in_err-kind.result c.from_residual-in_err-kind.ensures.1 in
    rw (p.1, p.2) (HasCode-same (raw_code c.raw-item.result) (first_code raws) _
    (λ n some. first_code_some raws _ _ n c.loop-raw-test.true c.raw-item.is c.loop-raw.invariant.none some) c.in_err-kind.ensures.fault)

pub loop-raw-preserved : goal.loop-raw-preserved
loop-raw-preserved c =
    let raws = c.args.raws.now in
    let items = c.loop-raw.items.items in
    let kind = c.in_ok-kind.kind in
    let values = c.raw-item.result.values in
    let none : typed_code (Some kind) values ≡ None = ap (λ o. typed_code o values) (sym c.in_ok-kind.ensures.kind) ∙ c.in_ok-kind.ensures.ok in
    let grown : c.add_values.new.attributes.items ≡ with_values items kind values = c.in_ok-add_values.ensures.ok ∙ ap (with_values items kind) c.in_ok-values.ensures in
    record {
      joined = grown ∙ ap (λ xs. with_values xs kind values) c.loop-raw.invariant.joined
          ∙ sym (joined_more raws _ c.raw-item.result kind c.loop-raw-test.true c.raw-item.is c.in_ok-kind.ensures.kind);
      none = first_code_none raws _ c.raw-item.result c.loop-raw-test.true c.raw-item.is c.loop-raw.invariant.none c.in_ok-kind.ensures.ok;
      list = rw grown (IsAttributeList-with_values items kind values c.loop-raw.invariant.list (none_filled kind values none));
      given = rw grown (is_given-with_values items kind values c.loop-raw.invariant.given (none_given kind values none));
    }
