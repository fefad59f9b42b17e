-- One attribute more.
use Rattle.std.proofs.Common.{◌≡◌, ◌++◌, sym, ap, append-nil, ◌∙◌}
use Rattle.std.proofs.lemmas.List.{drop_all}
use Rattle.std.specs.Prelude.{option_copied, option_to_list}
use Rattle.sync_wire.specs.WireEntry.{only_one, values_named}
use Rattle.sync_wire.proofs.Only.{only_goes_on, only_one-listed, only_stops}
use Rattle.sync_wire.proofs.operational.only_named.Goals as goal

pub returns-in_err-after : goal.returns-in_err-after
returns-in_err-after c =
    ap option_copied c.from_residual.ensures
    ∙ only_stops c.args.name.now c.args.raws.now c.loop-raw.raw-index c.raw-item.result (option_to_list (option_copied c.loop-raw.only)) c.loop-raw-test.true c.raw-item.is c.loop-raw.invariant c.in_err-after.ensures.none

pub loop-raw-preserved : goal.loop-raw-preserved
loop-raw-preserved c =
    only_goes_on c.args.name.now c.args.raws.now c.loop-raw.raw-index c.raw-item.result (option_to_list (option_copied c.loop-raw.only)) (option_to_list (option_copied c.in_ok-after.after))
    c.loop-raw-test.true c.raw-item.is c.loop-raw.invariant c.in_ok-after.ensures.some

pub returns : goal.returns
returns c =
    let only = option_copied c.loop-raw.only in
    let name = c.args.name.now in
    let raws = c.args.raws.now in
    let all : option_to_list only ≡ values_named name raws =
    sym (append-nil (option_to_list only))
    ∙ ap (λ rest. option_to_list only ++ values_named name rest) (sym (drop_all c.loop-raw.raw-index raws c.loop-raw-test.false))
    ∙ c.loop-raw.invariant in
    only_one-listed only ∙ ap only_one all
