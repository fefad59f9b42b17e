-- A mark stands where its first place is within.
use Rattle.std.proofs.Common.{◌+◌, ◌∙◌, sym, ap, drop}
use Rattle.std.proofs.lemmas.List.{take_rest}
use Rattle.dn_names.specs.Reading as spec
use Rattle.dn_names.proofs.Cuts.{position-within, position-beyond}
use Rattle.dn_names.proofs.name_chars.cut.Goals as goal

pub returns-in-Some-clause-back : goal.returns-in-Some-clause-back
returns-in-Some-clause-back c =
    let found = position-within (spec.is_plain c.args.mark) c.args.chars.now c.in-Some.place (sym c.in-Some.ensures.value) in
    (found.0, take_rest c.args.chars.now (c.in-Some.place + 1) ∙ ap (λ place. drop (place + 1) c.args.chars.now) found.1)

pub returns-in-None-clause-back : goal.returns-in-None-clause-back
returns-in-None-clause-back c = position-beyond (spec.is_plain c.args.mark) c.args.chars.now (sym c.place_of.ensures.value ∙ c.in-None.is)

pub returns-in-Some-clause-found : goal.returns-in-Some-clause-found
returns-in-Some-clause-found c = sym (position-within (spec.is_plain c.args.mark) c.args.chars.now c.in-Some.place (sym c.in-Some.ensures.value)).0

pub returns-in-None-clause-found : goal.returns-in-None-clause-found
returns-in-None-clause-found c = sym (position-beyond (spec.is_plain c.args.mark) c.args.chars.now (sym c.place_of.ensures.value ∙ c.in-None.is))
