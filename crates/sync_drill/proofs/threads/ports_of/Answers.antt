use Rattle.std.proofs.Common.{◌∷◌, [], ◌++◌, sym, ◌∙◌, subst}
use Rattle.std.specs.List.{AllZip}
use Rattle.std.proofs.lemmas.Slice.Zip.{all_zipped_more}
use Rattle.sync_drill.specs.Writers.{HasEnded}
use Rattle.sync_drill.proofs.Lists.{all_given, one_given}
use Rattle.sync_drill.proofs.threads.ports_of.Goals as goal

pub loop-writing-init : goal.loop-writing-init
loop-writing-init g c = record {
  ended = subst (AllZip HasEnded []) (sym c.in_ok-ports.ensures.items) tt;
  all = sym c.into_iter-writing-iterator.ensures.into_iter_gives.0;
}

pub loop-writing-preserved : goal.loop-writing-preserved
loop-writing-preserved g c =
    let inv = c.loop-writing.invariant in
    let yielded = c.loop-writing.yielded in
    let writing = c.in-Some.writing in
    record {
      ended = subst (AllZip HasEnded (yielded ++ writing ∷ [])) (sym c.in_ok-push.ensures.items)
          (all_zipped_more HasEnded yielded c.loop-writing.ports.items writing c.in_ok-port_of.field-0 inv.ended c.in_ok-port_of.ensures);
      all = one_given c.args.writings.items yielded c.loop-writing.writing-iterator.rest.items c.next.new.self.rest.items writing inv.all
          c.in-Some.ensures.steps.0;
    }

pub returns : goal.returns
returns g c =
    let inv = c.loop-writing.invariant in
    let left = c.loop-writing.writing-iterator.rest in
    subst (λ writings. AllZip HasEnded writings c.loop-writing.ports.items)
    (all_given c.args.writings.items c.loop-writing.yielded left.items inv.all (sym left.ok.0 ∙ c.in-None.ensures.steps.0))
    inv.ended
