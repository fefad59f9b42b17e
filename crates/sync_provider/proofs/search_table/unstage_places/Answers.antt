-- Nothing is staged in one more place.
use Rattle.std.proofs.Common.{refl, arith}
use Rattle.sync_provider.specs.Placing.{unstaged_at}
use Rattle.sync_provider.proofs.Tables.{made_on, used_whole}
use Rattle.sync_provider.proofs.search_table.unstage_places.Goals as goal

pub loop-place-preserved : goal.loop-place-preserved
loop-place-preserved c =
    made_on (λ place. place) unstaged_at c.loop-place.place c.args.places.now.items c.loop-place.places.items c.index_mut.result.now c.unstage_at.new.place
    (omega (arith, c.loop-place-test.true, c.requires.long, c.requires.few)) c.loop-place.invariant c.index_mut.ensures.value c.unstage_at.ensures

pub returns : goal.returns
returns c = used_whole unstaged_at c.args.used c.loop-place.place c.args.places.now.items c.loop-place.places.items refl c.loop-place.invariant c.loop-place-test.false c.requires
