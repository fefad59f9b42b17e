use Rattle.std.proofs.Common.{refl, arith}
use Rattle.sync_provider.specs.Placing.{pushed_at, shown}
use Rattle.sync_provider.proofs.Tables.{made_on, used_made}
use Rattle.sync_provider.proofs.search_table.push_places.Goals as goal

pub loop-place-preserved : goal.loop-place-preserved
loop-place-preserved c =
    made_on shown (pushed_at c.args.limit) c.loop-place.place c.args.places.now.items c.loop-place.places.items c.index_mut.result.now c.push_at.new.place
    (omega (arith, c.loop-place-test.true, c.requires.long, c.requires.few)) c.loop-place.invariant c.index_mut.ensures.value c.push_at.ensures

pub returns : goal.returns
returns c = used_made shown (pushed_at c.args.limit) c.args.used c.loop-place.place c.args.places.now.items c.loop-place.places.items refl c.loop-place.invariant c.loop-place-test.false c.requires
