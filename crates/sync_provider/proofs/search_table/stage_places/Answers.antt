-- The messages are made for one more place.
use Rattle.std.proofs.Common.{◌∙◌, refl, arith}
use Rattle.csn_cookie.specs.Cookie.{cookie_text}
use Rattle.sync_provider.specs.Placing.{staged_at}
use Rattle.sync_provider.proofs.Tables.{made_on, set_shown, used_whole}
use Rattle.sync_provider.proofs.search_table.stage_places.Goals as goal

pub loop-place-preserved : goal.loop-place-preserved
loop-place-preserved c = record {
  same = set_shown c.loop-place.places.items c.loop-place.place c.index_mut.result.now c.stage_at.new.place c.index_mut.ensures.value c.stage_at.ensures.search ∙ c.loop-place.invariant.same;
  done = made_on (λ place. place) (staged_at c.args.touched.now (cookie_text c.args.cookie.now)) c.loop-place.place c.args.places.now.items c.loop-place.places.items c.index_mut.result.now
      c.stage_at.new.place (omega (arith, c.loop-place-test.true, c.requires.table.long, c.requires.table.few)) c.loop-place.invariant.done c.index_mut.ensures.value c.in_ok-stage_at.ensures.staged;
}

pub returns-clause-staged : goal.returns-clause-staged
returns-clause-staged c =
    used_whole (staged_at c.args.touched.now (cookie_text c.args.cookie.now)) c.args.used c.loop-place.place c.args.places.now.items c.loop-place.places.items refl
    c.loop-place.invariant.done c.loop-place-test.false c.requires.table
