use Rattle.std.proofs.Common.{◌≡◌, map}
use Rattle.csn_cookie.specs.Cookie.{cookie_text}
use Rattle.sync_provider.specs.Placing.{shown, staged_at}
use Rattle.sync_provider.proofs.Tables.{AreMade}
use Rattle.sync_provider.proofs.search_table.stage_places.Given as goal

-- the messages are made for n places, and the searches are as before
abbrev pub invariant-loop-place : goal.invariant-loop-place
invariant-loop-place l = record {
  same : map shown l.places.items ≡ map shown l.fn.places.items;
  done : AreMade (λ place. place) (staged_at l.fn.touched (cookie_text l.fn.cookie)) l.place l.fn.places.items l.places.items;
}
