use Rattle.std.proofs.Common.{◌≡◌, Bool, true, false, refl, ap, sym, ◌∙◌}
use Rattle.std.specs.Prelude.{not}
use Rattle.csn_cookie.specs.Cookie.{cookie_text}
use Rattle.sync_model.specs.Stream.{end_of}
use Rattle.sync_provider.proofs.refresh_end.RefreshEnd.closes.Goals as goal

twice : (b : Bool) → b ≡ not (not b)
twice true = refl
twice false = refl

pub returns : goal.returns
returns c =
    let was = c.self.inside in
    record {
      deletes = was.deletes;
      cookie = cookie_text was.cookie;
      is = sym c.self.view_is ∙ ap (λ b. end_of b was.deletes (cookie_text was.cookie)) (twice was.persists);
    }
