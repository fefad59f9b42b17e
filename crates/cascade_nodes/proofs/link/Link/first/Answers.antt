-- The first message by its number.
use Rattle.std.proofs.Common.{◌≡◌, ℕ, List, ◌∷◌, drop, sym, subst, ◌∙◌}
use Rattle.cascade_nodes.proofs.Links.{first_stands, none_there}
use Rattle.cascade_nodes.proofs.link.Link.first.Goals as goal

pub returns-in-Some : goal.returns-in-Some
returns-in-Some c = record {
  first = subst (λ (link : List (List ℕ)). link ≡ c.as_slice.result.now ∷ drop 1 link) c.self.view_is
      (first_stands c.self.inside.messages _ c.in-Some.message.now c.as_slice.result.now c.in-Some.ensures c.as_slice.ensures);
  none = tt;
}

pub returns-in-None : goal.returns-in-None
returns-in-None c = record {
  first = tt;
  none = sym c.self.view_is ∙ none_there c.self.inside.messages c.in-None.ensures;
}
