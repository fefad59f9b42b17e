-- One message fewer is left.
use Rattle.std.proofs.Common.{drop, ap, sym, ◌∙◌}
use Rattle.sync_model.proofs.Prefixes.{nil_is}
use Rattle.sync_provider.proofs.LeftOver.{one_fewer_held}
use Rattle.sync_provider.proofs.parts.Parts.advance.Goals as goal

pub returns-then-not-is_empty : goal.returns-then-not-is_empty
returns-then-not-is_empty c = one_fewer_held _ c.self.inside.items c.self.inside.handed ∙ ap (λ ms. drop 1 ms) c.self.view_is

pub returns : goal.returns
returns c =
    sym (nil_is _ (sym c.is_empty.ensures ∙ c.if-not-is_empty.false))
    ∙ one_fewer_held _ c.self.inside.items c.self.inside.handed
    ∙ ap (λ ms. drop 1 ms) c.self.view_is
