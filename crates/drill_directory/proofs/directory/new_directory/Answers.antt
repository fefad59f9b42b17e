use Rattle.std.proofs.Common.{ap, sym, subst, ◌∙◌}
use Rattle.sync_provider.specs.Journal.{fresh_port}
use Rattle.sync_provider.specs.declared.provider.Kind.TheVariants.{Root}
use Rattle.shared_directory.specs.Passes.{AreFirst, directory_id}
use Rattle.drill_directory.proofs.directory.new_directory.Goals as goal

pub returns-in-Ok-clause-new : goal.returns-in-Ok-clause-new
returns-in-Ok-clause-new c =
    let made = c.in-Ok.made in
    let provider = c.in_ok-provider.provider in (
      provider,
      c.in_ok-provider.ensures.journal ∙ ap (λ name. fresh_port name 1 1 Root) c.in_ok-suffix.ensures,
      subst (λ n. AreFirst (directory_id made.0) n provider 1 made.1.items) (sym c.in-Ok.ensures.count.1) c.in-Ok.ensures.passes,
    )
