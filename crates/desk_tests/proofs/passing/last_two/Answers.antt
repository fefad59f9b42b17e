use Rattle.turn_cell.specs.Passes.{cell_id}
use Rattle.shared_directory.specs.Passes.{IsPassOf}
use Rattle.desk_tests.proofs.Dealing.{rest_of, last_of}
use Rattle.desk_tests.proofs.passing.last_two.Goals as goal

pub returns-clause-passes : goal.returns-clause-passes
returns-clause-passes c =
    let cell = cell_id c.args.directory.now.cell in
    rest_of (λ pass. IsPassOf cell pass) c.pop.new.self.items c.pop-2.new.self.items c.pop-2.result c.unwrap-first.result c.pop-2.ensures.items c.unwrap-first.ensures
    (rest_of (λ pass. IsPassOf cell pass) c.args.passes.now.items c.pop.new.self.items c.pop.result c.unwrap-second.result c.pop.ensures.items c.unwrap-second.ensures c.requires.passes)

pub returns-clause-pair : goal.returns-clause-pair
returns-clause-pair c =
    let cell = cell_id c.args.directory.now.cell in (
      last_of (λ pass. IsPassOf cell pass) c.pop.new.self.items c.pop-2.new.self.items c.pop-2.result c.unwrap-first.result c.pop-2.ensures.items c.unwrap-first.ensures
          (rest_of (λ pass. IsPassOf cell pass) c.args.passes.now.items c.pop.new.self.items c.pop.result c.unwrap-second.result c.pop.ensures.items c.unwrap-second.ensures c.requires.passes),
      last_of (λ pass. IsPassOf cell pass) c.args.passes.now.items c.pop.new.self.items c.pop.result c.unwrap-second.result c.pop.ensures.items c.unwrap-second.ensures c.requires.passes,
    )
