use Rattle.std.proofs.Common.{refl, ◌∙◌}
use Rattle.sync_io.proofs.Sides.{rose_later}
use Rattle.directory_setup.proofs.setup.history_of.Goals as goal

pub returns-in_default-clause-failed : goal.returns-in_default-clause-failed
returns-in_default-clause-failed g c = λ _. c.in_default.ensures.failed refl

pub returns-in_default-next_word-clause-failed : goal.returns-in_default-next_word-clause-failed
returns-in_default-next_word-clause-failed g c = λ _. rose_later _ _ _ c.in-Some.ensures.later (c.in_default-next_word.ensures.failed refl)

pub returns-clause-words : goal.returns-clause-words
returns-clause-words g c = (c.in-Some.first, c.in-Some-next_word.second, rw (c.from.ensures, c.from-2.ensures) refl)

pub returns-clause-sound : goal.returns-clause-sound
returns-clause-sound g c = λ _. c.in-Some-next_word.ensures.sound refl ∙ c.in-Some.ensures.sound refl
