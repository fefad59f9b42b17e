-- What is given to a thread may go there, and what it hands back may come from there.
use Rattle.shared_directory.specs.contracts.held.HeldDirectoryJournalled.TheImpl.{ghosts}
use Rattle.std.proofs.Common.{ℕ, List, [], ◌∷◌}
use Rattle.std.specs.Prelude.{codes}
use Rattle.std.specs.contracts.alloc.Global as Global
use denote.Param.SendFields.{as_row_send, declared_send}
use denote.Param.{param}
use denote.Ref.{NamedLft}
use denote.Struct.Declared.{Declared, row}
use denote.Struct.Field.{row_field, shr_ref_field}
use denote.Struct.Tuple.{type_at}
use denote.RattleType.{RattleType}
use denote.Param.Send.{IsSend, IsSync, sendable, shr_send}
use Rattle.turn_cell.specs.contracts.pass.Pass as Pass
use Rattle.sync_provider.specs.contracts.journal_note.JournalNote as JournalNote
use Rattle.shared_directory.specs.contracts.directory.SharedDirectory as SharedDirectory
use Rattle.shared_directory.specs.contracts.held.HeldDirectory as HeldDirectory
use Rattle.shared_directory.specs.contracts.numbered.NumberedProvider as NumberedProvider
use Rattle.shared_directory.proofs.Sent.{pass_send, directory_sync}
use Rattle.desk_tests.specs.contracts.tasks.Task as Task
use Rattle.desk_tests.proofs.tasks.Task.TheSendSync as tasks

-- a pass, two of them, and two such pairs
abbrev pub one_pass : RattleType
one_pass = Pass.the_row HeldDirectory.the_row JournalNote.the_row NumberedProvider.the_row ghosts

abbrev pub pair : Declared
pair = type_at (codes "(,)") (one_pass ∷ one_pass ∷ [])

abbrev pub two_pairs : Declared
two_pairs = type_at (codes "(,)") (row pair ∷ row pair ∷ [])

one_send : IsSend one_pass
one_send = pass_send ghosts

pair_send : IsSend (row pair)
pair_send = declared_send pair (one_send, (one_send, tt))

two_pairs_send : IsSend (row two_pairs)
two_pairs_send = declared_send two_pairs (pair_send, (pair_send, tt))

module _ (name : List ℕ) (R : RattleType) (y : IsSync (param 0 R)) (a b d : NamedLft) where
  runtime_send : IsSend (shr_ref_field a (param 0 R) tt).row
  runtime_send = shr_send a.mir a.lft (param 0 R) y

  allocator_send : IsSend (shr_ref_field b Global.the_row tt).row
  allocator_send = search sendable depth 20

  shared_send : IsSend (shr_ref_field d SharedDirectory.the_row tt).row
  shared_send = shr_send d.mir d.lft SharedDirectory.the_row directory_sync

  -- references to its runtime, to the allocator and to the directory, and then these
  abbrev pub given : List RattleType → Declared
  given more = type_at name ((shr_ref_field a (param 0 R) tt).row ∷ (shr_ref_field b Global.the_row tt).row ∷ (shr_ref_field d SharedDirectory.the_row tt).row ∷ more)

  -- two pairs of passes
  pub two_pairs_given_send : IsSend (row (given (row two_pairs ∷ [])))
  two_pairs_given_send = declared_send (given (row two_pairs ∷ [])) (runtime_send, (allocator_send, (shared_send, (two_pairs_send, tt))))

  module _ (e : NamedLft) where
    task_send : IsSend (shr_ref_field e Task.the_row tt).row
    task_send = shr_send e.mir e.lft Task.the_row tasks.the_sync

    -- a pass, and a reference to its task
    pub pass_given_send : IsSend (row (given (one_pass ∷ (shr_ref_field e Task.the_row tt).row ∷ [])))
    pass_given_send = declared_send (given (one_pass ∷ (shr_ref_field e Task.the_row tt).row ∷ [])) (runtime_send, (allocator_send, (shared_send, (one_send, (task_send, tt)))))

    -- a pair of passes, and a reference to its task
    pub pair_given_send : IsSend (row (given (row pair ∷ (shr_ref_field e Task.the_row tt).row ∷ [])))
    pair_given_send = declared_send (given (row pair ∷ (shr_ref_field e Task.the_row tt).row ∷ [])) (runtime_send, (allocator_send, (shared_send, (pair_send, (task_send, tt)))))

module _ (X : RattleType) (x : IsSend X) where
  -- a pass with what else a thread hands back, two of these, and two such pairs
  abbrev pub worked : Declared
  worked = type_at (codes "(,)") (one_pass ∷ X ∷ [])

  abbrev pub two_worked : Declared
  two_worked = type_at (codes "(,)") (row worked ∷ row worked ∷ [])

  abbrev pub four_worked : Declared
  four_worked = type_at (codes "(,)") (row two_worked ∷ row two_worked ∷ [])

  -- what one thread hands back may come from there
  pub worked_send : IsSend (row worked)
  worked_send = declared_send worked (one_send, (as_row_send (row_field X) x, tt))

  -- so may what two hand back
  pub two_worked_send : IsSend (row two_worked)
  two_worked_send = declared_send two_worked (worked_send, (worked_send, tt))

  -- so may what four hand back
  pub four_worked_send : IsSend (row four_worked)
  four_worked_send = declared_send four_worked (two_worked_send, (two_worked_send, tt))
