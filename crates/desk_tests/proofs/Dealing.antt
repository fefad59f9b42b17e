-- Passes that are dealt, and one that is taken from the end.
use Rattle.std.proofs.Common.{◌≡◌, ℕ, suc, List, [], ◌∷◌, ◌++◌, Option, Some, ap, ◌∙◌, subst, option_to_list}
use Rattle.atomic_table.specs.Seated.{TableId}
use Rattle.turn_cell.specs.declared.pass.Pass.{Pass}
use Rattle.turn_cell.specs.Journals.{Every}
use Rattle.turn_cell.proofs.Each.{every-left, every-at}
use Rattle.sync_provider.specs.Journal.{JournalledProvider}
use Rattle.sync_provider.specs.declared.journal_note.JournalNote.{JournalNote}
use Rattle.shared_directory.specs.Desks.{NumberedState, HeldState}
use Rattle.shared_directory.specs.Passes.{IsPassOf, AreFirst}

-- each of the passes with which a directory is made is a pass of that directory
pub all_dealt : {g : _} (cell : TableId) (ports : ℕ) (v : JournalledProvider) (number : ℕ) (passes : List (Pass HeldState JournalNote NumberedState g))
    → AreFirst cell ports v number passes → Every (λ pass. IsPassOf cell pass) passes
all_dealt cell ports v number [] dealt = tt
all_dealt cell ports v number (pass ∷ passes) dealt = (dealt.0, all_dealt cell ports v (suc number) passes dealt.2)

module _ {X : Type 0} (P : X → Type 0) (old new : List X) (o : Option X) (x : X) (is : old ≡ new ++ option_to_list o) (some : o ≡ Some x) (all : Every P old) where
  whole : Every P (new ++ x ∷ [])
  whole = subst (Every P) (is ∙ ap (λ o. new ++ option_to_list o) some) all

  -- what holds of each holds of each but the last
  pub rest_of : Every P new
  rest_of = every-left P new (x ∷ []) whole

  -- it holds of the last one
  pub last_of : P x
  last_of = every-at P new [] x whole
