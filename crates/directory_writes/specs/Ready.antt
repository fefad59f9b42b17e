-- Writes that only have to be put in place.
use Rattle.entry_tree.specs.declared.op.Op.{Op}
use Rattle.directory_writes.specs.Directory.{DirectoryState, with_write, IsPreview, IsStanding}
use Rattle.directory_writes.specs.declared.ready.Ready.{Ready}

-- an operation was previewed so, and beside it stands what is kept after it
pub record IsReadyWrite (d : DirectoryState) (op : Op) (ready : Ready) : Type 0 where
  pub plan : IsPreview d op ready.preview
  pub after :
      IsStanding (with_write d (record { csn = ready.preview.csn; op = op })) ready.after
