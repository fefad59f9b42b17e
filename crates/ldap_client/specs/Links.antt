-- What is seen of a link.
use Rattle.std.specs.Prelude.{ℕ, List, Option}

-- the bytes that are left to read, those that were read and those that were written, where the link
-- reports them; and how many of its reads and of its writes have failed
pub record LinkState : Type 0 where
  pub left : Option (List ℕ)
  pub read : Option (List ℕ)
  pub held : Option (List ℕ)
  pub read_faults : ℕ
  pub write_faults : ℕ

abbrev pub link_by : {L : Type 0} → (left read held : L → Option (List ℕ))
    → (read_faults write_faults : L → ℕ) → L → LinkState
link_by left read held read_faults write_faults link = record {
  left = left link;
  read = read link;
  held = held link;
  read_faults = read_faults link;
  write_faults = write_faults link;
}
