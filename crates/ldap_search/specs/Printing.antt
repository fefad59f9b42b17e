-- What is printed to an output.
use Rattle.std.specs.Prelude.{◌≡◌, ℕ, List, Option, Some, None}
use Rattle.std.specs.Io.KnownBytes.{Appends}
use Rattle.sync_io.specs.Faults.{CountHasRisen}
use Rattle.sync_io.specs.Sink.{AppendsPrefix}
use Rattle.ldap_search.specs.declared.end.SearchEnd.{SearchEnd}
use Rattle.ldap_search.specs.declared.end.SearchEnd.TheVariants.{Done, OutputFault, NetFault, PeerFault}

-- a text was printed, or a prefix of it where the output failed, which ends the search
abbrev pub Prints : List ℕ → (old : Option (List ℕ)) → (before : ℕ) → Option SearchEnd
    → (new : Option (List ℕ)) → (after : ℕ) → Type 0
Prints text old before None new after = Appends old new text × (after ≡ before)
Prints text old before (Some OutputFault) new after =
    AppendsPrefix old new text × CountHasRisen before after
Prints text old before (Some Done) new after = ⊥
Prints text old before (Some NetFault) new after = ⊥
Prints text old before (Some PeerFault) new after = ⊥

-- the last text of a search was printed, which is done then, or a prefix of it where the output
-- failed
abbrev pub PrintsLast : List ℕ → (old : Option (List ℕ)) → (before : ℕ) → SearchEnd
    → (new : Option (List ℕ)) → (after : ℕ) → Type 0
PrintsLast text old before Done new after = Appends old new text × (after ≡ before)
PrintsLast text old before OutputFault new after =
    AppendsPrefix old new text × CountHasRisen before after
PrintsLast text old before NetFault new after = ⊥
PrintsLast text old before PeerFault new after = ⊥
