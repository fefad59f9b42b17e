-- A search over a net: one link, which is asked for once and hung up.
use Rattle.std.specs.Prelude.{◌≡◌, ◌≢◌, ◌⊎◌, ◌<◌, ◌+◌, ℕ, true, false, List, Option, Some, None, IfOk, IfSome, OnErr, Result, option_map}
use Rattle.entry_tree.specs.Selection.{Search}
use Rattle.sync_io.specs.Dial.{Dialled, dials, hangs_up}
use Rattle.sync_io.specs.Faults.{CountHasRisen, one_more}
use Rattle.sync_io.specs.Links.{HasNoFaults, IsUnused}
use Rattle.sync_io.specs.Net.{Served, calls, retires}
use Rattle.sync_io.specs.ToCome.{IsNextToCome}
use Rattle.ldap_client.specs.Links.{LinkState}
use Rattle.ldap_search.specs.Talks.{AsksPlainly, AsksPlainlyInPart, AsksToFollow, AsksToFollowInPart, OutputState}
use Rattle.ldap_search.specs.declared.end.SearchEnd.{SearchEnd}
use Rattle.ldap_search.specs.declared.end.SearchEnd.TheVariants.{NetFault, OutputFault}

-- what is done over the link of a search, with a count or without one
abbrev pub Talks : Search → (count : Option ℕ) → (first now : LinkState) → OutputState → SearchEnd
    → OutputState → Type 0
Talks spec None first now old end new = AsksPlainly spec first now old end new
Talks spec (Some count) first now old end new = AsksToFollow spec count first now old end new

-- a link that has come: no call of it has failed; where its dialler reports what it does, nothing
-- was read from it or written to it
abbrev pub IsNew : {L : Type 0} → Option (Dialled L) → LinkState → Type 0
IsNew dialled first =
    HasNoFaults first.read_faults first.write_faults
    × IfSome dialled (λ d. IsUnused first.read first.held)

-- a link was hung up, whose calls have failed so often
pub record HangsUp {L : Type 0}
    (faults : ℕ) (link : L) (old : Option (Dialled L)) (before : ℕ) (new : Option (Dialled L))
    (after : ℕ) : Type 0 where
  pub dialled : new ≡ option_map (hangs_up link) old
  pub faulty : 0 < faults → after ≡ one_more before
  pub sound : faults ≡ 0 → after ≡ before

-- this was done over a link, which was hung up
pub record HungUp {L : Type 0}
    (state : L → LinkState) (spec : Search) (count : Option ℕ) (first : LinkState)
    (old : OutputState) (end : SearchEnd) (new : OutputState)
    (before : Option (Dialled L)) (faults : ℕ) (after : Option (Dialled L)) (faults' : ℕ)
    : Type 0 where
  pub back : L
  pub talks : Talks spec count first (state back) old end new
  pub hangs_up : HangsUp ((state back).read_faults + (state back).write_faults) back
      before faults after faults'

-- a dialler was asked for a link at one address: none came; or one came, over which this was done,
-- and was hung up
pub record CallsOnce {L : Type 0}
    (seen : L → LinkState) (address : List ℕ) (spec : Search) (count : Option ℕ)
    (before : Option (Dialled L)) (old : OutputState) (end : SearchEnd)
    (after : Option (Dialled L)) (new : OutputState) : Type 0 where
  pub came :
      ((end ≡ NetFault) × (new ≡ old) × (after ≡ option_map (dials address false) before))
      ⊎ ((first : LinkState) × (link : L) × IsNew before first
      × Talks spec count first (seen link) old end new
      × (after ≡ option_map (hangs_up link) (option_map (dials address true) before)))

-- a net was asked for a caller: none came; or the next one came, which was asked for a link once,
-- and was retired
pub record Searches {L C M : Type 0}
    (seen : M → LinkState) (dialled : C → Option (Dialled M))
    (address : List ℕ) (spec : Search) (count : Option ℕ)
    (before : Option (Served L C M)) (old : OutputState) (end : SearchEnd)
    (after : Option (Served L C M)) (new : OutputState) : Type 0 where
  pub came :
      ((end ≡ NetFault) × (new ≡ old) × (after ≡ option_map (calls false) before))
      ⊎ ((first : Option (Dialled M)) × (caller : C)
      × IfSome before (λ s. IsNextToCome first s.callers_to_come)
      × CallsOnce seen address spec count first old end (dialled caller) new
      × (after ≡ option_map (retires caller) (option_map (calls true) before)))

-- ---- out of memory

-- what is done over the link of a search up to where memory ran out
abbrev pub TalksInPart : Search → (count : Option ℕ) → (first now : LinkState)
    → (old new : OutputState) → Type 0
TalksInPart spec None first now old new = AsksPlainlyInPart spec first now old new
TalksInPart spec (Some count) first now old new = AsksToFollowInPart spec count first now old new

-- this was done over a link, which was hung up
pub record HungUpInPart {L : Type 0}
    (state : L → LinkState) (spec : Search) (count : Option ℕ) (first : LinkState)
    (old new : OutputState) (before : Option (Dialled L)) (faults : ℕ)
    (after : Option (Dialled L)) (faults' : ℕ) : Type 0 where
  pub back : L
  pub talks : TalksInPart spec count first (state back) old new
  pub hangs_up : HangsUp ((state back).read_faults + (state back).write_faults) back
      before faults after faults'

-- a dialler was not asked for a link; or one came, over which this was done, and was hung up
pub record CallsInPart {L : Type 0}
    (seen : L → LinkState) (address : List ℕ) (spec : Search) (count : Option ℕ)
    (before : Option (Dialled L)) (old : OutputState)
    (after : Option (Dialled L)) (new : OutputState) : Type 0 where
  pub came :
      ((new ≡ old) × (after ≡ before))
      ⊎ ((first : LinkState) × (link : L) × IsNew before first
      × TalksInPart spec count first (seen link) old new
      × (after ≡ option_map (hangs_up link) (option_map (dials address true) before)))

-- a net was asked for a caller: none came; or the next one came, which was asked for one link at
-- most, and was retired
pub record SearchesInPart {L C M : Type 0}
    (seen : M → LinkState) (dialled : C → Option (Dialled M))
    (address : List ℕ) (spec : Search) (count : Option ℕ)
    (before : Option (Served L C M)) (old : OutputState)
    (after : Option (Served L C M)) (new : OutputState) : Type 0 where
  pub came :
      ((new ≡ old) × (after ≡ option_map (calls false) before))
      ⊎ ((first : Option (Dialled M)) × (caller : C)
      × IfSome before (λ s. IsNextToCome first s.callers_to_come)
      × CallsInPart seen address spec count first old (dialled caller) new
      × (after ≡ option_map (retires caller) (option_map (calls true) before)))

-- ---- faults

-- the output, and what gives links, count a fault exactly where that ends the search, and none
-- where memory runs out
pub record CountsEndingFaults {E : Type 0}
    (result : Result SearchEnd E) (printed printed' given given' : ℕ) : Type 0 where
  pub output_failed : IfOk result (λ end. end ≡ OutputFault → CountHasRisen printed printed')
  pub net_failed : IfOk result (λ end. end ≡ NetFault → CountHasRisen given given')
  pub output_faultless : IfOk result (λ end. end ≢ OutputFault → printed' ≡ printed)
  pub net_faultless : IfOk result (λ end. end ≢ NetFault → given' ≡ given)
  pub output_sound : OnErr result (printed' ≡ printed)
  pub net_sound : OnErr result (given' ≡ given)
