-- Ports that meet: what each has seen of the others.
use Rattle.std.proofs.Common.{◌≡◌, List, [], ◌∷◌, ◌++◌, refl, ap, ◌∙◌, subst, append_assoc}
use Rattle.std.specs.List.{AllZip}
use Rattle.std.proofs.lemmas.Slice.Zip.{all_zipped_more}
use Rattle.sync_provider.specs.Ports.{HasMet, HasSeenAllOf, IsLater, PortState}
use Rattle.sync_drill.specs.Going.{HasGoneOn, HasMetThis, OthersCameIn, WasSeen}
use Rattle.sync_drill.proofs.Going.{goes-twice, later-goes, stays}
use Rattle.sync_drill.proofs.Lists.{zip-weaker}
use Rattle.sync_drill.proofs.Notes.{later-own}

-- ---- entries of others come in

-- no entry came in
pub came-none : (p : PortState) → OthersCameIn p p
came-none p = record { goes_on = stays p; own = refl }

-- entries came in twice
pub came-twice : (old mid new : PortState) → OthersCameIn old mid → OthersCameIn mid new → OthersCameIn old new
came-twice old mid new first second = record {
  goes_on = goes-twice old mid new first.goes_on second.goes_on;
  own = second.own ∙ first.own;
}

-- entries of others alone came in
pub later-came : (old new : PortState) → IsLater old new → OthersCameIn old new
later-came old new later = record { goes_on = later-goes old new later; own = later-own old new later }

-- ---- what was seen

-- a port that has seen all of another one has seen it still after it goes on
pub begins-on : (other old new : PortState) → HasSeenAllOf old other → HasGoneOn old new → HasSeenAllOf new other
begins-on other old new begins goes = record {
  more = begins.more ++ goes.entries;
  begins = goes.journal
      ∙ ap (λ journal. journal ++ goes.entries) begins.begins
      ∙ append_assoc other.journal begins.more goes.entries;
}

module _ {P H : Type 0} (home : P → H) (state : P → PortState) where
  -- what one has seen goes on, so it has seen the same still
  pub seen-on : (old new : PortState) (xs ys : List P) → HasGoneOn old new → AllZip (WasSeen home state old) xs ys → AllZip (WasSeen home state new) xs ys
  seen-on old new xs ys goes all =
      zip-weaker (WasSeen home state old) (WasSeen home state new) xs ys
      (λ x y seen. record { same = seen.same; begins = begins-on (state x) old new seen.begins goes }) all

  -- and it has seen one more, which it met
  pub seen-more : (old beside after new : P) (xs ys : List P) → AllZip (WasSeen home state (state old)) xs ys
      → HasMet (state old) (state beside) (state new) → home after ≡ home beside → state after ≡ state beside
      → AllZip (WasSeen home state (state new)) (xs ++ beside ∷ []) (ys ++ after ∷ [])
  seen-more old beside after new xs ys all met same_home same_state =
      all_zipped_more (WasSeen home state (state new)) xs ys beside after
      (seen-on (state old) (state new) xs ys (later-goes (state old) (state new) met.later) all)
      (record {
        same = record { its_home = same_home; its_state = same_state };
        begins = met.seen;
      })

  -- a port meets one that has this
  pub met-this : (this : PortState) (old beside new : P) → state beside ≡ this → home new ≡ home old → HasMet (state old) (state beside) (state new)
      → HasMetThis home state this old new
  met-this this old beside new is same met = record {
    its_home = same;
    met = subst (λ seen. HasMet (state old) seen (state new)) is met;
  }
