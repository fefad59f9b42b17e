-- The one link of a search.
use Rattle.std.proofs.Common.{◌≡◌, ◌≢◌, ◌<◌, ◌≤◌, ◌+◌, ℕ, true, List, Option, Some, None, Result, Ok, Err, refl, sym, ap, subst, ◌∙◌, arith, inl, inr, length}
use Rattle.std.specs.Prelude.{IfOk, IfSome, OnErr, option_map}
use Rattle.entry_tree.specs.Selection.{Search}
use Rattle.ldap_client.specs.Links.{LinkState}
use Rattle.sync_io.proofs.Sides.{rose_from}
use Rattle.sync_io.specs.Dial.{Dialled, dials, hangs_up}
use Rattle.sync_io.specs.Faults.{CountHasRisen, one_more}
use Rattle.sync_io.specs.Links.{HasNoFaults}
use Rattle.sync_io.specs.Net.{Served, calls}
use Rattle.sync_model.specs.Copy.{Copy}
use Rattle.ldap_search.specs.Calls.{CallsInPart, CallsOnce, HangsUp, HungUp, HungUpInPart, IsNew, Talks, TalksInPart}
use Rattle.ldap_search.specs.Copies.{TakenMessage}
use Rattle.ldap_search.specs.Talks.{AreFaultless, EndsFollowing, FaultsEnd, IsLinkSound, OutputState}
use Rattle.ldap_search.specs.declared.end.SearchEnd.{SearchEnd}
use Rattle.ldap_search.specs.declared.end.SearchEnd.TheVariants.{Done, NetFault, OutputFault, PeerFault}

-- ---- faults

-- the output failed
pub output_fails : (spec : Search) (count : Option ℕ) (first now : LinkState) (old new : OutputState) → Talks spec count first now old OutputFault new → CountHasRisen old.faults new.faults
output_fails spec None first now old new (inl asks) = asks.1.ends.3
output_fails spec None first now old new (inr fails) = absurd (let wrong : OutputFault ≡ NetFault = fails.0 in cc)
output_fails spec (Some count) first now old new (inl follows) = follows.ends.0.failed
output_fails spec (Some count) first now old new (inr fails) = absurd (let wrong : OutputFault ≡ NetFault = fails.0 in cc)

read_failed : (first now : LinkState) → HasNoFaults first.read_faults first.write_faults → CountHasRisen first.read_faults now.read_faults → 0 < now.read_faults + now.write_faults
read_failed first now sound rose = omega (arith, rose_from first.read_faults now.read_faults sound.reads rose)

write_failed : (first now : LinkState) → HasNoFaults first.read_faults first.write_faults → CountHasRisen first.write_faults now.write_faults → 0 < now.read_faults + now.write_faults
write_failed first now sound rose = omega (arith, rose_from first.write_faults now.write_faults sound.writes rose)

following_failed : (spec : Search) (count : ℕ) (first now : LinkState) (messages : List TakenMessage) (copy : Copy) (old new : OutputState) → HasNoFaults first.read_faults first.write_faults
    → EndsFollowing spec count first now messages copy old NetFault new → 0 < now.read_faults + now.write_faults
following_failed spec count first now messages copy old new sound (inl reading) = read_failed first now sound reading.0.1
following_failed spec count first now messages copy old new sound (inr writing) = write_failed first now sound writing.1.1

-- a call of the link failed
pub link_fails : (spec : Search) (count : Option ℕ) (first now : LinkState) (old new : OutputState) → HasNoFaults first.read_faults first.write_faults → Talks spec count first now old NetFault new
    → 0 < now.read_faults + now.write_faults
link_fails spec None first now old new sound (inl asks) = read_failed first now sound asks.1.ends.0.1
link_fails spec None first now old new sound (inr fails) = write_failed first now sound fails.2.1
link_fails spec (Some count) first now old new sound (inl follows) = following_failed spec count first now follows.messages follows.copy old new sound follows.ends
link_fails spec (Some count) first now old new sound (inr fails) = write_failed first now sound fails.2.1

-- ---- no faults

-- a call fails only where that ends the search
faults_end : (spec : Search) (count : Option ℕ) (first now : LinkState) (old new : OutputState) (end : SearchEnd) → Talks spec count first now old end new → FaultsEnd first now old end new
faults_end spec None first now old new end (inl asks) = asks.1.faults
faults_end spec None first now old new end (inr fails) = subst (λ (e : SearchEnd). FaultsEnd first now old e new) (sym fails.0) (ap (λ (o : OutputState). o.faults) fails.1)
faults_end spec (Some count) first now old new end (inl follows) = follows.faults
faults_end spec (Some count) first now old new end (inr fails) = subst (λ (e : SearchEnd). FaultsEnd first now old e new) (sym fails.0) (ap (λ (o : OutputState). o.faults) fails.1)

link_sound : (first now : LinkState) (old new : OutputState) (end : SearchEnd) → FaultsEnd first now old end new → end ≢ NetFault → IsLinkSound first now
link_sound first now old new Done faults other = faults.0
link_sound first now old new PeerFault faults other = faults.0
link_sound first now old new NetFault faults other = absurd (other refl)
link_sound first now old new OutputFault faults other = faults

output_sound : (first now : LinkState) (old new : OutputState) (end : SearchEnd) → FaultsEnd first now old end new → end ≢ OutputFault → new.faults ≡ old.faults
output_sound first now old new Done faults other = faults.1
output_sound first now old new PeerFault faults other = faults.1
output_sound first now old new NetFault faults other = faults
output_sound first now old new OutputFault faults other = absurd (other refl)

-- ---- the dialler

one_came : {L : Type 0} (address : List ℕ) (before : Option (Dialled L)) → IfSome before (λ d. length d.hung_up ≤ d.came)
    → IfSome (option_map (dials address true) before) (λ d. length d.hung_up < d.came)
one_came address None within = tt
one_came address (Some d) within = omega (arith, within)

-- a link that came can be hung up
pub room_to_hang_up : {L : Type 0} (address : List ℕ) (before now : Option (Dialled L)) → now ≡ option_map (dials address true) before
    → IfSome before (λ d. length d.hung_up ≤ d.came) → IfSome now (λ d. length d.hung_up < d.came)
room_to_hang_up {L} address before now came within =
    subst (λ (d : Option (Dialled L)). IfSome d (λ (all : Dialled L). length all.hung_up < all.came)) (sym came) (one_came address before within)

-- what a search did over a link, which was hung up then
pub hung_up : {L E : Type 0} (state : L → LinkState) (spec : Search) (count : Option ℕ) (result : Result SearchEnd E) (first link : LinkState) (back now : L) (before after : Option (Dialled L))
    (faults faults' : ℕ) (old new : OutputState) → first ≡ link → back ≡ now
    → IfOk result (λ end. Talks spec count first (state now) old end new) → HangsUp ((state back).read_faults + (state back).write_faults) back before faults after faults'
    → IfOk result (λ end. HungUp state spec count link old end new before faults after faults')
hung_up state spec count (Ok end) first link back now before after faults faults' old new begun same talks hangs = record {
  back = back;
  talks = subst (λ (l : LinkState). Talks spec count l (state back) old end new) begun (subst (λ b. Talks spec count first (state b) old end new) (sym same) talks);
  hangs_up = hangs;
}
hung_up state spec count (Err fault) first link back now before after faults faults' old new begun same talks hangs = tt

-- what was done over a link that came, and was hung up
pub called : {L : Type 0} (state : L → LinkState) (address : List ℕ) (spec : Search) (count : Option ℕ) (before mid after : Option (Dialled L)) (faults faults' : ℕ) (old new : OutputState) (end : SearchEnd)
    (link : L) → mid ≡ option_map (dials address true) before → IsNew before (state link) → HungUp state spec count (state link) old end new mid faults after faults'
    → CallsOnce state address spec count before old end after new
called state address spec count before mid after faults faults' old new end link dialled fresh hung = record {
  came = inr (
    state link,
    hung.back,
    fresh,
    hung.talks,
    hung.hangs_up.dialled ∙ ap (λ (d : Option (Dialled _)). option_map (hangs_up hung.back) d) dialled,
  );
}

-- nothing was done over it
pub not_talked : (spec : Search) (count : Option ℕ) (first now : LinkState) (old : OutputState) → now ≡ first → TalksInPart spec count first now old old
not_talked spec None first now old same = inl (
  ap (λ (l : LinkState). l.held) same,
  (ap (λ (l : LinkState). l.read_faults) same, ap (λ (l : LinkState). l.write_faults) same),
  refl,
)
not_talked spec (Some count) first now old same = inl (
  ap (λ (l : LinkState). l.held) same,
  (ap (λ (l : LinkState). l.read_faults) same, ap (λ (l : LinkState). l.write_faults) same),
  refl,
)

-- what a search did over a link up to where memory ran out, which was hung up then
pub hung_up_in_part : {L E : Type 0} (state : L → LinkState) (spec : Search) (count : Option ℕ) (result : Result SearchEnd E) (first link : LinkState) (back now : L) (before after : Option (Dialled L))
    (faults faults' : ℕ) (old new : OutputState) → first ≡ link → back ≡ now → OnErr result (TalksInPart spec count first (state now) old new)
    → HangsUp ((state back).read_faults + (state back).write_faults) back before faults after faults' → OnErr result (HungUpInPart state spec count link old new before faults after faults')
hung_up_in_part state spec count (Ok end) first link back now before after faults faults' old new begun same talks hangs = tt
hung_up_in_part state spec count (Err fault) first link back now before after faults faults' old new begun same talks hangs = record {
  back = back;
  talks = subst (λ (l : LinkState). TalksInPart spec count l (state back) old new) begun (subst (λ b. TalksInPart spec count first (state b) old new) (sym same) talks);
  hangs_up = hangs;
}

-- the same of a dialler that gave it
pub called_in_part : {L E : Type 0} (state : L → LinkState) (address : List ℕ) (spec : Search) (count : Option ℕ) (result : Result SearchEnd E) (before mid after : Option (Dialled L)) (faults faults' : ℕ)
    (old new : OutputState) (link : L) → mid ≡ option_map (dials address true) before → IsNew before (state link)
    → OnErr result (HungUpInPart state spec count (state link) old new mid faults after faults') → OnErr result (CallsInPart state address spec count before old after new)
called_in_part state address spec count (Ok end) before mid after faults faults' old new link dialled fresh hung = tt
called_in_part state address spec count (Err fault) before mid after faults faults' old new link dialled fresh hung = record {
  came = inr (
    state link,
    hung.back,
    fresh,
    hung.talks,
    hung.hangs_up.dialled ∙ ap (λ (d : Option (Dialled _)). option_map (hangs_up hung.back) d) dialled,
  );
}

-- a fault of a link without faults before is counted where it is hung up
pub link_counted : {L : Type 0} (state : L → LinkState) (spec : Search) (count : Option ℕ) (before after : Option (Dialled L)) (faults first faults' : ℕ) (old new : OutputState) (end : SearchEnd) (link : L)
    → HasNoFaults (state link).read_faults (state link).write_faults → faults ≡ first → HungUp state spec count (state link) old end new before faults after faults' → end ≡ NetFault
    → CountHasRisen first faults'
link_counted state spec count before after faults first faults' old new end link sound same hung is =
    let talks = subst (λ (e : SearchEnd). Talks spec count (state link) (state hung.back) old e new) is hung.talks in
    let counted = hung.hangs_up.faulty (link_fails spec count (state link) (state hung.back) old new sound talks) in
    omega (arith, counted, same)

-- an end by the output
pub output_counted : {L : Type 0} (state : L → LinkState) (spec : Search) (count : Option ℕ) (before after : Option (Dialled L)) (faults faults' : ℕ) (old new : OutputState) (end : SearchEnd) (link : L)
    → HungUp state spec count (state link) old end new before faults after faults' → end ≡ OutputFault → CountHasRisen old.faults new.faults
output_counted state spec count before after faults faults' old new end link hung is =
    output_fails spec count (state link) (state hung.back) old new (subst (λ (e : SearchEnd). Talks spec count (state link) (state hung.back) old e new) is hung.talks)

-- a link without faults is counted as none where it is hung up
pub link_uncounted : {L : Type 0} (state : L → LinkState) (spec : Search) (count : Option ℕ) (before after : Option (Dialled L)) (faults first faults' : ℕ) (old new : OutputState) (end : SearchEnd) (link : L)
    → HasNoFaults (state link).read_faults (state link).write_faults → faults ≡ first → HungUp state spec count (state link) old end new before faults after faults' → end ≢ NetFault
    → faults' ≡ first
link_uncounted state spec count before after faults first faults' old new end link sound same hung other =
    let now = link_sound (state link) (state hung.back) old new end (faults_end spec count (state link) (state hung.back) old new end hung.talks) other in
    hung.hangs_up.sound (omega (arith, now.0, now.1, sound.reads, sound.writes)) ∙ same

-- a search that the output did not end had no fault of it
pub output_uncounted : {L : Type 0} (state : L → LinkState) (spec : Search) (count : Option ℕ) (before after : Option (Dialled L)) (faults faults' : ℕ) (old new : OutputState) (end : SearchEnd) (link : L)
    → HungUp state spec count (state link) old end new before faults after faults' → end ≢ OutputFault → new.faults ≡ old.faults
output_uncounted state spec count before after faults faults' old new end link hung =
    output_sound (state link) (state hung.back) old new end (faults_end spec count (state link) (state hung.back) old new end hung.talks)

-- ---- no faults where memory ran out

-- no call had failed
faultless_in_part : (spec : Search) (count : Option ℕ) (first now : LinkState) (old new : OutputState) → TalksInPart spec count first now old new → AreFaultless first now old new
faultless_in_part spec None first now old new (inl unasked) = (unasked.1, ap (λ (o : OutputState). o.faults) unasked.2)
faultless_in_part spec None first now old new (inr asks) = asks.1.faults
faultless_in_part spec (Some count) first now old new (inl unasked) = (unasked.1, ap (λ (o : OutputState). o.faults) unasked.2)
faultless_in_part spec (Some count) first now old new (inr follows) = follows.faults

-- so none is counted where the link is hung up
pub link_sound_in_part : {L : Type 0} (state : L → LinkState) (spec : Search) (count : Option ℕ) (before after : Option (Dialled L)) (faults first faults' : ℕ) (old new : OutputState) (link : L)
    → HasNoFaults (state link).read_faults (state link).write_faults → faults ≡ first → HungUpInPart state spec count (state link) old new before faults after faults' → faults' ≡ first
link_sound_in_part state spec count before after faults first faults' old new link sound same hung =
    let now = (faultless_in_part spec count (state link) (state hung.back) old new hung.talks).0 in
    hung.hangs_up.sound (omega (arith, now.0, now.1, sound.reads, sound.writes)) ∙ same

-- nor is one of the output
pub output_sound_in_part : {L : Type 0} (state : L → LinkState) (spec : Search) (count : Option ℕ) (before after : Option (Dialled L)) (faults faults' : ℕ) (old new : OutputState) (link : L)
    → HungUpInPart state spec count (state link) old new before faults after faults' → new.faults ≡ old.faults
output_sound_in_part state spec count before after faults faults' old new link hung =
    (faultless_in_part spec count (state link) (state hung.back) old new hung.talks).1

-- ---- the net

one_given : {L C M : Type 0} (before : Option (Served L C M)) → IfSome before (λ s. length s.retired + length s.gone ≤ s.callers)
    → IfSome (option_map (calls true) before) (λ s. length s.retired + length s.gone < s.callers)
one_given None within = tt
one_given (Some s) within = omega (arith, within)

-- a caller that was given can be retired or let go
pub room_to_retire : {L C M : Type 0} (before now : Option (Served L C M)) → now ≡ option_map (calls true) before
    → IfSome before (λ s. length s.retired + length s.gone ≤ s.callers) → IfSome now (λ s. length s.retired + length s.gone < s.callers)
room_to_retire {L} {C} {M} before now given within =
    subst (λ (s : Option (Served L C M)). IfSome s (λ (all : Served L C M). length all.retired + length all.gone < all.callers)) (sym given) (one_given before within)

-- a fault of a caller without faults before is counted where it is retired
pub caller_counted : (faults faults' first before after : ℕ) → faults ≡ 0 → CountHasRisen faults faults' → before ≡ first → (0 < faults' → after ≡ one_more before) → CountHasRisen first after
caller_counted faults faults' first before after none rose same counts =
    let counted = counts (rose_from faults faults' none rose) in
    omega (arith, counted, same)
