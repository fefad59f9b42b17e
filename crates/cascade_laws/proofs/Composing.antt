-- Parts of an event one after another keep what each keeps.
use Rattle.std.proofs.Common.{◌≡◌, ℕ, List, [], ◌∷◌, ◌++◌, refl, ap, sym, ◌∙◌, subst}
use Rattle.std.specs.Prelude.{Ok, Err, fold}
use Rattle.std.proofs.lemmas.List.Sums.{fold-append}
use Rattle.dn_names.specs.Names.{TypeAndValue}
use Rattle.entry_tree.specs.Selection.{Search}
use Rattle.sync_provider.specs.Machine.{ProviderState}
use Rattle.cascade_nodes.specs.declared.node.ConsumerNode.{ConsumerNode}
use Rattle.cascade_nodes.proofs.Fed.{HasRoom}
use Rattle.cascade_exchange.proofs.Owns.{room_after, owns-then, owns-still}
use Rattle.cascade_world.specs.Exchange.{Agreement, ExchangeOutcome, after_lines, and_then}
use Rattle.cascade_laws.specs.Headline.{Known, known_after}
use Rattle.cascade_world.specs.ReportLines.{ReportLine}
use Rattle.cascade_laws.proofs.Feeding.{IsSource, IsFed, Frame, frame_of, LineIsRightOf, LinesAreRightOf, Promises, KeepsPromises, IsKept, IsRespecced}

-- what these lines leave known
abbrev pub known_by_lines : List ℕ → Known → List ReportLine → Known
known_by_lines name known lines = fold (known_after name) known lines

lines-append : (lines more : List ReportLine) (number : ℕ) (frame : Frame) (known : Known) → LinesAreRightOf number frame known lines
    → LinesAreRightOf number frame (known_by_lines frame.name known lines) more → LinesAreRightOf number frame known (lines ++ more)
lines-append [] more number frame known right later = later
lines-append (line ∷ lines) more number frame known right later = (right.0, lines-append lines more number frame (known_after frame.name known line) right.1 later)

-- what is fed after lines of this name and more of that one
fed-append : (number : ℕ) (p : ProviderState) (f : ConsumerNode) (name other : List ℕ) (known : Known) (lines more : List ReportLine) → other ≡ name
    → IsFed number p f (known_by_lines other (known_by_lines name known lines) more) → IsFed number p f (known_by_lines name known (lines ++ more))
fed-append number p f name other known lines more same fed =
    subst (IsFed number p f) (ap (λ n. known_by_lines n (known_by_lines name known lines) more) same ∙ sym (fold-append (known_after name) known lines more)) fed

-- what is promised after both
promises-then : (number : ℕ) (search next : Search) (name other : List ℕ) (known : Known) (lines more : List ReportLine) → other ≡ name → next ≡ search
    → KeepsPromises number search known (known_by_lines name known lines)
    → KeepsPromises number next (known_by_lines name known lines) (known_by_lines other (known_by_lines name known lines) more)
    → KeepsPromises number search known (known_by_lines name known (lines ++ more))
promises-then number search next name other known lines more same alike first then k writes least most far promised =
    subst (Promises k search writes) (ap (λ n. known_by_lines n (known_by_lines name known lines) more) same ∙ sym (fold-append (known_after name) known lines more))
    (subst (λ s. Promises k s writes now) alike (then k writes least most far (subst (λ s. Promises k s writes (known_by_lines name known lines)) (sym alike) (first k writes least most far promised))))
  where
    now : Known
    now = known_by_lines other (known_by_lines name known lines) more

-- what is known and stays promises what it did
pub promises-still : (number : ℕ) (search : Search) (known : Known) → KeepsPromises number search known known
promises-still number search known other writes least most far promised = promised

-- ---- one part after another

-- what one part and then another keeps, both keep together
pub kept-then : (number : ℕ) (suffix : List (List TypeAndValue)) (one two three : Agreement) (lines more : List ReportLine) (known : Known)
    → IsKept number suffix one two lines known → IsKept number suffix two three more (known_by_lines one.consumer_node.name known lines)
    → IsKept number suffix one three (lines ++ more) known
kept-then number suffix one two three lines more known first then = record {
  source = then.source;
  fed = fed-append number three.provider three.consumer_node one.consumer_node.name two.consumer_node.name known lines more (ap (λ (frame : Frame). frame.name) first.same) then.fed;
  right =
      lines-append lines more number (frame_of one) known first.right
      (subst (λ frame. LinesAreRightOf number frame (known_by_lines one.consumer_node.name known lines) more) first.same then.right);
  same = then.same ∙ first.same;
  others = λ g k fed apart. let now = first.others g k fed apart in then.others g k now.0 now.1;
  owns = owns-then one two three first.owns then.owns;
  elsewhere =
      promises-then number one.consumer_node.consumer.spec two.consumer_node.consumer.spec one.consumer_node.name two.consumer_node.name known lines more
      (ap (λ (frame : Frame). frame.name) first.same) (ap (λ (frame : Frame). frame.spec) first.same) first.elsewhere then.elsewhere;
}

-- and one after which something else is wanted
pub respecced-then : (number : ℕ) (suffix : List (List TypeAndValue)) (search : Search) (one two three : Agreement) (lines more : List ReportLine) (known : Known)
    → IsKept number suffix one two lines known → (known_by_lines one.consumer_node.name known lines).entries ≡ known.entries
    → IsRespecced number suffix search two three more (known_by_lines one.consumer_node.name known lines) → IsRespecced number suffix search one three (lines ++ more) known
respecced-then number suffix search one two three lines more known first entries then = record {
  source = then.source;
  fed = fed-append number three.provider three.consumer_node one.consumer_node.name two.consumer_node.name known lines more named then.fed;
  right =
      lines-append lines more number (frame_of one) known first.right
      (subst (λ frame. LinesAreRightOf number frame (known_by_lines one.consumer_node.name known lines) more) first.same then.right);
  same = then.same ∙ ap (λ (frame : Frame). record frame { spec = search }) first.same;
  others = λ g k fed apart. let now = first.others g k fed apart in then.others g k now.0 now.1;
  owns = owns-then one two three first.owns then.owns;
  rest = then.rest;
  none = ap (λ (k : Known). k.cookie) (sym known_is) ∙ then.none;
  entries = ap (λ (k : Known). k.entries) (sym known_is) ∙ then.entries ∙ entries;
}
  where
    named : two.consumer_node.name ≡ one.consumer_node.name
    named = ap (λ (frame : Frame). frame.name) first.same

    known_is : known_by_lines two.consumer_node.name (known_by_lines one.consumer_node.name known lines) more ≡ known_by_lines one.consumer_node.name known (lines ++ more)
    known_is = ap (λ n. known_by_lines n (known_by_lines one.consumer_node.name known lines) more) named ∙ sym (fold-append (known_after one.consumer_node.name) known lines more)

-- a part that is refused changes nothing
abbrev pub IsKeptIn : ℕ → List (List TypeAndValue) → Agreement → Known → ExchangeOutcome → Type 0
IsKeptIn number suffix pair known (Ok next) = IsKept number suffix pair next.0 next.1 known
IsKeptIn number suffix pair known (Err cause) = Unit {0}

-- what a part keeps of each source and what is fed by it
abbrev pub Keeps : ℕ → List (List TypeAndValue) → (Agreement → ExchangeOutcome) → Type 0
Keeps number suffix part =
    (pair : Agreement) (known : Known) → IsSource number suffix pair.provider → IsFed number pair.provider pair.consumer_node known → HasRoom pair.provider pair.consumer_node
    → IsKeptIn number suffix pair known (part pair)

-- lines that were reported before a part stand before its own
pub kept-lines : (number : ℕ) (suffix : List (List TypeAndValue)) (one two : Agreement) (lines : List ReportLine) (known : Known) (outcome : ExchangeOutcome)
    → IsKept number suffix one two lines known → IsKeptIn number suffix two (known_by_lines one.consumer_node.name known lines) outcome
    → IsKeptIn number suffix one known (after_lines lines outcome)
kept-lines number suffix one two lines known (Ok next) first then = kept-then number suffix one two next.0 lines next.1 known first then
kept-lines number suffix one two lines known (Err cause) first then = tt

-- what is kept up to a part is kept after it
pub kept-part : (number : ℕ) (suffix : List (List TypeAndValue)) (one two : Agreement) (lines : List ReportLine) (known : Known) (part : Agreement → ExchangeOutcome)
    → IsKept number suffix one two lines known → HasRoom one.provider one.consumer_node → Keeps number suffix part → IsKeptIn number suffix one known (after_lines lines (part two))
kept-part number suffix one two lines known part first room keeps =
    kept-lines number suffix one two lines known (part two) first
    (keeps two (known_by_lines one.consumer_node.name known lines) first.source first.fed (room_after one two first.owns room))

-- two parts that keep what each keeps do so one after the other
pub keeps-then : (number : ℕ) (suffix : List (List TypeAndValue)) (first next : Agreement → ExchangeOutcome) → Keeps number suffix first → Keeps number suffix next
    → Keeps number suffix (λ pair. and_then (first pair) next)
keeps-then number suffix first next one two pair known source fed room = by (first pair) (one pair known source fed room)
  where
    by : (outcome : ExchangeOutcome) → IsKeptIn number suffix pair known outcome → IsKeptIn number suffix pair known (and_then outcome next)
    by (Ok after) kept = kept-part number suffix pair after.0 after.1 known next kept room two
    by (Err cause) kept = tt

-- where nothing is done, everything is kept
pub kept-still : (number : ℕ) (suffix : List (List TypeAndValue)) (pair : Agreement) (known : Known)
    → IsSource number suffix pair.provider → IsFed number pair.provider pair.consumer_node known → IsKept number suffix pair pair [] known
kept-still number suffix pair known source fed = record {
  source = source;
  fed = fed;
  right = tt;
  same = refl;
  others = λ g k other apart. (other, apart);
  owns = owns-still pair.lineage pair.provider pair.consumer_node pair.consumer_node (λ at mine. mine);
  elsewhere = promises-still number pair.consumer_node.consumer.spec known;
}

-- a line that leaves what is known
abbrev pub IsStill : ReportLine → Type 0
IsStill line = (name : List ℕ) (known : Known) → known_after name known line ≡ known

-- a line that leaves what is known may stand after what was kept
pub kept-reported : (number : ℕ) (suffix : List (List TypeAndValue)) (one two : Agreement) (line : ReportLine) (known : Known) → IsStill line
    → LineIsRightOf number (frame_of one) known line
    → IsKept number suffix one two [] known → IsKept number suffix one two (line ∷ []) known
kept-reported number suffix one two line known still right kept = record {
  source = kept.source;
  fed = subst (IsFed number two.provider two.consumer_node) (sym (still one.consumer_node.name known)) kept.fed;
  right = (right, tt);
  same = kept.same;
  others = kept.others;
  owns = kept.owns;
  elsewhere = subst (KeepsPromises number one.consumer_node.consumer.spec known) (sym (still one.consumer_node.name known)) kept.elsewhere;
}
