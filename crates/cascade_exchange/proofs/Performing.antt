-- An event that is done wholly, or taken back.
use Rattle.std.proofs.Common.{◌≡◌, ℕ, Bool, true, false, [], ◌++◌, Option, Some, None, refl, ap, sym, subst, ◌∙◌}
use Rattle.std.specs.Prelude.{Result, Ok, Err, IfSome, OnErr, is_some}
use Rattle.std.proofs.lemmas.Bool.{false≢true}
use Rattle.sync_provider.specs.Machine.{ProviderState}
use Rattle.directory_writes.specs.Directory.{DirectoryState}
use Rattle.directory_writes.proofs.Keyed.{closed_at}
use Rattle.sync_provider.specs.HandingOut.{search_at}
use Rattle.sync_provider.specs.Placing.{ComesBack, put_back}
use Rattle.sync_provider.specs.Returning.{KeptSearch, HasNoWriteSince, snapshot_of}
use Rattle.sync_provider.proofs.Returns.{no_write_came}
use Rattle.cascade_nodes.specs.declared.node.ConsumerNode.{ConsumerNode}
use Rattle.cascade_nodes.specs.Ours.{IsOurs}
use Rattle.cascade_script.specs.declared.fault.Cause.{Cause}
use Rattle.cascade_script.specs.declared.fault.Cause.TheVariants.{BadCommand, UnknownNode, NameTaken, BadRecord, LimitReached, OutsideSuffix, LaterCookie, Circle, NoMemory}
use Rattle.cascade_exchange.specs.Exchange.{Agreement, ExchangeOutcome, closed, is_stepwise}
use Rattle.cascade_report.specs.Report.{Report}
use Rattle.cascade_exchange.specs.Parts.{AreAsBefore, Does, Performs, KeepsOthers, IsKeptSearch, IsKeptIfAny, BringsBack, IsUntouched, opened_since, with_kept, search_back, consumer_back}
use Rattle.cascade_exchange.proofs.Others.{only_searches}
use Rattle.cascade_report.specs.ReportLines.{lines_text, stages_of}
use Rattle.cascade_exchange.specs.declared.exchange.Exchange.{Exchange}
use Rattle.cascade_exchange.specs.declared.exchange.Performed.{Performed}
use Rattle.cascade_exchange.specs.declared.exchange.Snapshot.{Snapshot}

-- an exchange that is done gives the text and the stages of its lines
pub performed : (outcome : ExchangeOutcome) (after : Agreement) (old new : Report) (reported : Performed) → old.text ≡ [] → old.stages ≡ [] → Does outcome old after new (Ok tt)
    → reported.text.items ≡ new.text → reported.stages.items ≡ new.stages → Performs outcome after (Ok reported)
performed outcome after old new reported no_text no_stages does text stages = (
  does.0,
  does.1,
  text ∙ ap (λ (t : Report). t.text) does.2 ∙ ap (λ t. t ++ lines_text does.0) no_text,
  stages ∙ ap (λ (t : Report). t.stages) does.2 ∙ ap (λ s. s ++ stages_of does.0) no_stages,
)

-- what is refused in its midst is refused as a whole
pub refused : (outcome : ExchangeOutcome) (old text : Report) (p after : Agreement) (cause : Cause) → Does outcome old p text (Err cause) → Performs outcome after (Err cause)
refused outcome old text p after BadCommand h = h
refused outcome old text p after UnknownNode h = h
refused outcome old text p after NameTaken h = h
refused outcome old text p after BadRecord h = h
refused outcome old text p after (LimitReached number) h = h
refused outcome old text p after OutsideSuffix h = h
refused outcome old text p after (LaterCookie held given) h = h
refused outcome old text p after Circle h = h
refused outcome old text p after NoMemory h = tt

-- ---- what brings both back

-- where the consumer has no search that is kept, what it opened since is closed
searches_stay : (p p1 : ProviderState) (search search1 : Option ℕ) → closed p1 search1 ≡ closed p search → IfSome search (λ number. p1 ≡ p) → closed p1 (opened_since search search1) ≡ p
searches_stay p p1 None search1 others same = others
searches_stay p p1 (Some number) search1 others same = same

-- a search that is kept is back where the one that is open now is closed
kept_back : (p q : ProviderState) (kept : KeptSearch) → IsKeptSearch p (Some kept.number) kept → q ≡ closed p (Some kept.number) → with_kept q kept ≡ p
kept_back p q kept is same =
    let own : kept.search ≡ search_at p.searches kept.number = ap (λ m. m.search) is.value in
    ap (λ r. with_kept r kept) same
    ∙ ap (λ found. record p { searches = put_back (closed_at p.searches kept.number) kept.number found }) own
    ∙ ap (λ es. record p { searches = es }) is.back

-- the provider comes back with the search that is kept, or where none is kept
provider_comes_back : (p p1 : ProviderState) (search search1 : Option ℕ) (kept : Option KeptSearch) → IsKeptIfAny p search kept → closed p1 search1 ≡ closed p search → IsUntouched kept search p p1
    → search_back kept search search1 p1 ≡ p
provider_comes_back p p1 search search1 None are others same = searches_stay p p1 search search1 others (same refl)
provider_comes_back p p1 search search1 (Some kept) are others same =
    kept_back p (closed p1 search1) kept (subst (λ s. IsKeptSearch p s kept) are.own are) (others ∙ ap (closed p) are.own)

no_write_since : (p p1 : ProviderState) (search search1 : Option ℕ) (kept : Option KeptSearch) → IsKeptIfAny p search kept → closed p1 search1 ≡ closed p search → IfSome kept (HasNoWriteSince p1.directory)
no_write_since p p1 search search1 None are others = tt
no_write_since p p1 search search1 (Some kept) are others = no_write_came p p1.directory kept kept.number are.value (only_searches p p1 search search1 others).directory

kept_ours : (p : ProviderState) (search : Option ℕ) (kept : Option KeptSearch) → IsKeptIfAny p search kept → IfSome kept (λ own. IfSome own.search IsOurs)
kept_ours p search None are = tt
kept_ours p search (Some kept) are = are.ours

-- a search that is closed is no write
pub still_unwritten : (d e : DirectoryState) (kept : KeptSearch) → HasNoWriteSince d kept → e ≡ d → HasNoWriteSince e kept
still_unwritten d e kept none same = subst (λ d. HasNoWriteSince d kept) (sym same) none

-- what is kept of a search
pub keeps_search : (p : ProviderState) (search : Option ℕ) (number : ℕ) (kept : KeptSearch) → search ≡ Some number → kept ≡ snapshot_of p number → ComesBack p.searches number → IfSome kept.search IsOurs → IsKeptSearch p search kept
keeps_search p search number kept is value back ours =
    let own : kept.number ≡ number = ap (λ m. m.number) value in
    record {
      value = value ∙ ap (snapshot_of p) (sym own);
      own = is ∙ ap Some (sym own);
      ours = ours;
      back = subst (ComesBack p.searches) (sym own) back;
    }

-- it is not so that something is kept and nothing is
pub something_kept : {A B : Type 0} (kept : Option A) (value : A) → kept ≡ Some value → kept ≡ None → B
something_kept kept value is none = let never : ⊥ = cc in absurd never

-- a snapshot brings back what it was made of
pub brings_back : (p p1 : ProviderState) (f f1 : ConsumerNode) (before : Snapshot) → before.search ≡ f.search → IsKeptIfAny p f.search before.own → KeepsOthers p f p1 f1 → IsUntouched before.own f.search p p1
    → consumer_back before.consumer_node f1 ≡ f → BringsBack p f p1 f1 before
brings_back p p1 f f1 before search are others untouched same = record {
  no_write = no_write_since p p1 f.search f1.search before.own are others;
  ours = kept_ours p f.search before.own are;
  same_provider = ap (λ own. search_back before.own own f1.search p1) search ∙ provider_comes_back p p1 f.search f1.search before.own are others untouched;
  same_consumer_node = same;
}

-- a consumer that is kept comes back
kept_consumer : (f f1 : ConsumerNode) (kept : Option ConsumerNode) → IfSome kept (λ was. was ≡ f) → is_some kept ≡ true → consumer_back kept f1 ≡ f
kept_consumer f f1 None same some = absurd (false≢true some)
kept_consumer f f1 (Some was) same some = same

-- and one that is as it was need not be kept
still_consumer : (f f1 : ConsumerNode) (kept : Option ConsumerNode) → IfSome kept (λ was. was ≡ f) → f1 ≡ f → consumer_back kept f1 ≡ f
still_consumer f f1 None kept same = same
still_consumer f f1 (Some was) kept same = kept

-- an exchange in steps, by what is kept before it and what it leaves
pub stepwise_back : (what : Exchange) (p p1 : ProviderState) (f f1 : ConsumerNode) (own : Option KeptSearch) (before after : Snapshot) → before.search ≡ f.search → IfSome before.consumer_node (λ was. was ≡ f) → is_some before.consumer_node ≡ is_stepwise what
    → after ≡ record before { own = own } → IsKeptIfAny p f.search own → KeepsOthers p f p1 f1 → (is_stepwise what ≡ true → IsUntouched own f.search p p1) → is_stepwise what ≡ true → BringsBack p f p1 f1 after
stepwise_back what p p1 f f1 own before after search same steps is are others untouched stepwise =
    subst (BringsBack p f p1 f1) (sym is)
    (brings_back p p1 f f1 (record before { own = own }) search are others (untouched stepwise) (kept_consumer f f1 before.consumer_node same (steps ∙ stepwise)))

-- a refused one, whether it is done in steps or not
pub refused_back : (what : Exchange) (p p1 : ProviderState) (f f1 : ConsumerNode) (own : Option KeptSearch) (before after : Snapshot) → before.search ≡ f.search → IfSome before.consumer_node (λ was. was ≡ f) → is_some before.consumer_node ≡ is_stepwise what
    → after ≡ record before { own = own } → IsKeptIfAny p f.search own → KeepsOthers p f p1 f1 → (is_stepwise what ≡ true → IsUntouched own f.search p p1) → (is_stepwise what ≡ false → AreAsBefore p f p1 f1)
    → BringsBack p f p1 f1 after
refused_back what p p1 f f1 own before after search same steps is are others untouched still = by (is_stepwise what) refl
  where
    anyhow : (own : Option ℕ) → p1 ≡ p → IfSome own (λ number. p1 ≡ p)
    anyhow None here = tt
    anyhow (Some number) here = here

    by : (stepwise : Bool) → is_stepwise what ≡ stepwise → BringsBack p f p1 f1 after
    by true now = stepwise_back what p p1 f f1 own before after search same steps is are others untouched now
    by false now =
        subst (BringsBack p f p1 f1) (sym is)
        (brings_back p p1 f f1 (record before { own = own }) search are others (λ none. anyhow f.search (still now).0) (still_consumer f f1 before.consumer_node same (still now).1))

-- where the searches are kept or the consumer had none, nothing of them is owed
pub owes_nothing : (kept : Option KeptSearch) (search : Option ℕ) (p p1 : ProviderState) → (kept ≡ None → search ≡ None) → IsUntouched kept search p p1
owes_nothing kept search p p1 needed none = by search (needed none)
  where
    by : (own : Option ℕ) → own ≡ None → IfSome own (λ number. p1 ≡ p)
    by None is = tt
    by (Some number) is = let never : ⊥ = cc in absurd never

-- what is kept of the search that a consumer has still
pub kept_same : (p : ProviderState) (search now : Option ℕ) (kept is : Option KeptSearch) → now ≡ search → is ≡ kept → IsKeptIfAny p now kept → IsKeptIfAny p search is
kept_same p search now kept is same put are = subst (IsKeptIfAny p search) (sym put) (subst (λ s. IsKeptIfAny p s kept) same are)

-- where a search was to be kept, nothing is owed
pub dropped_untouched : (p p1 : ProviderState) (search now : Option ℕ) (kept is : Option KeptSearch) → now ≡ search → is ≡ kept → (kept ≡ None → now ≡ None) → IsUntouched is search p p1
dropped_untouched p p1 search now kept is same put needed =
    owes_nothing is search p p1 (λ none. sym same ∙ needed (sym put ∙ none))

-- where both are as before anyway, they are so after a refusal
pub both_stay : {T E : Type 0} (result : Result T E) (p p1 : ProviderState) (f f1 : ConsumerNode) → p1 ≡ p → f1 ≡ f → OnErr result (AreAsBefore p f p1 f1)
both_stay (Ok value) p p1 f f1 provider consumer_node = tt
both_stay (Err cause) p p1 f f1 provider consumer_node = (provider, consumer_node)

-- an exchange is not in steps and in one step
pub in_steps : {A : Type 0} (what : Exchange) → is_stepwise what ≡ true → is_stepwise what ≡ false → A
in_steps what steps at_once = let never : ⊥ = cc in absurd never
