-- A list of calls with returns, and the calls that count.
use Rattle.std.proofs.Common.{◌≡◌, ◌≢◌, ◌⊎◌, ℕ, zero, suc, Bool, true, false, cond, List, [], ◌∷◌, ◌++◌, length, Option, Some, None, refl, ap, sym, subst, ◌∙◌, inl, inr, arith}
use Rattle.std.specs.Prelude.{⊤}
use Rattle.std.specs.BTreeMap.{insert_entry}
use Rattle.std.specs.List.{slice_get}
use Rattle.std.specs.Ordering.{nat_cmp}
use Rattle.std.proofs.lemmas.Bool.{cases_eq}
use Rattle.directory_writes.specs.Directory.{DirectoryState, cookie_at, last_csn_of}
use Rattle.directory_writes.proofs.Keyed.{opened-same, opened-other}
use Rattle.sync_provider.specs.HandingOut.{search_at}
use Rattle.sync_provider.specs.Machine.{ProviderState, ProviderCall, called, run}
use Rattle.sync_provider.specs.Machine.ProviderCall.{Drops}
use Rattle.sync_provider.specs.Placing.{Ascends, put_back}
use Rattle.sync_provider.specs.Returning.{KeptSearch, snapshot_of, HasNoWriteSince, ReturnStep, MadeCall, made, has_number, calls_back, counted, ProviderStage, first_stage, returned, calls_after_return, returned_to, stepped, stepped_all, MayReturn, MayStep, MayStepAll}
use Rattle.sync_provider.specs.Returning.ReturnStep.{Calls, Returns}
use Rattle.sync_provider.specs.Search.{SearchState}
use Rattle.sync_provider.proofs.Ascending.{ascends-opened, same_maps}
use Rattle.sync_provider.proofs.CountedCalls.{Follows, AreFirst, IsBeside, LeadsBeside, made_fits, follows_run, follows_more, calls_lead}

-- some calls, and then others
pub run_append : (p : ProviderState) (one two : List ProviderCall) → run p (one ++ two) ≡ run (run p one) two
run_append p [] two = refl
run_append p (call ∷ one) two = run_append (called p call) one two

-- ---- lists of calls that differ in which of them count

first_itself : (calls : List MadeCall) → AreFirst calls calls
first_itself [] = tt
first_itself (call ∷ calls) = (refl, first_itself calls)

first_more : (earlier now more : List MadeCall) → AreFirst earlier now → AreFirst earlier (now ++ more)
first_more [] now more are = tt
first_more (was ∷ earlier) [] more are = absurd are
first_more (was ∷ earlier) (call ∷ now) more are = (are.0, first_more earlier now more are.1)

-- they are so too where a search came back from another stage
first_back : (number : ℕ) (calls earlier now : List MadeCall) → AreFirst calls now → AreFirst earlier now → AreFirst calls (calls_back number earlier now)
first_back number [] earlier now are others = tt
first_back number (one ∷ calls) earlier [] are others = absurd are
first_back number (one ∷ calls) [] (call ∷ now) are others = (by (has_number number call.number), first_back number calls [] now are.1 tt)
  where
    by : (b : Bool) → one ≡ record (cond b (record call { counts = false }) call) { counts = one.counts }
    by true = are.0
    by false = are.0
first_back number (one ∷ calls) (was ∷ earlier) (call ∷ now) are others = (by (has_number number call.number), first_back number calls earlier now are.1 others.1)
  where
    by : (b : Bool) → one ≡ record (cond b was call) { counts = one.counts }
    by true =
        let alike : record call { counts = one.counts } ≡ record was { counts = one.counts } = ap (λ (c : MadeCall). record c { counts = one.counts }) (sym others.0) in
        are.0 ∙ alike
    by false = are.0

-- ---- a stage, and those before it

-- its calls lead to its provider, and are the first of those of now
record Stands (first : ProviderState) (now : List MadeCall) (stage : ProviderStage) : Type 0 where
  follows : Follows first stage.calls stage.provider
  are_first : AreFirst stage.calls now

abbrev EachStands : ProviderState → List MadeCall → List ProviderStage → Type 0
EachStands first now [] = ⊤
EachStands first now (stage ∷ stages) = Stands first now stage × EachStands first now stages

-- a step goes from calls to more of them, or to such of which others count
record Goes (first : ProviderState) (calls : List MadeCall) (stage : ProviderStage) : Type 0 where
  follows : Follows first stage.calls stage.provider
  are_first : (earlier : List MadeCall) → AreFirst earlier calls → AreFirst earlier stage.calls

each_goes : (first : ProviderState) (calls : List MadeCall) (stage : ProviderStage) → Goes first calls stage → (stages : List ProviderStage) → EachStands first calls stages → EachStands first stage.calls stages
each_goes first calls stage goes [] each = tt
each_goes first calls stage goes (before ∷ stages) each =
    (record { follows = each.0.follows; are_first = goes.are_first before.calls each.0.are_first }, each_goes first calls stage goes stages each.1)

-- ---- a call

call_goes : (first : ProviderState) (stage : ProviderStage) (call : ProviderCall) → Follows first stage.calls stage.provider
    → Goes first stage.calls (record { provider = called stage.provider call; calls = stage.calls ++ made stage.provider call ∷ [] })
call_goes first stage call is = record {
  follows = follows_more stage.calls first stage.provider (made stage.provider call) is (made_fits stage.provider call);
  are_first = λ earlier are. first_more earlier stage.calls (made stage.provider call ∷ []) are;
}

-- ---- a return

-- the provider that has a search at a number and is as now at the others is the one after the return
beside_is : (number : ℕ) (s : SearchState) (now back : ProviderState) → IsBeside number s now back → back ≡ record now { searches = put_back now.searches number (Some s) }
beside_is number s now back is = λ i. record (sym is.alike i) { searches = same i }
  where
    at : (n : ℕ) → (n ≡ number) ⊎ (n ≢ number) → search_at back.searches n ≡ search_at (insert_entry nat_cmp now.searches number s) n
    at n (inl here) =
        ap (search_at back.searches) here ∙ is.own ∙ sym (opened-same now.searches number s) ∙ ap (search_at (insert_entry nat_cmp now.searches number s)) (sym here)
    at n (inr far) = sym (is.others n far) ∙ sym (opened-other now.searches number n s far)

    same : back.searches ≡ insert_entry nat_cmp now.searches number s
    same = same_maps back.searches (insert_entry nat_cmp now.searches number s) 0 is.other (ascends-opened now.searches 0 number s is.one (omega arith)) (λ n. at n (cases_eq n number))

return_goes : (first : ProviderState) (stage before : ProviderStage) (number : ℕ) → Ascends 0 first.searches → Follows first stage.calls stage.provider → Stands first stage.calls before
    → HasNoWriteSince stage.provider.directory (snapshot_of before.provider number) → Goes first stage.calls (returned_to stage number (Some before))
return_goes first stage before number ascends is stands none = by (search_at before.provider.searches number) refl
  where
    by : (found : Option SearchState) → search_at before.provider.searches number ≡ found
        → Goes first stage.calls (record { provider = returned stage.provider before.provider number; calls = calls_after_return stage before.calls number found })
    by None found =
        let drop = call_goes first stage (Drops number) is in
        let closed : called stage.provider (Drops number) ≡ returned stage.provider before.provider number =
        ap (λ o. record stage.provider { searches = put_back stage.provider.searches number o }) (sym found) in
        record { follows = subst (λ p. Follows first (stage.calls ++ made stage.provider (Drops number) ∷ []) p) closed drop.follows; are_first = drop.are_first }
    by (Some s) found =
        let back : LeadsBeside number s stage.provider first (calls_back number before.calls stage.calls) =
        calls_lead number s before.calls stage.calls first before.provider stage.provider ascends stands.are_first stands.follows is found none.counted in
        let last : back.last ≡ returned stage.provider before.provider number =
        beside_is number s stage.provider back.last back.beside ∙ ap (λ o. record stage.provider { searches = put_back stage.provider.searches number o }) (sym found) in
        record {
          follows = subst (λ p. Follows first (calls_back number before.calls stage.calls) p) last back.follows;
          are_first = λ earlier are. first_back number earlier before.calls stage.calls are stands.are_first;
        }

-- a return to one of the stages
found_goes : (first : ProviderState) (stage : ProviderStage) (stages : List ProviderStage) (ago number : ℕ) → Ascends 0 first.searches → Follows first stage.calls stage.provider → EachStands first stage.calls stages
    → MayReturn stage.provider number (slice_get stages ago) → Goes first stage.calls (returned_to stage number (slice_get stages ago))
found_goes first stage [] ago number ascends is each may = absurd may
found_goes first stage (before ∷ stages) zero number ascends is each may = return_goes first stage before number ascends is each.0 may
found_goes first stage (before ∷ stages) (suc ago) number ascends is each may = found_goes first stage stages ago number ascends is each.1 may

-- ---- all steps

step_goes : (first : ProviderState) (stages : List ProviderStage) (stage : ProviderStage) (step : ReturnStep) → Ascends 0 first.searches → Follows first stage.calls stage.provider → EachStands first stage.calls stages
    → MayStep stages stage step → Goes first stage.calls (stepped stages stage step)
step_goes first stages stage (Calls call) ascends is each may = call_goes first stage call is
step_goes first stages stage (Returns ago number) ascends is each may = found_goes first stage stages ago number ascends is each may

all_count : (first : ProviderState) (steps : List ReturnStep) (before : List ProviderStage) (stage : ProviderStage) → Ascends 0 first.searches → Follows first stage.calls stage.provider → EachStands first stage.calls before
    → MayStepAll before stage steps → (stepped_all before stage steps).provider ≡ run first (counted (stepped_all before stage steps).calls)
all_count first [] before stage ascends is each may = sym (follows_run stage.calls first stage.provider is)
all_count first (step ∷ steps) before stage ascends is each may =
    let here : EachStands first stage.calls (stage ∷ before) = (record { follows = is; are_first = first_itself stage.calls }, each) in
    let next : Goes first stage.calls (stepped (stage ∷ before) stage step) = step_goes first (stage ∷ before) stage step ascends is here may.0 in
    all_count first steps (stage ∷ before) (stepped (stage ∷ before) stage step) ascends next.follows (each_goes first stage.calls (stepped (stage ∷ before) stage step) next (stage ∷ before) here) may.1

-- a provider is as after the calls that count
pub returns_count : (p : ProviderState) (steps : List ReturnStep) → Ascends 0 p.searches → MayStepAll [] (first_stage p) steps
    → (stepped_all [] (first_stage p) steps).provider ≡ run p (counted (stepped_all [] (first_stage p) steps).calls)
returns_count p steps ascends may = all_count p steps [] (first_stage p) ascends refl tt may

-- ---- the moment of now

-- where the directory is that of a moment, no write came since
pub no_write_came : (p : ProviderState) (d : DirectoryState) (snapshot : KeptSearch) (number : ℕ) → snapshot ≡ snapshot_of p number → d ≡ p.directory → HasNoWriteSince d snapshot
no_write_came p d snapshot number is same = record {
  suffix = ap (λ m. m.suffix) is ∙ ap (λ e. e.suffix) (sym same);
  counted = ap (λ m. m.writes) is ∙ ap (λ e. length e.writes) (sym same);
  same = ap (λ m. m.cookie) is ∙ ap (λ e. cookie_at e.sid e.history (last_csn_of e)) (sym same);
}
