-- A consumer that wants something else is cut where it is busy, and rests with its entries and without a cookie.
use Rattle.std.proofs.Common.{◌≡◌, ℕ, Bool, true, false, cond, None, List, [], ◌∷◌, refl, ap, sym, ◌∙◌, inl, subst}
use Rattle.std.specs.Prelude.{Ok}
use Rattle.directory_writes.specs.Directory.{DirectoryState}
use Rattle.dn_names.specs.Names.{TypeAndValue, is_at_or_below}
use Rattle.entry_tree.specs.Selection.{Search}
use Rattle.sync_consumer.specs.Taking.{wanting}
use Rattle.cascade_nodes.specs.declared.node.ConsumerNode.{ConsumerNode}
use Rattle.cascade_nodes.proofs.Fed.{IsAtRest}
use Rattle.cascade_exchange.proofs.Owns.{owns-still}
use Rattle.cascade_exchange.proofs.Others.{directory_stays}
use Rattle.cascade_world.specs.Exchange.{Agreement, ExchangeOutcome, copy_of, name_of, given_up, is_busy, with_spec, and_then}
use Rattle.cascade_laws.specs.Headline.{Known}
use Rattle.cascade_world.specs.ReportLines.{ReportLine}
use Rattle.cascade_world.specs.ReportLines.{ReportLine as reported}
use Rattle.cascade_laws.proofs.Composing.{known_by_lines, respecced-then}
use Rattle.cascade_laws.proofs.Feeding.{IsSource, IsFed, IsRespecced, RespecsAreKept, IdlesRest}
use Rattle.cascade_laws.proofs.FedCookies.{own_cookie}
use Rattle.cascade_laws.proofs.FedCutting.{cut_kept, emptied_rests, idle_rests}
use Rattle.cascade_laws.proofs.Sharing.{others-none}

abbrev Name : Type 0
Name = List (List TypeAndValue)

-- a part that is not refused leaves what it says
same_next : (one other : Agreement × List ReportLine) → ◌≡◌ {A = ExchangeOutcome} (Ok one) (Ok other) → one ≡ other
same_next one other same = cc

abbrev Nothing : Agreement → ExchangeOutcome
Nothing pair = Ok (pair, reported.Nothing (name_of pair) ∷ [])

abbrev CutOff : Agreement → ExchangeOutcome
CutOff pair = Ok (given_up pair (copy_of pair.consumer_node), reported.Cut (name_of pair) ∷ [])

-- a consumer that was cut where it was busy is at rest
pub idles_rest : IdlesRest
idles_rest before after lines = by (is_busy before.consumer_node) refl
  where
    by : (busy : Bool) → is_busy before.consumer_node ≡ busy → cond busy (cond (is_busy before.consumer_node) (CutOff before) (Nothing before)) (Ok (before, [])) ≡ Ok (after, lines) → IsAtRest after.consumer_node
    by true busy is =
        let same : (given_up before (copy_of before.consumer_node), reported.Cut (name_of before) ∷ []) ≡ (after, lines) =
        same_next (given_up before (copy_of before.consumer_node), reported.Cut (name_of before) ∷ []) (after, lines) (ap (λ b. cond b (CutOff before) (Nothing before)) (sym busy) ∙ is) in
        subst (λ (next : Agreement × List ReportLine). IsAtRest next.0.consumer_node) same (emptied_rests before.consumer_node)
    by false rests is =
        subst (λ (next : Agreement × List ReportLine). IsAtRest next.0.consumer_node) (same_next (before, []) (after, lines) is) (idle_rests before.consumer_node rests)

-- ---- one at rest wants something else

abbrev wanting_then : Agreement → Search → Agreement
wanting_then pair search = record pair { consumer_node = record pair.consumer_node { consumer = wanting pair.consumer_node.consumer search } }

rest_respecced : (number : ℕ) (suffix : Name) (search : Search) (pair : Agreement) (known : Known) → is_at_or_below search.base pair.provider.directory.suffix ≡ true
    → IsSource number suffix pair.provider → IsFed number pair.provider pair.consumer_node known → IsAtRest pair.consumer_node
    → IsRespecced number suffix search pair (wanting_then pair search) (reported.Holds (name_of pair) None ∷ []) known
rest_respecced number suffix search pair known below source fed rest = record {
  source = source;
  fed = subst (IsFed number pair.provider after) (sym known_is) (record {
    held = fed.held;
    ascending = fed.ascending;
    cookie = refl;
    promised = tt;
    below = below;
    state = inl rests;
  });
  right = (tt, tt);
  same = refl;
  others = others-none pair.lineage number pair.provider pair.consumer_node after refl;
  owns = owns-still pair.lineage pair.provider pair.consumer_node after (λ at mine. mine);
  rest = rests;
  none = ap (λ (k : Known). k.cookie) known_is;
  entries = ap (λ (k : Known). k.entries) known_is;
}
  where
    after : ConsumerNode
    after = (wanting_then pair search).consumer_node

    rests : IsAtRest after
    rests = record { search = rest.search; session = refl; link = rest.link }

    known_is : known_by_lines pair.consumer_node.name known (reported.Holds (name_of pair) None ∷ []) ≡ record known { cookie = None }
    known_is = own_cookie pair.consumer_node.name known None

-- ---- whether it is busy or not

-- what is left where it is not refused
abbrev RespeccedIn : ℕ → Name → Search → Agreement → Known → ExchangeOutcome → Type 0
RespeccedIn number suffix search pair known outcome = (after : Agreement) (lines : List ReportLine) → outcome ≡ Ok (after, lines) → IsRespecced number suffix search pair after lines known

done_respecced : (number : ℕ) (suffix : Name) (search : Search) (pair after : Agreement) (lines : List ReportLine) (known : Known) → IsRespecced number suffix search pair after lines known
    → RespeccedIn number suffix search pair known (Ok (after, lines))
done_respecced number suffix search pair after lines known is later more same =
    subst (λ (next : Agreement × List ReportLine). IsRespecced number suffix search pair next.0 next.1 known) (same_next (after, lines) (later, more) same) is

-- where something else is wanted, what holds of the others is kept, and the consumer rests without
-- a cookie
pub respecs_are_kept : RespecsAreKept
respecs_are_kept number suffix search before after lines known below source fed room = by (is_busy before.consumer_node) refl after lines
  where
    given : Agreement
    given = given_up before (copy_of before.consumer_node)

    Good : ExchangeOutcome → Type 0
    Good outcome = RespeccedIn number suffix search before known outcome

    by_cut : RespeccedIn number suffix search before known (and_then (CutOff before) (with_spec search))
    by_cut =
        let cut = cut_kept number suffix before known source fed in
        let offered = ap (λ (d : DirectoryState). is_at_or_below search.base d.suffix) (directory_stays before.provider before.consumer_node.search) ∙ below in
        done_respecced number suffix search before (wanting_then given search) (reported.Cut (name_of before) ∷ reported.Holds (name_of before) None ∷ []) known
        (respecced-then number suffix search before given (wanting_then given search) (reported.Cut (name_of before) ∷ []) (reported.Holds (name_of before) None ∷ []) known cut refl
        (rest_respecced number suffix search given known offered cut.source cut.fed (emptied_rests before.consumer_node)))

    by : (busy : Bool) → is_busy before.consumer_node ≡ busy → Good (and_then (cond busy (cond (is_busy before.consumer_node) (CutOff before) (Nothing before)) (Ok (before, []))) (with_spec search))
    by true busy = subst (λ b. Good (and_then (cond b (CutOff before) (Nothing before)) (with_spec search))) (sym busy) by_cut
    by false rests =
        done_respecced number suffix search before (wanting_then before search) (reported.Holds (name_of before) None ∷ []) known
        (rest_respecced number suffix search before known below source fed (idle_rests before.consumer_node rests))
