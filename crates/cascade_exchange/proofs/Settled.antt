-- A consumer that is brought up to its provider, part by part.
use Rattle.std.proofs.Common.{◌≡◌, Bool, true, false, [], ◌∷◌, length, refl, sym, subst, ◌∙◌}
use Rattle.std.specs.Prelude.{Ok, Err, Result}
use Rattle.cascade_script.specs.declared.fault.Cause.{Cause}
use Rattle.sync_provider.specs.Machine.{ProviderState}
use Rattle.cascade_nodes.specs.declared.node.ConsumerNode.{ConsumerNode}
use Rattle.cascade_exchange.specs.Exchange.{Agreement, ExchangeOutcome, agreement_of, and_then, name_of, drains, runs, follows_on, refreshes, catches_up, settled_reported, settles}
use Rattle.cascade_report.specs.Report.{Report, said}
use Rattle.cascade_exchange.specs.Parts.{Does}
use Rattle.cascade_report.specs.ReportLines.ReportLine.{Settled}
use Rattle.cascade_exchange.proofs.Doing.{does_then, reported_none, reported_one, refused_first, refused_second, lineage_stays, does_at}

-- what was done before each part
abbrev Ran : Agreement → ExchangeOutcome
Ran p = and_then (drains p) runs

abbrev Up : Agreement → ExchangeOutcome
Up p = and_then (Ran p) catches_up

ran : (p0 p1 p2 : Agreement) (t0 t1 t2 : Report) → Does (drains p0) t0 p1 t1 (Ok tt) → Does (runs p1) t1 p2 t2 (Ok tt) → Does (Ran p0) t0 p2 t2 (Ok tt)
ran p0 p1 p2 t0 t1 t2 a b = does_then (drains p0) runs t0 t1 t2 p1 p2 a b

settled_at : (p0 p1 p2 p3 : Agreement) (t0 t1 t2 t3 t4 : Report) → Does (drains p0) t0 p1 t1 (Ok tt) → Does (runs p1) t1 p2 t2 (Ok tt) → Does (catches_up p2) t2 p3 t3 (Ok tt)
    → t4 ≡ said t3 (Settled p3.consumer_node.name (length p3.provider.directory.writes) ∷ []) → Does (settles p0) t0 p3 t4 (Ok tt)
settled_at p0 p1 p2 p3 t0 t1 t2 t3 t4 a b c line =
    let up : Does (Up p0) t0 p3 t3 (Ok tt) = does_then (Ran p0) catches_up t0 t2 t3 p2 p3 (ran p0 p1 p2 t0 t1 t2 a b) c in
    does_then (Up p0) settled_reported t0 t3 t4 p3 p3 up (reported_one (settled_reported p3) t3 t4 p3 (Settled (name_of p3) (length p3.provider.directory.writes)) refl line)

-- the same under the lineage that each part sees
pub settled : (p0 : Agreement) (p1 p2 p3 : ProviderState) (f1 f2 f3 : ConsumerNode) (t0 t1 t2 t3 t4 : Report) → Does (drains p0) t0 (agreement_of p1 f1 t0.lineage) t1 (Ok tt)
    → Does (runs (agreement_of p1 f1 t1.lineage)) t1 (agreement_of p2 f2 t1.lineage) t2 (Ok tt) → Does (catches_up (agreement_of p2 f2 t2.lineage)) t2 (agreement_of p3 f3 t2.lineage) t3 (Ok tt)
    → t4 ≡ said t3 (Settled f3.name (length p3.directory.writes) ∷ []) → Does (settles p0) t0 (agreement_of p3 f3 t0.lineage) t4 (Ok tt)
settled p0 p1 p2 p3 f1 f2 f3 t0 t1 t2 t3 t4 a b c line =
    let one : t1.lineage ≡ t0.lineage = lineage_stays (drains p0) t0 t1 (agreement_of p1 f1 t0.lineage) a in
    let two : t2.lineage ≡ t0.lineage = lineage_stays (runs (agreement_of p1 f1 t1.lineage)) t1 t2 (agreement_of p2 f2 t1.lineage) b ∙ one in
    settled_at p0 (agreement_of p1 f1 t0.lineage) (agreement_of p2 f2 t0.lineage) (agreement_of p3 f3 t0.lineage) t0 t1 t2 t3 t4 a
    (does_at runs t1 t2 p1 p2 f1 f2 t1.lineage t0.lineage (Ok tt) one b)
    (does_at catches_up t2 t3 p2 p3 f2 f3 t2.lineage t0.lineage (Ok tt) two c) line

-- ---- a refusal of a part is one of the whole

-- a settling is refused for what rejects the draining of the link
pub drain_refused : (p0 p1 last : Agreement) (t0 t1 new : Report) (cause : Cause) → Does (drains p0) t0 p1 t1 (Err cause) → Does (settles p0) t0 last new (Err cause)
drain_refused p0 p1 last t0 t1 new cause h =
    refused_first (Up p0) settled_reported t0 new new last last cause
    (refused_first (Ran p0) catches_up t0 new new last last cause
    (refused_first (drains p0) runs t0 t1 new p1 last cause h))

run_refused_at : (p0 p1 p2 last : Agreement) (t0 t1 t2 new : Report) (cause : Cause) → Does (drains p0) t0 p1 t1 (Ok tt) → Does (runs p1) t1 p2 t2 (Err cause) → Does (settles p0) t0 last new (Err cause)
run_refused_at p0 p1 p2 last t0 t1 t2 new cause a h =
    refused_first (Up p0) settled_reported t0 new new last last cause
    (refused_first (Ran p0) catches_up t0 new new last last cause
    (refused_second (drains p0) runs t0 t1 t2 new p1 p2 last cause a h))

catching_refused_at : (p0 p1 p2 p3 last : Agreement) (t0 t1 t2 t3 new : Report) (cause : Cause) → Does (drains p0) t0 p1 t1 (Ok tt) → Does (runs p1) t1 p2 t2 (Ok tt) → Does (catches_up p2) t2 p3 t3 (Err cause)
    → Does (settles p0) t0 last new (Err cause)
catching_refused_at p0 p1 p2 p3 last t0 t1 t2 t3 new cause a b h =
    refused_first (Up p0) settled_reported t0 new new last last cause
    (refused_second (Ran p0) catches_up t0 t2 t3 new p2 p3 last cause (ran p0 p1 p2 t0 t1 t2 a b) h)

-- the same under the lineage that each part sees
pub run_refused : (p0 last : Agreement) (p1 p2 : ProviderState) (f1 f2 : ConsumerNode) (t0 t1 t2 new : Report) (cause : Cause) → Does (drains p0) t0 (agreement_of p1 f1 t0.lineage) t1 (Ok tt)
    → Does (runs (agreement_of p1 f1 t1.lineage)) t1 (agreement_of p2 f2 t1.lineage) t2 (Err cause) → Does (settles p0) t0 last new (Err cause)
run_refused p0 last p1 p2 f1 f2 t0 t1 t2 new cause a h =
    run_refused_at p0 (agreement_of p1 f1 t0.lineage) (agreement_of p2 f2 t0.lineage) last t0 t1 t2 new cause a
    (does_at runs t1 t2 p1 p2 f1 f2 t1.lineage t0.lineage (Err cause) (lineage_stays (drains p0) t0 t1 (agreement_of p1 f1 t0.lineage) a) h)

-- a settling is refused for what rejects the catching up
pub catching_refused : (p0 last : Agreement) (p1 p2 p3 : ProviderState) (f1 f2 f3 : ConsumerNode) (t0 t1 t2 t3 new : Report) (cause : Cause) → Does (drains p0) t0 (agreement_of p1 f1 t0.lineage) t1 (Ok tt)
    → Does (runs (agreement_of p1 f1 t1.lineage)) t1 (agreement_of p2 f2 t1.lineage) t2 (Ok tt) → Does (catches_up (agreement_of p2 f2 t2.lineage)) t2 (agreement_of p3 f3 t2.lineage) t3 (Err cause)
    → Does (settles p0) t0 last new (Err cause)
catching_refused p0 last p1 p2 p3 f1 f2 f3 t0 t1 t2 t3 new cause a b h =
    let one : t1.lineage ≡ t0.lineage = lineage_stays (drains p0) t0 t1 (agreement_of p1 f1 t0.lineage) a in
    let two : t2.lineage ≡ t0.lineage = lineage_stays (runs (agreement_of p1 f1 t1.lineage)) t1 t2 (agreement_of p2 f2 t1.lineage) b ∙ one in
    catching_refused_at p0 (agreement_of p1 f1 t0.lineage) (agreement_of p2 f2 t0.lineage) (agreement_of p3 f3 t0.lineage) last t0 t1 t2 t3 new cause a
    (does_at runs t1 t2 p1 p2 f1 f2 t1.lineage t0.lineage (Ok tt) one b)
    (does_at catches_up t2 t3 p2 p3 f2 f3 t2.lineage t0.lineage (Err cause) two h)

-- ---- a consumer that follows on, and one that does not

-- a consumer whose search goes on has nothing to catch up with
pub followed : (p : Agreement) (text : Report) (found : Bool) → found ≡ follows_on p → found ≡ true → Does (catches_up p) text p text (Ok tt)
followed p text found is taken =
    let follows : follows_on p ≡ true = sym is ∙ taken in
    reported_none (catches_up p) text text p (rw follows refl) refl

-- another consumer catches up by a refresh
pub not_followed : (p after : Agreement) (old new : Report) (found : Bool) (result : Result (Unit {0}) Cause) → found ≡ follows_on p → found ≡ false → Does (refreshes p) old after new result → Does (catches_up p) old after new result
not_followed p after old new found result is free does =
    let free' : follows_on p ≡ false = sym is ∙ free in
    let same : catches_up p ≡ refreshes p = rw free' refl in
    subst (λ o. Does o old after new result) (sym same) does
