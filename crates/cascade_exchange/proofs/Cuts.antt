-- A consumer that is cut, and one that is opened.
use Rattle.std.proofs.Common.{◌≡◌, Bool, true, false, [], ◌∷◌, refl, ap, sym, ◌∙◌}
use Rattle.std.specs.Prelude.{Ok}
use Rattle.cascade_exchange.specs.Exchange.{Agreement, copy_of, given_up, is_busy, cut, idle}
use Rattle.cascade_report.specs.Report.{Report, said}
use Rattle.cascade_exchange.specs.Parts.{Does}
use Rattle.cascade_report.specs.ReportLines.ReportLine.{Cut, Nothing}
use Rattle.cascade_exchange.proofs.Doing.{reported_none, reported_one}

-- a cut of a consumer that is not busy gives the line `nothing`
pub cut_idle : (pair : Agreement) (old new : Report) (busy : Bool) → busy ≡ is_busy pair.consumer_node → busy ≡ false → new ≡ said old (Nothing pair.consumer_node.name ∷ []) → Does (cut pair) old pair new (Ok tt)
cut_idle pair old new busy is free line =
    let idle' : is_busy pair.consumer_node ≡ false = sym is ∙ free in
    reported_one (cut pair) old new pair (Nothing pair.consumer_node.name) (rw idle' refl) line

-- a cut of a busy consumer drops its search, and what its link and its stage hold
pub cut_busy : (pair after : Agreement) (old new : Report) (busy : Bool) → busy ≡ is_busy pair.consumer_node → busy ≡ true → after ≡ given_up pair (copy_of pair.consumer_node) → new ≡ said old (Cut pair.consumer_node.name ∷ [])
    → Does (cut pair) old after new (Ok tt)
cut_busy pair after old new busy is taken up line =
    let busy' : is_busy pair.consumer_node ≡ true = sym is ∙ taken in
    reported_one (cut pair) old new after (Cut pair.consumer_node.name) (rw busy' (ap (λ q. Ok (q, Cut pair.consumer_node.name ∷ [])) (sym up))) line

-- one that is not busy goes on as it is
pub idle_free : (pair : Agreement) (text : Report) (busy : Bool) → busy ≡ is_busy pair.consumer_node → busy ≡ false → Does (idle pair) text pair text (Ok tt)
idle_free pair text busy is free =
    let free' : is_busy pair.consumer_node ≡ false = sym is ∙ free in
    reported_none (idle pair) text text pair (rw free' refl) refl
