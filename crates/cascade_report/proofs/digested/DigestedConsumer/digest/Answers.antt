-- The digest is that of all entries.
use Rattle.std.proofs.Common.{◌≡◌, Bor, List, ◌++◌, map, sym, ap, ◌∙◌, subst}
use Rattle.entry_tree.specs.declared.entry.Entry.{Entry}
use Rattle.sha2.specs.Sha256.{sha256}
use Rattle.cascade_report.specs.Digests.{prefix}
use Rattle.cascade_report.specs.ReportLines.{text_of}
use Rattle.cascade_report.proofs.Digests.{digest_is}
use Rattle.cascade_report.proofs.digested.DigestedConsumer.digest.Goals as goal

pub returns-clause-digest : goal.returns-clause-digest
returns-clause-digest c =
    let reached = c.self.inside.reached in
    let held = c.self.inside.consumer.copy.held in
    let here : c.args.self.now.copy.held ≡ held = cc in
    let same : c.entries-entries.result.now ≡ held = c.entries-entries.ensures in
    let rest : List Entry = map (λ (e : Bor Entry). e.now) c.deref.result.now in
    let split : prefix reached c.entries-entries.result.now ++ rest ≡ c.entries-entries.result.now =
    ap (λ (es : List (Bor Entry)). prefix reached c.entries-entries.result.now ++ map (λ (e : Bor Entry). e.now) es) c.deref.ensures.value ∙ c.in_ok-rest.ensures in
    digest_is c.self.inside.hasher reached held rest c.in_ok-digest.digest c.self.invariant
    (subst (λ (es : List Entry). prefix reached es ++ rest ≡ es) same split)
    c.in_ok-digest.ensures.digest
    ∙ ap (λ (es : List Entry). sha256 (text_of es)) (sym here)
