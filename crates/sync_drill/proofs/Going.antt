-- Ports as their journals go on: what stays, and what is known of the directory.
use Rattle.std.proofs.Common.{◌≡◌, ◌≢◌, ◌⊎◌, ℕ, suc, ◌≤◌, [], ◌∷◌, ◌++◌, fold, inl, inr, refl, sym, ap, ◌∙◌, subst, arith, append_assoc, append-nil}
use Rattle.std.specs.List.{All}
use Rattle.std.proofs.lemmas.List.Elements.{All-cons, All-nil, All-append, All-weaker}
use Rattle.std.proofs.lemmas.List.Sums.{fold-append}
use Rattle.directory_writes.specs.Directory.{fresh_directory, with_write}
use Rattle.sync_provider.proofs.Journals.{writes_append}
use Rattle.sync_provider.specs.Ports.{Journal, PortState, writes_in, noted, noted_all, IsLater}
use Rattle.sync_provider.specs.declared.journal_note.JournalNote.{JournalNote}
use Rattle.sync_provider.specs.declared.journal_note.JournalNote.TheVariants.{Wrote, Opened, Closed}
use Rattle.drill_plan.specs.Ending.{history, server}
use Rattle.drill_plan.specs.Names.{suffix}
use Rattle.sync_drill.specs.Going.{HasGoneOn, IsDrillPort}

-- whose entry one is that came in at a port: its own, or that of another port
abbrev pub IsOfAPort : (number ports : ℕ) → JournalNote × ℕ → Type 0
IsOfAPort number ports e = (e.1 ≡ number) ⊎ ((1 ≤ e.1) × (e.1 ≤ ports))

-- ---- a port that goes on

-- a port to which nothing happens
pub stays : (p : PortState) → HasGoneOn p p
stays p = record {
  number = refl;
  ports = refl;
  kind = refl;
  entries = [];
  journal = sym (append-nil p.journal);
  directory = refl;
  by = All-nil (IsOfAPort p.number p.ports);
}

-- two steps in a row
pub goes-twice : (old mid new : PortState) → HasGoneOn old mid → HasGoneOn mid new → HasGoneOn old new
goes-twice old mid new first second = record {
  number = second.number ∙ first.number;
  ports = second.ports ∙ first.ports;
  kind = second.kind ∙ first.kind;
  entries = first.entries ++ second.entries;
  journal = second.journal
      ∙ ap (λ journal. journal ++ second.entries) first.journal
      ∙ append_assoc old.journal first.entries second.entries;
  directory = second.directory
      ∙ ap (λ d. fold with_write d (writes_in second.entries)) first.directory
      ∙ sym (fold-append with_write old.directory (writes_in first.entries) (writes_in second.entries))
      ∙ ap (fold with_write old.directory) (sym (writes_append first.entries second.entries));
  by = All-append (IsOfAPort old.number old.ports) first.entries second.entries first.by
      (subst (λ n. All (IsOfAPort n old.ports) second.entries) first.number
      (subst (λ ports. All (IsOfAPort mid.number ports) second.entries) first.ports second.by));
}

-- ---- entries

noted-goes : (p : PortState) (note : JournalNote) (by : ℕ) → IsOfAPort p.number p.ports (note, by) → HasGoneOn p (noted p note by)
noted-goes p (Wrote write) by whose = record {
  number = refl;
  ports = refl;
  kind = refl;
  entries = (Wrote write, by) ∷ [];
  journal = refl;
  directory = refl;
  by = All-cons (IsOfAPort p.number p.ports) (Wrote write, by) [] whose (All-nil (IsOfAPort p.number p.ports));
}
noted-goes p (Opened opening) by whose = record {
  number = refl;
  ports = refl;
  kind = refl;
  entries = (Opened opening, by) ∷ [];
  journal = refl;
  directory = refl;
  by = All-cons (IsOfAPort p.number p.ports) (Opened opening, by) [] whose (All-nil (IsOfAPort p.number p.ports));
}
noted-goes p (Closed end) by whose = record {
  number = refl;
  ports = refl;
  kind = refl;
  entries = (Closed end, by) ∷ [];
  journal = refl;
  directory = refl;
  by = All-cons (IsOfAPort p.number p.ports) (Closed end, by) [] whose (All-nil (IsOfAPort p.number p.ports));
}

-- an entry of its own
pub own-goes : (p : PortState) (note : JournalNote) → HasGoneOn p (noted p note p.number)
own-goes p note = noted-goes p note p.number (inl refl)

all-go : (old p : PortState) (entries : Journal) → HasGoneOn old p → All (IsOfAPort old.number old.ports) entries → HasGoneOn old (noted_all p entries)
all-go old p [] gone whose = gone
all-go old p (e ∷ entries) gone whose =
    all-go old (noted p e.0 e.1) entries
    (goes-twice old p (noted p e.0 e.1) gone
    (noted-goes p e.0 e.1
    (subst (λ n. IsOfAPort n p.ports e) (sym gone.number)
    (subst (λ ports. IsOfAPort old.number ports e) (sym gone.ports) (whose 0 e (omega arith))))))
    (λ k d low. whose (suc k) d (omega (arith, low)))

-- entries of other ports
pub later-goes : (old new : PortState) → IsLater old new → HasGoneOn old new
later-goes old new later =
    subst (HasGoneOn old) (sym later.is)
    (all-go old old later.entries (stays old)
    (All-weaker (λ e. (e.1 ≢ old.number) × (1 ≤ e.1) × (e.1 ≤ old.ports)) (IsOfAPort old.number old.ports)
    (λ e is. inr (is.1, is.2)) later.entries later.others))

-- ---- the ports of a drill

within-ports : (number ports : ℕ) (e : JournalNote × ℕ) → (1 ≤ number) × (number ≤ ports) → IsOfAPort number ports e → (1 ≤ e.1) × (e.1 ≤ ports)
within-ports number ports e own (inl is) = subst (λ n. (1 ≤ n) × (n ≤ ports)) (sym is) own
within-ports number ports e own (inr is) = is

-- a port of a drill is one still
pub port-goes : (number ports : ℕ) (old new : PortState) → IsDrillPort number ports old → HasGoneOn old new → IsDrillPort number ports new
port-goes number ports old new drill gone = record {
  its_number = gone.number ∙ drill.its_number;
  its_ports = gone.ports ∙ drill.its_ports;
  within = drill.within;
  kind = gone.kind ∙ drill.kind;
  directory = gone.directory
      ∙ ap (λ d. fold with_write d (writes_in gone.entries)) drill.directory
      ∙ sym (fold-append with_write (fresh_directory suffix server history) (writes_in old.journal) (writes_in gone.entries))
      ∙ ap (fold with_write (fresh_directory suffix server history))
      (sym (writes_append old.journal gone.entries) ∙ ap writes_in (sym gone.journal));
  by = subst (All (λ e. (1 ≤ e.1) × (e.1 ≤ ports))) (sym gone.journal)
      (All-append (λ e. (1 ≤ e.1) × (e.1 ≤ ports)) old.journal gone.entries drill.by
      (All-weaker (IsOfAPort number ports) (λ e. (1 ≤ e.1) × (e.1 ≤ ports))
      (λ e is. within-ports number ports e drill.within is) gone.entries
      (subst (λ n. All (IsOfAPort n ports) gone.entries) drill.its_number
      (subst (λ n. All (IsOfAPort old.number n) gone.entries) drill.its_ports gone.by))));
}
