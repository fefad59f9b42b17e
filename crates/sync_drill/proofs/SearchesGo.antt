-- A port goes on as its own searches are opened, handed out and ended.
use Rattle.std.proofs.Common.{ℕ, [], ◌∷◌, inl, refl, sym, append-nil}
use Rattle.std.proofs.lemmas.List.Elements.{All-cons, All-nil}
use Rattle.sync_provider.specs.Opened.{SearchOpening}
use Rattle.sync_provider.specs.Ports.{PortState, FollowedSearch, opened_in, handed_in, ended_in}
use Rattle.sync_provider.specs.declared.journal_note.ClosedSearch.{ClosedSearch}
use Rattle.sync_provider.specs.declared.journal_note.JournalNote.TheVariants.{Opened, Closed}
use Rattle.sync_drill.specs.Going.{HasGoneOn}
use Rattle.sync_drill.proofs.Going.{IsOfAPort}

-- a search is opened, handed out or ended at the port
pub opened-goes : (p : PortState) (opening : SearchOpening) → HasGoneOn p (opened_in p opening)
opened-goes p opening = record {
  number = refl;
  ports = refl;
  kind = refl;
  entries = (Opened opening, p.number) ∷ [];
  journal = refl;
  directory = refl;
  by = All-cons (IsOfAPort p.number p.ports) (Opened opening, p.number) [] (inl refl) (All-nil (IsOfAPort p.number p.ports));
}

-- a message is no entry
pub handed-goes : (p : PortState) (number : ℕ) (f : FollowedSearch) → HasGoneOn p (handed_in p number f)
handed-goes p number f = record {
  number = refl;
  ports = refl;
  kind = refl;
  entries = [];
  journal = sym (append-nil p.journal);
  directory = refl;
  by = All-nil (IsOfAPort p.number p.ports);
}

-- the end of a search is an entry of its own
pub ended-goes : (p : PortState) (number : ℕ) (end : ClosedSearch) → HasGoneOn p (ended_in p number end)
ended-goes p number end = record {
  number = refl;
  ports = refl;
  kind = refl;
  entries = (Closed end, p.number) ∷ [];
  journal = refl;
  directory = refl;
  by = All-cons (IsOfAPort p.number p.ports) (Closed end, p.number) [] (inl refl) (All-nil (IsOfAPort p.number p.ports));
}
