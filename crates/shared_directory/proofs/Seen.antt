-- The replies of a provider with numbers, by what its model is.
use Rattle.std.proofs.Common.{◌≡◌, ◌≤◌, ◌<◌, ℕ, Bool, List, [], ◌∷◌, ◌++◌, set, length, None, refl, ap, sym, ◌∙◌, subst, arith}
use Rattle.std.specs.Prelude.{Result, Err, slice_index}
use Rattle.std.proofs.lemmas.List.{length-map}
use Rattle.entry_tree.specs.declared.entry.Entry.{Entry}
use Rattle.entry_tree.specs.declared.op.Op.{Op}
use Rattle.sync_provider.specs.Journal.{JournalledProvider, journal_of, port_state}
use Rattle.sync_provider.specs.Ports.{PortState, WriteReplies, CommitReplies, AcceptReplies, HandOutReplies, DropReplies}
use Rattle.sync_provider.specs.declared.handed.Handed.{Handed}
use Rattle.sync_provider.specs.declared.journal_note.JournalNote.{JournalNote}
use Rattle.sync_provider.specs.declared.searches.Accepted.{Accepted}
use Rattle.sync_provider.specs.declared.searches.Accepted.TheVariants as accepted
use Rattle.sync_provider.specs.declared.searches.SyncSearch.{SyncSearch}
use Rattle.sync_provider.specs.declared.writing.CommitFault.{CommitFault}
use Rattle.sync_provider.specs.declared.writing.Reply.{Reply}
use Rattle.shared_directory.specs.Desks.{NumberedState, port_journal, port_in, IsNumbered, IsAnswered, unmade_fault}
use Rattle.shared_directory.proofs.Answered.{KeepsNumbers, opened_number, write_answered, commit_answered, accept_opened, accept_same, opened_low, hand_out_answered, drop_answered, unchanged, unmade, commit_unmade, same_length}

module _ (number : ℕ) (d model : NumberedState) (seen : d ≡ model) where
  as_seen : (new : NumberedState) (Replies : PortState → PortState → Type 0) → KeepsNumbers number d new Replies → KeepsNumbers number model new Replies
  as_seen new Replies keeps = subst (λ o. KeepsNumbers number o new Replies) seen keeps

  -- a question
  pub asked : (Replies : PortState → PortState → Type 0) → ((ports : ℕ) → Replies (port_in number ports d) (port_in number ports d))
      → IsAnswered number model model Replies
  asked Replies replies = subst (λ o. IsAnswered number o o Replies) seen (unchanged number d Replies replies)

  module _ (is : IsNumbered d) where
    -- where room was made for numbers alone
    pub unmade_seen : (Replies : PortState → PortState → Type 0) (numbers : List ℕ) → numbers ≡ d.numbers
        → ((ports : ℕ) → Replies (port_in number ports d) (port_in number ports d))
        → KeepsNumbers number model (record { provider = d.provider; first = d.first; numbers = numbers; openers = d.openers }) Replies
    unmade_seen Replies numbers nums replies =
        as_seen (record { provider = d.provider; first = d.first; numbers = numbers; openers = d.openers }) Replies
        (unmade number d Replies is numbers nums replies)

    -- a write or a commit, after which a number more is kept where there is a write more
    module _ (v : JournalledProvider) (room numbers : List ℕ) (had : room ≡ d.numbers) (before writes : ℕ)
        (counted_before : before ≡ length d.provider.state.directory.writes) (counted : writes ≡ length v.state.directory.writes)
        (same : writes ≤ before → numbers ≡ room) (more : before < writes → numbers ≡ room ++ number ∷ []) where
      none_kept : length v.state.directory.writes ≤ length d.provider.state.directory.writes → numbers ≡ d.numbers
      none_kept low = same (omega (arith, low, counted_before, counted)) ∙ had

      one_kept : length d.provider.state.directory.writes < length v.state.directory.writes → numbers ≡ d.numbers ++ number ∷ []
      one_kept high = more (omega (arith, high, counted_before, counted)) ∙ ap (λ ns. ns ++ number ∷ []) had

      -- what a provider replies to a write is due at the port, as contracts see both
      pub write_seen : (op : Op) (now : ℕ) (reply : Reply) → WriteReplies (port_state d.provider) op now reply (port_state v)
          → KeepsNumbers number model (record { provider = v; first = d.first; numbers = numbers; openers = d.openers }) (λ p q. WriteReplies p op now reply q)
      write_seen op now reply clause =
          as_seen (record { provider = v; first = d.first; numbers = numbers; openers = d.openers }) (λ p q. WriteReplies p op now reply q)
          (write_answered number d is v numbers d.openers none_kept one_kept refl op now reply clause)

      -- the same of a commit
      pub commit_seen : (puts : List Entry) (drops : List ℕ) (now : ℕ) (result : Result ℕ CommitFault)
          → CommitReplies (port_state d.provider) puts drops now result (port_state v)
          → KeepsNumbers number model (record { provider = v; first = d.first; numbers = numbers; openers = d.openers })
          (λ p q. CommitReplies p puts drops now result q)
      commit_seen puts drops now result clause =
          as_seen (record { provider = v; first = d.first; numbers = numbers; openers = d.openers }) (λ p q. CommitReplies p puts drops now result q)
          (commit_answered number d is v numbers d.openers none_kept one_kept refl puts drops now result clause)

    -- a search that is opened
    pub opened_seen : (v : JournalledProvider) (room numbers : List ℕ) → room ≡ d.numbers → numbers ≡ room ++ number ∷ []
        → (ask : SyncSearch) (n writes : ℕ) → AcceptReplies (port_state d.provider) ask (accepted.Opened n writes) (port_state v)
        → KeepsNumbers number model (record { provider = v; first = d.first; numbers = numbers; openers = set d.openers n number })
        (λ p q. AcceptReplies p ask (accepted.Opened n writes) q)
    opened_seen v room numbers had more ask n writes clause =
        as_seen (record { provider = v; first = d.first; numbers = numbers; openers = set d.openers n number })
        (λ p q. AcceptReplies p ask (accepted.Opened n writes) q)
        (accept_opened number d is v numbers (set d.openers n number) ask n writes clause (more ∙ ap (λ ns. ns ++ number ∷ []) had) refl)

    -- its number is in the table
    pub opened_below : (v : JournalledProvider) (ask : SyncSearch) (n writes : ℕ)
        → AcceptReplies (port_state d.provider) ask (accepted.Opened n writes) (port_state v) → n < 65
    opened_below v ask n writes clause = opened_low number d is v d.numbers d.openers ask n writes clause

    -- a search that is not opened
    pub unopened_seen : (v : JournalledProvider) (room : List ℕ) → room ≡ d.numbers → (ask : SyncSearch) (result : Accepted)
        → opened_number result ≡ None → AcceptReplies (port_state d.provider) ask result (port_state v)
        → KeepsNumbers number model (record { provider = v; first = d.first; numbers = room; openers = d.openers }) (λ p q. AcceptReplies p ask result q)
    unopened_seen v room had ask result none clause =
        as_seen (record { provider = v; first = d.first; numbers = room; openers = d.openers }) (λ p q. AcceptReplies p ask result q)
        (accept_same number d is v room d.openers ask result none had refl clause)

    -- a search that this port opened
    module _ (v : JournalledProvider) (k opener : ℕ) (read : opener ≡ slice_index model.openers k) (own : opener ≡ number) where
      opened_by : slice_index d.openers k ≡ number
      opened_by = ap (λ o. slice_index o.openers k) seen ∙ sym read ∙ own

      -- the same of a hand-out
      pub hand_out_seen : (result : Handed) → HandOutReplies (port_state d.provider) k result (port_state v)
          → KeepsNumbers number model (record { provider = v; first = d.first; numbers = d.numbers; openers = d.openers }) (λ p q. HandOutReplies p k result q)
      hand_out_seen result clause =
          as_seen (record { provider = v; first = d.first; numbers = d.numbers; openers = d.openers }) (λ p q. HandOutReplies p k result q)
          (hand_out_answered number d is v d.numbers d.openers k opened_by refl refl result clause)

      -- the same of a search that is dropped
      pub drop_seen : (result : Bool) → DropReplies (port_state d.provider) k result (port_state v)
          → KeepsNumbers number model (record { provider = v; first = d.first; numbers = d.numbers; openers = d.openers }) (λ p q. DropReplies p k result q)
      drop_seen result clause =
          as_seen (record { provider = v; first = d.first; numbers = d.numbers; openers = d.openers }) (λ p q. DropReplies p k result q)
          (drop_answered number d is v d.numbers d.openers k opened_by refl refl result clause)

-- a commit for which memory runs out, by its fault
pub commit_unmade_as : (number : ℕ) (d : NumberedState) (fault : CommitFault) → fault ≡ unmade_fault d.provider.state.kind
    → (puts : List Entry) (drops : List ℕ) (now ports : ℕ)
    → CommitReplies (port_in number ports d) puts drops now (Err fault) (port_in number ports d)
commit_unmade_as number d fault is puts drops now ports =
    subst (λ f. CommitReplies (port_in number ports d) puts drops now (Err f) (port_in number ports d)) (sym is)
    (commit_unmade number d puts drops now ports)

-- how many entries the journal has
pub counted_journal : (d : NumberedState) (n : ℕ) → n ≡ length (journal_of d.provider.state.directory.writes d.provider.events)
    → n ≡ length (port_journal d)
counted_journal d n counted =
    let zero_of : JournalNote → JournalNote × ℕ = λ note. (note, 0) in
    counted
    ∙ sym (length-map (journal_of d.provider.state.directory.writes d.provider.events) zero_of)
    ∙ sym (same_length d)
