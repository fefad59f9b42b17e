-- A port keeps its number, and how many ports its directory has.
use Rattle.std.proofs.Common.{◌≡◌, ◌≢◌, ℕ, Bool, true, false, nat_eq, List, [], ◌∷◌, Option, Some, None, Result, Ok, Err, refl, sym, ap, ◌∙◌, subst, eqb-true, eq-eqb}
use Rattle.std.proofs.lemmas.Bool.{false≢true}
use Rattle.ldap_constants.specs.declared.result_codes.TheConstants.{OTHER}
use Rattle.entry_tree.specs.declared.op.Op.{Op}
use Rattle.entry_tree.specs.declared.op.Write.{Write}
use Rattle.sync_provider.specs.HandingOut.{HandOut, turn_of}
use Rattle.sync_provider.specs.HandingOut.HandOut.{Hands, Closes, Waits, Unknown}
use Rattle.sync_provider.specs.Machine.{judged_by}
use Rattle.sync_provider.specs.Ports.{FollowedSearch, IsLater, Journal, PortState, WriteReplies, accepted_in, after_turn_in, dropped_in, noted, noted_all, wrote_in}
use Rattle.sync_provider.specs.declared.journal_note.JournalNote.{JournalNote}
use Rattle.sync_provider.specs.declared.journal_note.JournalNote.TheVariants as note
use Rattle.sync_provider.specs.declared.searches.Accepted.{Accepted}
use Rattle.sync_provider.specs.declared.searches.Accepted.TheVariants as accepted
use Rattle.sync_provider.specs.declared.searches.SyncSearch.{SyncSearch}
use Rattle.sync_provider.specs.declared.writing.Reply.{Reply}
use Rattle.ldap_session.specs.Acts.{Act, acts_from, until_end}
use Rattle.ldap_session.specs.declared.access.Access.{Access}
use Rattle.ldap_session.specs.declared.ended.Ended.{Ended}
use Rattle.ldap_session.specs.declared.ended.Ended.TheVariants.{EndOfInput, NoMemory, ProtocolFault, ReadFault, Unbound, WriteFault}
use Rattle.ldap_session.specs.declared.event.LinkEvent.{LinkEvent}
use Rattle.ldap_server.specs.PortCalls.{Asked, Compared, Dropped, PortCall, Exchanged, HandedOut, Replies, Searched, Wrote}
use Rattle.ldap_server.specs.Points.{Point}
use Rattle.ldap_server.specs.Session.{Connected, DoesActs, RunsOutOfMemory, HandlesEvents, point_of}
use Rattle.ldap_server.specs.Table.{DropsAll}

-- two states of one port
pub record IsSamePort (old new : PortState) : Type 0 where
  pub number : new.number ≡ old.number
  pub ports : new.ports ≡ old.ports

-- a port is the same as itself
pub same_here : (p : PortState) → IsSamePort p p
same_here p = record { number = refl; ports = refl }

-- a port that is the same as one that is the same
pub same_then : (a b c : PortState) → IsSamePort a b → IsSamePort b c → IsSamePort a c
same_then a b c first later = record { number = later.number ∙ first.number; ports = later.ports ∙ first.ports }

-- a port that is the same
same_by : (old new : PortState) → new ≡ old → IsSamePort old new
same_by old new is = record { number = ap (λ (p : PortState). p.number) is; ports = ap (λ (p : PortState). p.ports) is }

-- ---- entries of the journal

noted_same : (p : PortState) (entry : JournalNote) (by : ℕ) → IsSamePort p (noted p entry by)
noted_same p (note.Wrote write) by = record { number = refl; ports = refl }
noted_same p (note.Opened opening) by = record { number = refl; ports = refl }
noted_same p (note.Closed end) by = record { number = refl; ports = refl }

noted_all-same : (p : PortState) (entries : Journal) → IsSamePort p (noted_all p entries)
noted_all-same p [] = same_here p
noted_all-same p (e ∷ entries) =
    same_then p (noted p e.0 e.1) (noted_all p (e ∷ entries)) (noted_same p e.0 e.1) (noted_all-same (noted p e.0 e.1) entries)

later_same : (old new : PortState) → IsLater old new → IsSamePort old new
later_same old new l = subst (λ p. IsSamePort old p) (sym l.is) (noted_all-same old l.entries)

-- ---- replies

wrote_same : (p : PortState) (judged : Result Write ℕ) → IsSamePort p (wrote_in p judged)
wrote_same p (Ok write) = noted_same p (note.Wrote write) p.number
wrote_same p (Err code) = same_here p

write_same : (p : PortState) (op : Op) (now : ℕ) (reply : Reply) (new : PortState) → WriteReplies p op now reply new → IsSamePort p new
write_same p op now reply new w = step (nat_eq reply.code OTHER) refl
  where
    step : (b : Bool) → nat_eq reply.code OTHER ≡ b → IsSamePort p new
    step true other = same_by p new (w.err (eqb-true reply.code OTHER other))
    step false known =
        subst (λ q. IsSamePort p q) (sym (w.state (λ same. false≢true (sym known ∙ eq-eqb reply.code OTHER same))))
        (wrote_same p (judged_by p.kind p.directory op now))

accepted_same : (p : PortState) (ask : SyncSearch) (reply : Accepted) → IsSamePort p (accepted_in p ask reply)
accepted_same p ask (accepted.Opened number writes) = record { number = refl; ports = refl }
accepted_same p ask (accepted.Refused code) = same_here p
accepted_same p ask accepted.NoMemory = same_here p

turn_same : (p : PortState) (number : ℕ) (search : Option FollowedSearch) (turn : Option HandOut) → IsSamePort p (after_turn_in p number search turn)
turn_same p number search None = same_here p
turn_same p number None (Some turn) = same_here p
turn_same p number (Some f) (Some (Hands message)) = record { number = refl; ports = refl }
turn_same p number (Some f) (Some (Closes code message)) = record { number = refl; ports = refl }
turn_same p number (Some f) (Some Waits) = same_here p
turn_same p number (Some f) (Some Unknown) = same_here p

dropped_same : (p : PortState) (number : ℕ) (search : Option FollowedSearch) → IsSamePort p (dropped_in p number search)
dropped_same p number None = same_here p
dropped_same p number (Some f) = record { number = refl; ports = refl }

replies_same : (one : PortCall) (p new : PortState) → Replies one p new → IsSamePort p new
replies_same (Wrote op now reply) p new r = write_same p op now reply new r
replies_same (Searched ask reply) p new r = same_by p new r.state
replies_same (Compared dn name value code) p new r = same_by p new r.state
replies_same (Asked ask reply) p new r = subst (λ q. IsSamePort p q) (sym r.state) (accepted_same p ask reply)
replies_same (HandedOut search reply) p new r =
    subst (λ q. IsSamePort p q) (sym r.state) (turn_same p search (p.followed search) (turn_of reply))
replies_same (Dropped search was_open) p new r =
    subst (λ q. IsSamePort p q) (sym r.state) (dropped_same p search (p.followed search))

-- whatever is asked of a port, it stays the same port
pub exchanged_same : (asked : List PortCall) (old new : PortState) → Exchanged old asked new → IsSamePort old new
exchanged_same [] old new is = same_by old new is
exchanged_same (one ∷ more) old new e =
    let place = e.1.place in
    same_then old e.0 new (same_then old place e.0 (later_same old place e.1.later) (replies_same one place e.0 e.1.replies))
    (exchanged_same more e.0 new e.2)

-- ---- sessions

goes_same : (access : Access) (acts : List Act) (old new : Point) → DoesActs access old acts new → IsSamePort old.port new.port
goes_same access [] old new is = same_by old.port new.port (ap (λ (p : Point). p.port) is)
goes_same access (act ∷ acts) old new g =
    same_then old.port g.0.port new.port (exchanged_same g.1.asked old.port g.0.port g.1.exchanged) (goes_same access acts g.0 new g.2)

halts_same : (access : Access) (acts : List Act) (old new : Point) → RunsOutOfMemory access old acts new → IsSamePort old.port new.port
halts_same access acts old new h =
    same_then old.port h.between.port new.port (goes_same access h.done old h.between h.does) (exchanged_same h.asked h.between.port new.port h.exchanged)

-- a session that has not ended keeps its port
pub runs_same : (old new : Connected) (events : List LinkEvent) (bytes : List ℕ) → old.ended ≡ None → HandlesEvents old events bytes new → IsSamePort old.port new.port
runs_same old new events bytes live r = step new.ended refl
  where
    acts : List Act
    acts = until_end (acts_from old.kept events)

    does : new.ended ≢ Some NoMemory → IsSamePort old.port new.port
    does other = goes_same old.access acts (point_of old []) (point_of new bytes) (r.live live other)

    other_than : (ended : Option Ended) → new.ended ≡ ended → (ended ≡ Some NoMemory → ⊥) → IsSamePort old.port new.port
    other_than ended is differs = does (λ memory. differs (sym is ∙ memory))

    step : (ended : Option Ended) → new.ended ≡ ended → IsSamePort old.port new.port
    step None is = other_than None is (λ e. cc)
    step (Some Unbound) is = other_than (Some Unbound) is (λ e. cc)
    step (Some EndOfInput) is = other_than (Some EndOfInput) is (λ e. cc)
    step (Some (ProtocolFault place)) is = other_than (Some (ProtocolFault place)) is (λ e. cc)
    step (Some ReadFault) is = other_than (Some ReadFault) is (λ e. cc)
    step (Some WriteFault) is = other_than (Some WriteFault) is (λ e. cc)
    step (Some NoMemory) is = halts_same old.access acts (point_of old []) (point_of new bytes) (r.halts live is)

-- dropped searches leave it the same port
pub drops_same : {searches : List _} (old new : PortState) → DropsAll searches old new → IsSamePort old new
drops_same old new d = exchanged_same d.asked old new d.exchanged
