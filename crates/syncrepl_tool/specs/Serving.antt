-- What is done with a directory that is ready: its connections are served at its address, and where
-- it follows another directory, that is followed meanwhile.
use Rattle.std.specs.Prelude.{◌≡◌, ◌≢◌, ◌⊎◌, ◌<◌, ℕ, Bool, true, Option, Some, None, IfSome, IsSome, option_map, Result, Ok, Err}
use Rattle.entry_tree.specs.Selection.{search_of}
use Rattle.ldap_client.specs.Links.{LinkState}
use Rattle.ldap_listener.specs.Beside.{ServesBeside}
use Rattle.ldap_listener.specs.Serving.{ServesAll}
use Rattle.ldap_listener.specs.Sessions.{LinkView}
use Rattle.ldap_session.specs.declared.access.Access.{Access}
use Rattle.directory_setup.specs.declared.setup.ReadyDirectory.{ReadyDirectory}
use Rattle.replica_node.specs.Replicas.{Follows}
use Rattle.replica_node.specs.declared.end.NodeEnd.{NodeEnd}
use Rattle.replica_node.specs.declared.end.NodeEnd.TheVariants as node
use Rattle.sync_config.specs.declared.upstream.Upstream.{Upstream}
use Rattle.sync_io.specs.Dial.{Dialled}
use Rattle.sync_io.specs.Net.{Served, calls, lets_go, listens}
use Rattle.sync_io.specs.ToCome.{IsNextToCome}
use Rattle.sync_io.specs.declared.dial.NetFault.{NetFault}
use Rattle.sync_io.specs.declared.dial.NetFault.TheVariants.{Failed, NoMemory}
use Rattle.sync_provider.specs.Journal.{JournalledProvider}

-- what a net's links report, what those of its callers report, and what a caller reports
pub record NetView (L C M : Type 0) : Type 0 where
  pub links : LinkView L
  pub called : M → LinkState
  pub dialled : C → Option (Dialled M)

abbrev pub net_view : {L C M : Type 0} → LinkView L → (M → LinkState) → (C → Option (Dialled M))
    → NetView L C M
net_view links called dialled = record { links = links; called = called; dialled = dialled }

-- ---- n connections, from the moment on at which the net listens

-- each was served over the directory
abbrev pub IsServedAlone : {L C M : Type 0} → NetView L C M → Access → (seats : ℕ)
    → JournalledProvider → (n : ℕ) → Option (Served L C M) → Option (Served L C M) → Type 0
IsServedAlone v access seats old n before after =
    (last : JournalledProvider) × ServesAll v.links access seats old last n before after

-- following an upstream ended with memory left
abbrev pub HasMemory : NodeEnd → Type 0
HasMemory end = end ≢ node.NoMemory

abbrev pub AnyEnd : NodeEnd → Type 0
AnyEnd end = Unit {0}

-- the same, while the upstream was followed at one more port of the directory: by one caller, which
-- the net gave and which was let go
pub record IsServedBeside {L C M : Type 0}
    (v : NetView L C M) (MayEnd : NodeEnd → Type 0) (access : Access) (seats : ℕ)
    (old : JournalledProvider) (upstream : Upstream) (rounds : ℕ) (n : ℕ)
    (before after : Option (Served L C M)) : Type 0 where
  pub first : Option (Dialled M)
  pub came : IfSome before (λ s. IsNextToCome first s.callers_to_come)
  pub caller : C
  pub end : NodeEnd
  pub may : MayEnd end
  pub last : JournalledProvider
  pub between : Option (Served L C M)
  pub serves :
      ServesBeside v.links access seats old last n (option_map (calls true) before) between
      (λ port left. Follows v.called upstream.address
      (record { spec = search_of upstream.spec; reload = upstream.reload_hint })
      rounds port first end left (v.dialled caller))
  pub let_go : after ≡ option_map (lets_go caller) between

-- ---- a directory that is ready

-- n connections were served since the net listens, while this upstream, if any, was followed to an
-- end of this kind
abbrev pub IsServedWith : {L C M : Type 0} → NetView L C M → (NodeEnd → Type 0) → ReadyDirectory
    → Option Upstream → (n : ℕ) → (opened after : Option (Served L C M)) → Type 0
IsServedWith v MayEnd ready None n opened after =
    IsServedAlone v ready.access ready.seats ready.provider n opened after
IsServedWith v MayEnd ready (Some upstream) n opened after =
    IsServedBeside v MayEnd ready.access ready.seats ready.provider upstream ready.rounds n
    opened after

-- no connection was accepted since the net listens; where an upstream is followed perhaps a caller
-- was asked for
abbrev pub IsUnserved : {L C M : Type 0} → ReadyDirectory → (opened after : Option (Served L C M))
    → Type 0
IsUnserved ready opened after =
    (after ≡ opened)
    ⊎ (IsSome ready.upstream × ((came : Bool) × (after ≡ option_map (calls came) opened)))

-- how serving it ends, from the moment on at which the net listens: all its connections were
-- served; or none was accepted, or some were served
abbrev pub EndsFrom : {L C M : Type 0} → NetView L C M → ReadyDirectory → Result Unit NetFault
    → (opened after : Option (Served L C M)) → Type 0
EndsFrom v ready (Ok done) opened after =
    (0 < ready.connections)
    × IsServedWith v HasMemory ready ready.upstream ready.connections opened after
EndsFrom v ready (Err fault) opened after =
    IsUnserved ready opened after
    ⊎ ((n : ℕ) × IsServedWith v AnyEnd ready ready.upstream n opened after)

-- ---- at its address

-- n connections were served at its address; what it follows, if anything, was followed to an end of
-- this kind
abbrev pub IsServedAt : {L C M : Type 0} → NetView L C M → (NodeEnd → Type 0) → ReadyDirectory
    → (n : ℕ) → Option (Served L C M) → Option (Served L C M) → Type 0
IsServedAt v MayEnd ready n before after =
    IsServedWith v MayEnd ready ready.upstream n (option_map (listens ready.listen) before) after

-- no connection was accepted: the net was asked to listen at the address, and where an upstream is
-- followed perhaps for a caller
abbrev pub HasListened : {L C M : Type 0} → ReadyDirectory → Option (Served L C M)
    → Option (Served L C M) → Type 0
HasListened ready before after =
    IsUnserved ready (option_map (listens ready.listen) before) after

-- how serving it ends: all its connections were served; or the net failed, before the first of them
-- or after some; or memory ran out
abbrev pub EndsAt : {L C M : Type 0} → NetView L C M → ReadyDirectory → Result Unit NetFault
    → Option (Served L C M) → Option (Served L C M) → Type 0
EndsAt v ready (Ok done) before after =
    (0 < ready.connections) × IsServedAt v HasMemory ready ready.connections before after
EndsAt v ready (Err Failed) before after =
    HasListened ready before after ⊎ ((n : ℕ) × IsServedAt v AnyEnd ready n before after)
EndsAt v ready (Err NoMemory) before after =
    (after ≡ before) ⊎ HasListened ready before after
    ⊎ ((n : ℕ) × IsServedAt v AnyEnd ready n before after)

-- ---- with an upstream, or without one

-- all connections were served; or none was accepted, or some were served
abbrev pub EndsOpened : (Unheard : Type 0) → (Done ServedSo : ℕ → Type 0) → (connections : ℕ)
    → Result Unit NetFault → Type 0
EndsOpened Unheard Done ServedSo connections (Ok done) = (0 < connections) × Done connections
EndsOpened Unheard Done ServedSo connections (Err fault) = Unheard ⊎ ((n : ℕ) × ServedSo n)

-- no connection was accepted, and perhaps a caller was asked for
abbrev pub HasCalled : {L C M : Type 0} → Option (Served L C M) → Option (Served L C M) → Type 0
HasCalled before after =
    (after ≡ before) ⊎ ((came : Bool) × (after ≡ option_map (calls came) before))
