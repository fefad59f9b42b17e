-- What a configuration leads to, step by step.
use Rattle.std.proofs.Common.{◌≡◌, ◌≢◌, ℕ, ◌+◌, ◌*◌, ◌^◌, ◌≤◌, List, Option, inl, inr, refl, ap, ◌∙◌}
use Rattle.std.specs.Prelude.{IfSome}
use Rattle.dn_names.specs.Names.{TypeAndValue}
use Rattle.ldap_filter.specs.FilterTree.{depth, tree_of}
use Rattle.sync_config.specs.declared.config.Config.{Config}
use Rattle.sync_io.specs.Faults.{CountHasRisen}
use Rattle.sync_provider.specs.Journal.{JournalledProvider, fresh_port, journal_in, port_state}
use Rattle.sync_provider.specs.Machine.{ProviderState, fresh, log_limited, queue_limited}
use Rattle.sync_provider.specs.Ports.{PortState}
use Rattle.sync_provider.specs.declared.provider.Kind.{Kind}
use Rattle.directory_setup.specs.Setup.{FailsOn, Files, HasFilter, HasSeats, IsConfig, IsEmpty, IsFirst, Loads, Makes, SetsUp, access_by, setup_of}
use Rattle.directory_setup.specs.declared.setup.DirectoryLimits.{DirectoryLimits}
use Rattle.directory_setup.specs.declared.setup.Loading.{Loading}
use Rattle.directory_setup.specs.declared.setup.Loading.TheVariants.{Loaded, NotRead, RefusedAt}
use Rattle.directory_setup.specs.declared.setup.ReadyDirectory.{ReadyDirectory}
use Rattle.directory_setup.specs.declared.setup.Setup.{Setup}
use Rattle.directory_setup.specs.declared.setup.Setup.TheVariants.{Ready, Refused, ReadFault}

-- a new provider with its limits is the empty directory
pub empty_made : (suffix : List (List TypeAndValue)) (kind : Kind) (sid : ℕ) (limits : DirectoryLimits) (made limited queued : JournalledProvider) (history one other : ℕ)
    → made.state ≡ fresh suffix sid history kind → port_state made ≡ fresh_port suffix sid history kind
    → history ≡ one * 2 ^ 64 + other
    → limited ≡ record made { state = log_limited made.state limits.log }
    → queued ≡ record limited { state = queue_limited limited.state limits.queue }
    → IsEmpty suffix kind sid limits queued
empty_made suffix kind sid limits made limited queued history one other state_is port_is history_is limited_is queued_is = record {
  one = one;
  other = other;
  first_is = ap (λ (v : JournalledProvider). v.state) queued_is
      ∙ ap (λ (s : ProviderState). queue_limited s limits.queue)
      (ap (λ (v : JournalledProvider). v.state) limited_is
      ∙ ap (λ (s : ProviderState). log_limited s limits.log) (state_is ∙ ap (λ h. fresh suffix sid h kind) history_is));
  unused = ap journal_in queued_is ∙ ap journal_in limited_is ∙ ap (λ (p : PortState). p.journal) port_is;
}

-- what a file that is loaded into the empty directory makes
pub made_of : (files : Option Files) (config : Config) (first : JournalledProvider) (loading : Loading) (ready : ReadyDirectory)
    → IsFirst config first → Loads files config.ldif (port_state first) loading (port_state ready.provider)
    → ready.listen ≡ config.listen → ready.access ≡ access_by config.bind_name config.bind_password
    → ready.seats ≡ config.seats → ready.connections ≡ config.connections → ready.upstream ≡ config.upstream → ready.rounds ≡ config.rounds
    → Makes files config (setup_of loading ready)
made_of files config first Loaded ready begins loads listen access seats connections upstream rounds = record {
  first = first;
  begins = begins;
  filled = loads;
  listen = listen;
  access = access;
  seats = seats;
  connections = connections;
  upstream = upstream;
  rounds = rounds;
}
made_of files config first (RefusedAt line why) ready begins loads listen access seats connections upstream rounds = (first, begins, loads)
made_of files config first NotRead ready begins loads listen access seats connections upstream rounds = tt

-- what a configuration leads to has its seats
pub has_seats : (loading : Loading) (ready : ReadyDirectory) → (1 ≤ ready.seats) × (ready.seats ≤ 64) → HasSeats (setup_of loading ready)
has_seats Loaded ready within = within
has_seats (RefusedAt line why) ready within = tt
has_seats NotRead ready within = tt

-- and an upstream whose filter has an encoding
pub has_filter : (loading : Loading) (ready : ReadyDirectory) → IfSome ready.upstream (λ upstream. depth (tree_of upstream.spec.filter) ≤ 32) → HasFilter (setup_of loading ready)
has_filter Loaded ready within = within
has_filter (RefusedAt line why) ready within = tt
has_filter NotRead ready within = tt

-- a read fault comes only where the shelf counted one
pub fails_of : (loading : Loading) (ready : ReadyDirectory) (shelf shelf' words words' : ℕ)
    → words' ≡ words → (loading ≢ NotRead → shelf' ≡ shelf) → (loading ≡ NotRead → CountHasRisen shelf shelf')
    → FailsOn (setup_of loading ready) shelf shelf' words words'
fails_of Loaded ready shelf shelf' words words' came sound fails = (sound (λ is. let wrong : Loaded ≡ NotRead = is in cc), came)
fails_of (RefusedAt line why) ready shelf shelf' words words' came sound fails =
    (sound (λ is. let wrong : RefusedAt line why ≡ NotRead = is in cc), came)
fails_of NotRead ready shelf shelf' words words' came sound fails = inl (fails refl)

-- what a configuration makes is what its file leads to
pub made_set_up : (files : Option Files) (name : List ℕ) (config : Config) (setup : Setup)
    → IsConfig files name config → Makes files config setup → SetsUp files name setup
made_set_up files name config (Ready ready) is made = (config, is, made)
made_set_up files name config (Refused refusal) is made = inr (config, is, made)
made_set_up files name config ReadFault is made = tt
