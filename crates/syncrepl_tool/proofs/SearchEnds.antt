-- What each end of a search brings.
use Rattle.std.proofs.Common.{◌≡◌, ◌≢◌, ◌⊎◌, List, Option, Result, Ok, Err, ap, inl, inr, refl, sym, subst, arith}
use Rattle.std.specs.Prelude.{IfOk}
use Rattle.dn_names.specs.Names.{TypeAndValue}
use Rattle.dn_names.specs.Reading.{IsNameFault, name_of_text}
use Rattle.dn_names.specs.declared.fault.NameFault.{NameFault}
use Rattle.dn_names.specs.declared.fault.NameFault.TheVariants as name
use Rattle.entry_tree.specs.Selection.{Search}
use Rattle.ldap_client.specs.Links.{LinkState}
use Rattle.ldap_filter.specs.Fault.{FilterFails}
use Rattle.ldap_filter.specs.Reading.{read_filter}
use Rattle.ldap_filter.specs.declared.fault.FilterFault.{FilterFault}
use Rattle.ldap_filter.specs.declared.fault.FilterFault.TheVariants as filter
use Rattle.ldap_search.specs.Calls.{Searches, SearchesInPart}
use Rattle.ldap_search.specs.Talks.{OutputState}
use Rattle.ldap_search.specs.declared.end.SearchEnd.{SearchEnd}
use Rattle.ldap_search.specs.declared.end.SearchEnd.TheVariants.{Done, OutputFault, NetFault, PeerFault}
use Rattle.sync_io.specs.Dial.{Dialled}
use Rattle.sync_io.specs.Faults.{CountHasRisen}
use Rattle.syncrepl_tool.specs.Searching.{EndsSearch, IsAsked, IsFaultless, IsReadAs, IsRefusedSearch, IsSearchStatus, MaySearch, SearchAsked, SearchSide}
use Rattle.syncrepl_tool.specs.SearchWords.{CanBeAsked, ReadsAs, SaysEnd}
use Rattle.syncrepl_tool.specs.declared.run.Status.{Status}
use Rattle.syncrepl_tool.specs.declared.searching.Reading.{Reading}
use Rattle.syncrepl_tool.specs.declared.searching.Reading.TheVariants.{NoName, NoFilter}

-- ---- what is read

name_fault : {A : Type 0} (read : Result A NameFault) (fault : NameFault) → IsNameFault read fault → (fault ≡ name.NoMemory → ⊥) → read ≡ Err fault
name_fault read (name.BadName place) is memory = is
name_fault read (name.UnknownType place) is memory = is
name_fault read (name.TooLong place) is memory = is
name_fault read name.NoMemory is memory = absurd (memory refl)

filter_fault : {A : Type 0} (read : Result A FilterFault) (fault : FilterFault) → FilterFails fault read → (fault ≡ filter.NoMemory → ⊥) → read ≡ Err fault
filter_fault read (filter.BadFilter place) is memory = is
filter_fault read filter.TooDeep is memory = is
filter_fault read filter.NoText is memory = absurd is
filter_fault read filter.NoMemory is memory = absurd (memory refl)

-- a base is refused
pub name_refused : {E : Type 0} (asked : SearchAsked) (result : Result Reading E) (fault : NameFault) → IsNameFault (name_of_text asked.base) fault
    → IfOk result (λ reading. (fault ≡ name.NoMemory → ⊥) × (reading ≡ NoName fault)) → IfOk result (ReadsAs asked)
name_refused asked (Err memory) fault is refusal = tt
name_refused asked (Ok reading) fault is refusal =
    subst (λ (r : Reading). ReadsAs asked r) (sym refusal.1) (name_fault (name_of_text asked.base) fault is refusal.0)

-- where the base is no name, nothing is asked that has no encoding
pub unnamed_askable : {E : Type 0} (result : Result Reading E) (fault : NameFault) → IfOk result (λ reading. (fault ≡ name.NoMemory → ⊥) × (reading ≡ NoName fault)) → IfOk result CanBeAsked
unnamed_askable (Err memory) fault refusal = tt
unnamed_askable (Ok reading) fault refusal = subst (λ (r : Reading). CanBeAsked r) (sym refusal.1) tt

-- a filter is refused
pub filter_refused : {E : Type 0} (asked : SearchAsked) (base : List (List TypeAndValue)) (result : Result Reading E) (fault : FilterFault) → name_of_text asked.base ≡ Ok base
    → FilterFails fault (read_filter asked.filter) → IfOk result (λ reading. (fault ≡ filter.NoMemory → ⊥) × (reading ≡ NoFilter fault)) → IfOk result (ReadsAs asked)
filter_refused asked base (Err memory) fault named is refusal = tt
filter_refused asked base (Ok reading) fault named is refusal =
    subst (λ (r : Reading). ReadsAs asked r) (sym refusal.1) (base, named, filter_fault (read_filter asked.filter) fault is refusal.0)

-- so it is where the filter is none
pub unfiltered_askable : {E : Type 0} (result : Result Reading E) (fault : FilterFault) → IfOk result (λ reading. (fault ≡ filter.NoMemory → ⊥) × (reading ≡ NoFilter fault)) → IfOk result CanBeAsked
unfiltered_askable (Err memory) fault refusal = tt
unfiltered_askable (Ok reading) fault refusal = subst (λ (r : Reading). CanBeAsked r) (sym refusal.1) tt

-- ---- how it ends

-- what is read is not refused
clash : {A E : Type 0} (read : Result A E) (value : A) (fault : E) → read ≡ Ok value → read ≡ Err fault → ⊥
clash read value fault one other = cc

-- base and filter, where both are read, are not refused
not_refused : {L C M : Type 0} {asked : SearchAsked} {before after : SearchSide L C M} (spec : Search) → IsReadAs asked spec → IsRefusedSearch asked before after → ⊥
not_refused {L} {C} {M} {asked} spec read refused =
    elim refused.why [
      | inl base ↦ clash (name_of_text asked.base) spec.base base.0 read.base base.1
      | inr both ↦ clash (read_filter asked.filter) spec.filter both.1 read.filter both.3
    ]

module _ {L C M : Type 0} {seen : M → LinkState} {dialled : C → Option (Dialled M)} {asked : SearchAsked} {before after : SearchSide L C M} (status : Status) where
  -- the base or the filter is refused
  pub search_refused : IsRefusedSearch asked before after → status.code ≡ 3 → MaySearch seen dialled asked before after status
  search_refused why three = record {
    codes_are = inr (inl three);
    done = λ is. absurd (omega (arith, three, is));
    quiet = λ is. absurd (omega (arith, three, is));
    refused = λ is. why;
    write_fault = λ is. absurd (omega (arith, three, is));
    output_sound = λ other. ap (λ (o : OutputState). o.faults) why.unprinted;
    write_fault_reported = λ is. absurd (omega (arith, three, is));
    net_fault = λ is. absurd (omega (arith, three, is));
    net_sound = λ other. why.faultless;
    net_fault_reported = λ is. absurd (omega (arith, three, is));
    peer_fault = λ is. absurd (omega (arith, three, is));
    peer_fault_reported = λ is. absurd (omega (arith, three, is));
  }

  -- it was asked, and ended
  pub search_ended : (spec : Search) (end : SearchEnd) → IsReadAs asked spec
      → Searches seen dialled asked.address spec asked.count before.served before.output end after.served after.output
      → SaysEnd end status.code before.said after.said before.said_faults after.said_faults
      → (end ≡ OutputFault → CountHasRisen before.output.faults after.output.faults) → (end ≡ NetFault → CountHasRisen before.net_faults after.net_faults)
      → (end ≢ OutputFault → after.output.faults ≡ before.output.faults) → (end ≢ NetFault → after.net_faults ≡ before.net_faults)
      → MaySearch seen dialled asked before after status
  search_ended spec Done read searches says output net output_rest net_rest = record {
    codes_are = inl says.0;
    done = λ is. record { spec = spec; read = read; searches = searches };
    quiet = λ is. says.1;
    refused = λ is. absurd (omega (arith, says.0, is));
    write_fault = λ is. absurd (omega (arith, says.0, is));
    output_sound = λ other. output_rest (λ e. let never : ⊥ = cc in never);
    write_fault_reported = λ is. absurd (omega (arith, says.0, is));
    net_fault = λ is. absurd (omega (arith, says.0, is));
    net_sound = λ other. net_rest (λ e. let never : ⊥ = cc in never);
    net_fault_reported = λ is. absurd (omega (arith, says.0, is));
    peer_fault = λ is. absurd (omega (arith, says.0, is));
    peer_fault_reported = λ is. absurd (omega (arith, says.0, is));
  }
  search_ended spec OutputFault read searches says output net output_rest net_rest = record {
    codes_are = inr (inr (inl says.0));
    done = λ is. absurd (omega (arith, says.0, is));
    quiet = λ is. absurd (omega (arith, says.0, is));
    refused = λ is. absurd (omega (arith, says.0, is));
    write_fault = λ is. (output refl, record { spec = spec; read = read; searches = searches });
    output_sound = λ other. absurd (other says.0);
    write_fault_reported = λ is. says.1;
    net_fault = λ is. absurd (omega (arith, says.0, is));
    net_sound = λ other. net_rest (λ e. let never : ⊥ = cc in never);
    net_fault_reported = λ is. absurd (omega (arith, says.0, is));
    peer_fault = λ is. absurd (omega (arith, says.0, is));
    peer_fault_reported = λ is. absurd (omega (arith, says.0, is));
  }
  search_ended spec NetFault read searches says output net output_rest net_rest = record {
    codes_are = inr (inr (inr (inl says.0)));
    done = λ is. absurd (omega (arith, says.0, is));
    quiet = λ is. absurd (omega (arith, says.0, is));
    refused = λ is. absurd (omega (arith, says.0, is));
    write_fault = λ is. absurd (omega (arith, says.0, is));
    output_sound = λ other. output_rest (λ e. let never : ⊥ = cc in never);
    write_fault_reported = λ is. absurd (omega (arith, says.0, is));
    net_fault = λ is. (net refl, record { spec = spec; read = read; searches = searches });
    net_sound = λ other. absurd (other says.0);
    net_fault_reported = λ is. says.1;
    peer_fault = λ is. absurd (omega (arith, says.0, is));
    peer_fault_reported = λ is. absurd (omega (arith, says.0, is));
  }
  search_ended spec PeerFault read searches says output net output_rest net_rest = record {
    codes_are = inr (inr (inr (inr says.0)));
    done = λ is. absurd (omega (arith, says.0, is));
    quiet = λ is. absurd (omega (arith, says.0, is));
    refused = λ is. absurd (omega (arith, says.0, is));
    write_fault = λ is. absurd (omega (arith, says.0, is));
    output_sound = λ other. output_rest (λ e. let never : ⊥ = cc in never);
    write_fault_reported = λ is. absurd (omega (arith, says.0, is));
    net_fault = λ is. absurd (omega (arith, says.0, is));
    net_sound = λ other. net_rest (λ e. let never : ⊥ = cc in never);
    net_fault_reported = λ is. absurd (omega (arith, says.0, is));
    peer_fault = λ is. record { spec = spec; read = read; searches = searches };
    peer_fault_reported = λ is. says.1;
  }

  -- ---- each other status has its cause

  -- where they are not read the status is 3
  unread_of : MaySearch seen dialled asked before after status → ((spec : Search) → IsReadAs asked spec → ⊥) → IsSearchStatus status.code → status.code ≡ 3
  unread_of may unread (inl zero) = let done = may.done zero in absurd (unread done.spec done.read)
  unread_of may unread (inr (inl three)) = three
  unread_of may unread (inr (inr (inl five))) = let failed = (may.write_fault five).1 in absurd (unread failed.spec failed.read)
  unread_of may unread (inr (inr (inr (inl seven)))) = let failed = (may.net_fault seven).1 in absurd (unread failed.spec failed.read)
  unread_of may unread (inr (inr (inr (inr nine)))) = let ended = may.peer_fault nine in absurd (unread ended.spec ended.read)

  -- where they are, and nothing failed, it is done, or the peer is at fault
  read_of : MaySearch seen dialled asked before after status → (spec : Search) → IsReadAs asked spec → IsFaultless before after → IsSearchStatus status.code
      → (status.code ≡ 0) ⊎ ((status.code ≡ 9) × IsAsked seen dialled asked before after PeerFault)
  read_of may spec read sound (inl zero) = inl zero
  read_of may spec read sound (inr (inl three)) = absurd (not_refused spec read (may.refused three))
  read_of may spec read sound (inr (inr (inl five))) = absurd (sound.output (may.write_fault five).0)
  read_of may spec read sound (inr (inr (inr (inl seven)))) = absurd (sound.net (may.net_fault seven).0)
  read_of may spec read sound (inr (inr (inr (inr nine)))) = inr (nine, may.peer_fault nine)

  -- it ends with this status
  pub ends_search : {E : Type 0} → MaySearch seen dialled asked before after status → EndsSearch {E = E} seen dialled asked before after (Ok status)
  ends_search may = record {
    with_status = may;
    complete = record { unread = λ unread. unread_of may unread may.codes_are; read = λ spec read sound. read_of may spec read sound may.codes_are };
    without_memory = tt;
  }

-- ---- out of memory

module _ {L C M E : Type 0} {seen : M → LinkState} {dialled : C → Option (Dialled M)} {asked : SearchAsked} {before after : SearchSide L C M} (none : E) where
  -- before anything was asked or printed
  pub runs_out_unasked : after.served ≡ before.served → after.net_faults ≡ before.net_faults → after.output ≡ before.output → EndsSearch seen dialled asked before after (Err none)
  runs_out_unasked unasked faultless unprinted = record {
    with_status = tt;
    complete = tt;
    without_memory = record {
      output_sound = ap (λ (o : OutputState). o.faults) unprinted;
      net_sound = faultless;
      stops = inl (unasked, unprinted);
    };
  }

  -- after base and filter were read
  pub runs_out_asked : (spec : Search) → IsReadAs asked spec → SearchesInPart seen dialled asked.address spec asked.count before.served before.output after.served after.output
      → after.output.faults ≡ before.output.faults → after.net_faults ≡ before.net_faults → EndsSearch seen dialled asked before after (Err none)
  runs_out_asked spec read searches output net = record {
    with_status = tt;
    complete = tt;
    without_memory = record { output_sound = output; net_sound = net; stops = inr (spec, read, searches) };
  }
