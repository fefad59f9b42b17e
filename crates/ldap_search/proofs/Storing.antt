-- What comes of a cookie that was stored.
use Rattle.std.proofs.Common.{◌≡◌, ◌<◌, ◌+◌, ℕ, List, ◌++◌, length, codes, Option, Some, None, Result, Ok, Err, inr, refl, ap, ◌∙◌}
use Rattle.std.specs.Prelude.{OnErr}
use Rattle.std.specs.Fmt.{decimal}
use Rattle.hex.specs.Hex.{encode_lower}
use Rattle.sha2.specs.Sha256.{sha256}
use Rattle.cascade_report.specs.ReportLines.{text_of}
use Rattle.entry_tree.specs.declared.entry.Entry.{Entry}
use Rattle.ldap_client.specs.Clients.{ClientState}
use Rattle.sync_model.specs.Copy.{Copy}
use Rattle.ldap_search.specs.Copies.{stored_text}
use Rattle.ldap_search.specs.Printing.{Prints, PrintsLast}
use Rattle.ldap_messages.specs.Whole.{message_octets}
use Rattle.ldap_search.specs.Requests.{unbind_request}
use Rattle.ldap_search.specs.Steps.{IsUnwritten, StopsStoring, StoresOne, Unbinds}
use Rattle.ldap_search.specs.Talks.{OutputState}
use Rattle.ldap_search.specs.declared.end.SearchEnd.{SearchEnd}
use Rattle.ldap_search.specs.declared.end.SearchEnd.TheVariants.{Done, OutputFault, NetFault, PeerFault}

-- its line, put together from its parts
pub stored_of : (held : List Entry) (count : ℕ) (digits digest : List ℕ) → count ≡ length held → digest ≡ sha256 (text_of held) → digits ≡ encode_lower digest
    → codes "stored entries " ++ (decimal count ++ (codes " sha256 " ++ (digits ++ codes "\n"))) ≡ stored_text held
stored_of held count digits digest count_is digest_is digits_is =
    ap (λ (n : ℕ). codes "stored entries " ++ (decimal n ++ (codes " sha256 " ++ (digits ++ codes "\n")))) count_is
    ∙ ap (λ (ds : List ℕ). codes "stored entries " ++ (decimal (length held) ++ (codes " sha256 " ++ (ds ++ codes "\n")))) (digits_is ∙ ap encode_lower digest_is)

-- its line was printed, and more are wanted
pub stores_more : (E : Type 0) (copy : Copy) (wanted wanted' : ℕ) (client : ClientState) (old new : OutputState) (end : Option SearchEnd) → wanted' + 1 ≡ wanted → 0 < wanted'
    → Prints (stored_text copy.held) old.held old.faults end new.held new.faults → StoresOne {E = E} copy wanted client old (Ok end) wanted' client new
stores_more E copy wanted wanted' client old new None count some prints = (count, some, refl, prints.0, prints.1)
stores_more E copy wanted wanted' client old new (Some OutputFault) count some prints = (refl, prints.0, prints.1)
stores_more E copy wanted wanted' client old new (Some Done) count some prints = absurd prints
stores_more E copy wanted wanted' client old new (Some NetFault) count some prints = absurd prints
stores_more E copy wanted wanted' client old new (Some PeerFault) count some prints = absurd prints

-- it was the last, and the session was ended
pub stores_last : {E : Type 0} (copy : Copy) (wanted wanted' : ℕ) (client client' : ClientState) (old new : OutputState) (result : Result (Option SearchEnd) E) → wanted ≡ 1
    → PrintsLast (stored_text copy.held) old.held old.faults Done new.held new.faults → Unbinds client result client' → StoresOne copy wanted client old result wanted' client' new
stores_last copy wanted wanted' client client' old new (Ok (Some Done)) last prints unbinds = (last, unbinds, prints.0, prints.1)
stores_last copy wanted wanted' client client' old new (Ok (Some NetFault)) last prints unbinds = (last, unbinds, prints.0, prints.1)
stores_last copy wanted wanted' client client' old new (Ok (Some OutputFault)) last prints unbinds = absurd unbinds
stores_last copy wanted wanted' client client' old new (Ok (Some PeerFault)) last prints unbinds = absurd unbinds
stores_last copy wanted wanted' client client' old new (Ok None) last prints unbinds = absurd unbinds
stores_last copy wanted wanted' client client' old new (Err fault) last prints unbinds = tt

-- the output failed at the last
pub stores_torn : (E : Type 0) (copy : Copy) (wanted : ℕ) (client : ClientState) (old new : OutputState) (end : SearchEnd) → (end ≡ Done → ⊥)
    → PrintsLast (stored_text copy.held) old.held old.faults end new.held new.faults → StoresOne {E = E} copy wanted client old (Ok (Some end)) wanted client new
stores_torn E copy wanted client old new OutputFault unlike prints = (refl, prints.0, prints.1)
stores_torn E copy wanted client old new Done unlike prints = absurd (unlike refl)
stores_torn E copy wanted client old new NetFault unlike prints = absurd prints
stores_torn E copy wanted client old new PeerFault unlike prints = absurd prints

-- it was the last, and memory ran out at the end of the session
pub stops_storing : {E : Type 0} (copy : Copy) (wanted : ℕ) (client client' : ClientState) (old new : OutputState) (result : Result (Option SearchEnd) E) → wanted ≡ 1
    → PrintsLast (stored_text copy.held) old.held old.faults Done new.held new.faults → OnErr result (IsUnwritten (message_octets unbind_request) client client')
    → OnErr result (StopsStoring copy wanted client old client' new)
stops_storing copy wanted client client' old new (Ok end) last prints unwritten = tt
stops_storing copy wanted client client' old new (Err fault) last prints unwritten = inr (last, unwritten, prints.0, prints.1)
