use Rattle.std.proofs.Common.{refl, rules, w64, SFits}
use Rattle.std.proofs.KnownBytes.{Appends-nil}
use Rattle.std.proofs.lemmas.Int.{to_z-of_z}
use Rattle.std.specs.declared.alloc.AllocError.{AllocError}
use Rattle.ldap_search.proofs.Answered.{done_part, entry_part, prints_end_part, prints_entry, reference_part, stray_part}
use Rattle.ldap_search.proofs.answering.print_operation.Goals as goal

pub returns-in-SearchResultEntry-clause-prints : goal.returns-in-SearchResultEntry-clause-prints
returns-in-SearchResultEntry-clause-prints g c = rw (entry_part _ _ _ c.in-SearchResultEntry.is) (prints_entry _ _ _ _ _ c.print_entry.ensures.prints)

pub returns-in-SearchResultReference-clause-prints : goal.returns-in-SearchResultReference-clause-prints
returns-in-SearchResultReference-clause-prints g c = rw (reference_part _ _ c.in-SearchResultReference.is) (refl, Appends-nil _, refl)

pub returns-in-Ok-clause-prints : goal.returns-in-Ok-clause-prints
returns-in-Ok-clause-prints g c =
    let fits : SFits w64 c.in-SearchResultDone.result.code = search rules in
    prints_end_part AllocError _ c.in-SearchResultDone.result.code _ _ c.in-Ok.end (done_part _ _ c.in-SearchResultDone.is)
    (rw (to_z-of_z w64 c.in-SearchResultDone.result.code fits) at c.in-Ok.ensures.prints)

pub returns-in_default-clause-prints : goal.returns-in_default-clause-prints
returns-in_default-clause-prints g c = (stray_part _ c.in_default.not-SearchResultEntry c.in_default.not-SearchResultReference c.in_default.not-SearchResultDone, refl)
