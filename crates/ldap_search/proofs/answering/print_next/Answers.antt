use Rattle.std.proofs.Common.{ap}
use Rattle.std.proofs.lemmas.Result.{on_err_weaker}
use Rattle.ldap_search.proofs.Answered.{live_after, live_not, prints_end, prints_next, stops_printing, stops_reading}
use Rattle.ldap_search.specs.Talks.{output_by}
use Rattle.ldap_search.proofs.answering.print_next.Goals as goal

-- a message was given

pub returns-in-Ok-clause-prints : goal.returns-in-Ok-clause-prints
returns-in-Ok-clause-prints g c = prints_next _ _ c.in-Ok.message _ _ _ (c.in-Ok.ensures.gives c.requires) c.print_part-end.ensures.prints

pub returns-in-Ok-clause-in_part : goal.returns-in-Ok-clause-in_part
returns-in-Ok-clause-in_part g c =
    stops_printing _ _ c.in-Ok.message c.print_part-end.result _ _ (c.in-Ok.ensures.gives c.requires)
    (on_err_weaker c.print_part-end.result (λ same. ap (output_by g.O.Sink.bytes_held g.O.Sink.write_fault_count) same) c.print_part-end.ensures.unprinted)

pub returns-in-Ok-clause-live : goal.returns-in-Ok-clause-live
returns-in-Ok-clause-live g c = live_after _ _ (c.in-Ok.ensures.gives c.requires).fault

-- none was

pub returns-in-Err-clause-prints : goal.returns-in-Err-clause-prints
returns-in-Err-clause-prints g c = prints_end _ _ c.in-Err.fault _ _ (c.in-Err.ensures.gives c.requires) c.end_by.ensures.ends

pub returns-in-Err-clause-in_part : goal.returns-in-Err-clause-in_part
returns-in-Err-clause-in_part g c = stops_reading _ _ c.in-Err.fault c.end_by.result _ (c.in-Err.ensures.gives c.requires) c.end_by.ensures.memory

pub returns-in-Err-clause-live : goal.returns-in-Err-clause-live
returns-in-Err-clause-live g c = live_not _ c.in-Err.fault _ c.end_by.ensures.ends

pub returns-in-Ok-clause-held : goal.returns-in-Ok-clause-held
returns-in-Ok-clause-held g c = (c.in-Ok.ensures.gives c.requires).reads.held

pub returns-in-Err-clause-held : goal.returns-in-Err-clause-held
returns-in-Err-clause-held g c = (c.in-Err.ensures.gives c.requires).reads.held
