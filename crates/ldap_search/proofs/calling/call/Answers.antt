use Rattle.std.proofs.Common.{◌≡◌, inl, refl, rules}
use Rattle.std.proofs.lemmas.Result.{IfOk-weaker, on_err_weaker}
use Rattle.ldap_search.specs.declared.end.SearchEnd.TheVariants.{NetFault, OutputFault}
use Rattle.ldap_search.proofs.Called.{called, called_in_part, link_counted, link_sound_in_part, link_uncounted, output_counted, output_sound_in_part, output_uncounted, room_to_hang_up}
use Rattle.ldap_search.proofs.calling.call.Goals as goal

-- a link came

pub search_over-requires-clause-came : goal.search_over-requires-clause-came
search_over-requires-clause-came g c =
    let came = room_to_hang_up c.args.address.now (g.D.Dial.dialled c.args.dial.now) _ (c.in-Ok.ensures.asked (λ e. let never : ⊥ = cc in never)) (g.met.D.Dial.within c.args.dial.now) in
    search rules

pub returns-in-Ok-clause-calls : goal.returns-in-Ok-clause-calls
returns-in-Ok-clause-calls g c =
    IfOk-weaker c.search_over.result _ _
    (λ end hung. called _ _ _ _ _ _ _ _ _ _ _ end c.in-Ok.link (c.in-Ok.ensures.asked (λ e. let never : ⊥ = cc in never)) (c.in-Ok.ensures.sound, c.in-Ok.ensures.unused) hung)
    c.search_over.ensures.hangs_up

pub returns-in-Ok-clause-in_part : goal.returns-in-Ok-clause-in_part
returns-in-Ok-clause-in_part g c =
    called_in_part _ _ _ _ c.search_over.result _ _ _ _ _ _ _ c.in-Ok.link (c.in-Ok.ensures.asked (λ e. let never : ⊥ = cc in never)) (c.in-Ok.ensures.sound, c.in-Ok.ensures.unused) c.search_over.ensures.in_part

pub returns-in-Ok-clause-faults : goal.returns-in-Ok-clause-faults
returns-in-Ok-clause-faults g c =
    let same = c.in-Ok.ensures.faultless (λ e. let never : ⊥ = cc in never) in
    record {
      output_failed = IfOk-weaker c.search_over.result _ _ (λ end hung. output_counted _ _ _ _ _ _ _ _ _ end c.in-Ok.link hung) c.search_over.ensures.hangs_up;
      net_failed = IfOk-weaker c.search_over.result _ _ (λ end hung. link_counted _ _ _ _ _ _ _ _ _ _ end c.in-Ok.link c.in-Ok.ensures.sound same hung) c.search_over.ensures.hangs_up;
      output_faultless = IfOk-weaker c.search_over.result _ _ (λ end hung. output_uncounted _ _ _ _ _ _ _ _ _ end c.in-Ok.link hung) c.search_over.ensures.hangs_up;
      net_faultless = IfOk-weaker c.search_over.result _ _ (λ end hung. link_uncounted _ _ _ _ _ _ _ _ _ _ end c.in-Ok.link c.in-Ok.ensures.sound same hung) c.search_over.ensures.hangs_up;
      output_sound = on_err_weaker c.search_over.result (λ hung. output_sound_in_part _ _ _ _ _ _ _ _ _ c.in-Ok.link hung) c.search_over.ensures.in_part;
      net_sound = on_err_weaker c.search_over.result (λ hung. link_sound_in_part _ _ _ _ _ _ _ _ _ _ c.in-Ok.link c.in-Ok.ensures.sound same hung) c.search_over.ensures.in_part;
    }

-- none came

pub returns-in-Err-Failed-clause-faults : goal.returns-in-Err-Failed-clause-faults
returns-in-Err-Failed-clause-faults g c =
    let failed = rw c.in-Err-Failed.field-0-is at c.in-Err-Failed.ensures.failed in
    record {
      output_failed = λ is. absurd (let wrong : NetFault ≡ OutputFault = is in cc);
      net_failed = λ is. failed refl;
      output_faultless = λ other. refl;
      net_faultless = λ other. absurd (other refl);
      output_sound = tt;
      net_sound = tt;
    }

pub returns-in-Err-Failed-clause-calls : goal.returns-in-Err-Failed-clause-calls
returns-in-Err-Failed-clause-calls g c = record { came = inl (refl, refl, c.in-Err-Failed.ensures.asked (λ e. let never : ⊥ = cc in never)) }
