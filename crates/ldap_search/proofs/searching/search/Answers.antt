use Rattle.std.proofs.Common.{◌≡◌, ◌∙◌, inl, inr, refl}
use Rattle.std.proofs.lemmas.Result.{IfOk-weaker, on_err_weaker}
use Rattle.ldap_search.specs.declared.end.SearchEnd.TheVariants.{NetFault, OutputFault}
use Rattle.ldap_search.proofs.Called.{caller_counted, room_to_retire}
use Rattle.ldap_search.proofs.searching.search.Goals as goal

-- a caller was given

pub retire-requires : goal.retire-requires
retire-requires g c = record {
  given = room_to_retire (g.N.Net.served c.args.net.now) _ c.in-Ok.ensures.served (g.met.N.Net.callers_within c.args.net.now);
}

pub returns-in-Ok-clause-searches : goal.returns-in-Ok-clause-searches
returns-in-Ok-clause-searches g c =
    IfOk-weaker c.call-end.result _ _
    (λ end calls. record { came = inr (_, _, c.in-Ok.ensures.next, calls, rw c.in-Ok.ensures.served at c.retire.ensures.served) })
    c.call-end.ensures.calls

pub returns-in-Ok-clause-faults : goal.returns-in-Ok-clause-faults
returns-in-Ok-clause-faults g c =
    let counts = c.call-end.ensures.faults in
    let same = c.in-Ok.ensures.faultless (λ e. let never : ⊥ = cc in never) in
    record {
      output_failed = counts.output_failed;
      net_failed = IfOk-weaker c.call-end.result _ _ (λ end failed is. caller_counted _ _ _ _ _ c.in-Ok.ensures.sound (failed is) same c.retire.ensures.faulty) counts.net_failed;
      output_faultless = counts.output_faultless;
      net_faultless = IfOk-weaker c.call-end.result _ _ (λ end faultless is. c.retire.ensures.sound (faultless is ∙ c.in-Ok.ensures.sound) ∙ same) counts.net_faultless;
      output_sound = counts.output_sound;
      net_sound = on_err_weaker c.call-end.result (λ sound. c.retire.ensures.sound (sound ∙ c.in-Ok.ensures.sound) ∙ same) counts.net_sound;
    }

-- none was

pub returns-in-Err-Failed-clause-faults : goal.returns-in-Err-Failed-clause-faults
returns-in-Err-Failed-clause-faults g c =
    let failed = rw c.in-Err-Failed.field-0-is at c.in-Err-Failed.ensures.failed in
    record {
      output_failed = λ is. absurd (let wrong : NetFault ≡ OutputFault = is in cc);
      net_failed = λ is. failed refl;
      output_faultless = λ other. refl;
      net_faultless = λ other. absurd (other refl);
      output_sound = tt;
      net_sound = tt;
    }

pub returns-in-Err-Failed-clause-searches : goal.returns-in-Err-Failed-clause-searches
returns-in-Err-Failed-clause-searches g c = record { came = inl (refl, refl, c.in-Err-Failed.ensures.served) }

-- where memory ran out

pub returns-in-Ok-clause-in_part : goal.returns-in-Ok-clause-in_part
returns-in-Ok-clause-in_part g c =
    on_err_weaker c.call-end.result (λ calls. record { came = inr (_, _, c.in-Ok.ensures.next, calls, rw c.in-Ok.ensures.served at c.retire.ensures.served) }) c.call-end.ensures.in_part
