use Rattle.std.proofs.Common.{◌≡◌, ◌∙◌, inl, refl, rules}
use Rattle.std.proofs.lemmas.Result.{IfOk-weaker, err_from_is_err_and, on_err_weaker}
use Rattle.directory_setup.specs.Setup.{IsReadConfig}
use Rattle.directory_setup.specs.declared.setup.Configured.TheVariants.{Config, ReadFault, Refused}
use Rattle.directory_setup.proofs.Setups.{made_set_up}
use Rattle.directory_setup.proofs.setup.set_up.Goals as goal

pub make-requires : goal.make-requires
make-requires g c =
    let is = rw c.in-Config.is at c.in_ok-configured.ensures.configures in
    let read : IsReadConfig c.in-Config.config = (is.text, is.read) in
    let filter = rw c.in-Config.is at c.in_ok-configured.ensures.filter in
    search rules

pub returns-in-Config-clause-sets_up : goal.returns-in-Config-clause-sets_up
returns-in-Config-clause-sets_up g c =
    let is = rw c.in-Config.is at c.in_ok-configured.ensures.configures in
    IfOk-weaker c.make.result _ _
    (λ setup made. made_set_up (g.F.Shelf.files c.args.shelf.now) c.args.name.now c.in-Config.config setup is (rw c.in_ok-configured.ensures.files at made))
    c.make.ensures.makes

pub returns-in-Config-clause-servable : goal.returns-in-Config-clause-servable
returns-in-Config-clause-servable g c =
    let made = c.make.ensures.servable in
    let read = rw c.in-Config.is at c.in_ok-configured.ensures.faults.sound in
    let same = read (λ is. let wrong : Config c.in-Config.config ≡ ReadFault = is in cc) in
    record {
      seats = made.seats;
      filter = made.filter;
      failed = rw same at made.failed;
      sound = on_err_weaker c.make.result (λ both. (both.0 ∙ same, both.1)) made.sound;
      files = made.files ∙ c.in_ok-configured.ensures.files;
      shelf_later = rw same at made.shelf_later;
      words_later = made.words_later;
    }

pub returns-in-Refused-clause-sets_up : goal.returns-in-Refused-clause-sets_up
returns-in-Refused-clause-sets_up g c = inl (rw c.in-Refused.is at c.in_ok-configured.ensures.configures)

pub returns-in-Refused-clause-servable : goal.returns-in-Refused-clause-servable
returns-in-Refused-clause-servable g c =
    let read = rw c.in-Refused.is at c.in_ok-configured.ensures.faults.sound in
    record {
      seats = tt;
      filter = tt;
      failed = (read (λ is. let wrong : Refused c.in-Refused.refusal ≡ ReadFault = is in cc), refl);
      sound = tt;
      files = c.in_ok-configured.ensures.files;
      shelf_later = c.in_ok-configured.ensures.faults.later;
      words_later = search rules;
    }

pub returns-in-ReadFault-clause-servable : goal.returns-in-ReadFault-clause-servable
returns-in-ReadFault-clause-servable g c = record {
  seats = tt;
  filter = tt;
  failed = inl (c.in_ok-configured.ensures.faults.failed c.in-ReadFault.is);
  sound = tt;
  files = c.in_ok-configured.ensures.files;
  shelf_later = c.in_ok-configured.ensures.faults.later;
  words_later = search rules;
}

-- where memory ran out
pub returns-in_err-configured-clause-servable : goal.returns-in_err-configured-clause-servable
returns-in_err-configured-clause-servable g c =
    let ran = err_from_is_err_and c.from_residual.result c.from_residual.ensures.1 in
    let files = c.in_err-configured.ensures.files in
    let later = c.in_err-configured.ensures.faults.later in
    rw ran.1 (record { seats = tt; filter = tt; failed = tt; sound = (c.in_err-configured.ensures.faults.err, refl); files = files; shelf_later = later; words_later = search rules })
