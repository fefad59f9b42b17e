use Rattle.std.proofs.Common.{List, inr, refl, rules, subst, sym}
use Rattle.std.proofs.lemmas.Result.{err_from_is_err_and}
use Rattle.dn_names.specs.Names.{TypeAndValue}
use Rattle.sync_provider.specs.declared.provider.Kind.{Kind}
use Rattle.directory_setup.specs.Setup.{FailsOn, HasFilter, HasSeats, IsEmpty, Makes}
use Rattle.directory_setup.specs.declared.setup.ReadyDirectory.{ReadyDirectory}
use Rattle.directory_setup.proofs.Configs.{has_suffix, seats_within, sid_small}
use Rattle.directory_setup.proofs.Setups.{fails_of, has_filter, has_seats, made_of}
use Rattle.directory_setup.proofs.setup.make.Goals as goal

pub first_of-requires : goal.first_of-requires
first_of-requires g c = sid_small c.requires.read.0 c.args.config c.requires.read.1

pub returns-in-Ok-clause-makes : goal.returns-in-Ok-clause-makes
returns-in-Ok-clause-makes g c =
    let ready : ReadyDirectory = record {
      provider = c.load.new.provider;
      listen = c.args.config.listen;
      access = c.in_ok-access.access;
      seats = c.args.config.seats;
      connections = c.args.config.connections;
      upstream = c.args.config.upstream;
      rounds = c.args.config.rounds;
    } in
    subst (λ setup. Makes (g.F.Shelf.files c.args.shelf.now) c.args.config setup) (sym c.setup_of.ensures)
    (made_of (g.F.Shelf.files c.args.shelf.now) c.args.config c.in-Some.provider c.in-Ok.loading ready
    (record {
      placed = has_suffix c.requires.read.0 c.args.config c.requires.read.1;
      empty = subst (λ (place : List (List TypeAndValue) × Kind). IsEmpty place.0 place.1 c.args.config.sid
          (record { log = c.args.config.log_limit; queue = c.args.config.queue_limit }) c.in-Some.provider)
          c.place_of-place.ensures (rw (c.in-Some.is, c.queue_limits-limits.ensures) at c.in_ok-provider.ensures.first);
    })
    c.in-Ok.ensures.loads refl c.in_ok-access.ensures refl refl refl refl)

pub returns-in-Ok-clause-servable : goal.returns-in-Ok-clause-servable
returns-in-Ok-clause-servable g c =
    let shelf = g.F.Shelf.shelf_fault_count c.args.shelf.now in
    let shelf' = g.F.Shelf.shelf_fault_count c.load.new.shelf in
    let words = g.W.Words.word_fault_count c.args.random.now in
    let words' = g.W.Words.word_fault_count c.first_of.new.random in
    record {
      seats = subst (λ setup. HasSeats setup) (sym c.setup_of.ensures)
          (has_seats c.in-Ok.loading _ (seats_within c.requires.read.0 c.args.config c.requires.read.1));
      filter = subst (λ setup. HasFilter setup) (sym c.setup_of.ensures) (has_filter c.in-Ok.loading _ c.requires.filter);
      failed = subst (λ setup. FailsOn setup shelf shelf' words words') (sym c.setup_of.ensures)
          (fails_of c.in-Ok.loading _ shelf shelf' words words' (c.in_ok-provider.ensures.sound (rw c.in-Some.is refl)) c.in-Ok.ensures.faults.sound c.in-Ok.ensures.faults.failed);
      sound = tt;
      files = search rules;
      shelf_later = c.in-Ok.ensures.faults.later;
      words_later = search rules;
    }

pub returns-in_default-clause-servable : goal.returns-in_default-clause-servable
returns-in_default-clause-servable g c = record {
  seats = tt;
  filter = tt;
  failed = inr (c.in_ok-provider.ensures.failed (rw c.in_default.is refl));
  sound = tt;
  files = refl;
  shelf_later = search rules;
  words_later = search rules;
}

-- where memory ran out

pub returns-in_err-access-clause-servable : goal.returns-in_err-access-clause-servable
returns-in_err-access-clause-servable g c =
    let ran = err_from_is_err_and c.from_residual.result c.from_residual.ensures.1 in
    rw ran.1 (record { seats = tt; filter = tt; failed = tt; sound = (refl, refl); files = refl; shelf_later = search rules; words_later = search rules })

pub returns-in_err-provider-clause-servable : goal.returns-in_err-provider-clause-servable
returns-in_err-provider-clause-servable g c =
    let ran = err_from_is_err_and c.from_residual-in_err-provider.result c.from_residual-in_err-provider.ensures.1 in
    rw ran.1 (record { seats = tt; filter = tt; failed = tt; sound = (refl, c.in_err-provider.ensures.err); files = refl; shelf_later = search rules; words_later = search rules })

pub returns-in-Err-clause-servable : goal.returns-in-Err-clause-servable
returns-in-Err-clause-servable g c = record {
  seats = tt;
  filter = tt;
  failed = tt;
  sound = (c.in-Err.ensures.faults.err, c.in_ok-provider.ensures.sound (rw c.in-Some.is refl));
  files = search rules;
  shelf_later = c.in-Err.ensures.faults.later;
  words_later = search rules;
}
