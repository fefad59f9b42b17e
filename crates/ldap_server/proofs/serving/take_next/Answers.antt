use Rattle.std.proofs.Common.{ℕ, List, [], Option, Some, None, refl, take, ◌∙◌}
use Rattle.std.proofs.lemmas.List.{append-nil}
use Rattle.std.specs.Io.KnownBytes.{Appends, Keeps}
use Rattle.sync_io.proofs.Sides.{keeps_none}
use Rattle.ldap_session.specs.declared.event.LinkEvent.TheVariants.{Piece, Quiet, End}
use Rattle.ldap_server.proofs.serving.take_next.Goals as goal

-- nothing was given
reads_none : (before read : Option (List ℕ)) → Appends before read [] → Keeps before read
reads_none None read h = h
reads_none (Some xs) None h = h
reads_none (Some xs) (Some ys) h = h ∙ append-nil xs

pub returns-in-Got-clause-takes : goal.returns-in-Got-clause-takes
returns-in-Got-clause-takes g c =
    let handles = rw c.split_at.ensures.front at c.pass_on.ensures.handles.1 in
    (Piece (take c.in-Got.size c.read.new.buffer) c.pass_on.ensures.handles.0, handles, c.in-Got.ensures.bytes, c.in-Got.ensures.given, tt)

pub returns-in-Quiet-clause-takes : goal.returns-in-Quiet-clause-takes
returns-in-Quiet-clause-takes g c = (Quiet, c.on_quiet.ensures.handles, keeps_none (g.S.Source.bytes_left c.args.source.now) (g.S.Source.bytes_left c.read.new.self) c.in-Quiet.ensures.bytes, c.in-Quiet.ensures.given, tt)

pub returns-in-End-clause-takes : goal.returns-in-End-clause-takes
returns-in-End-clause-takes g c =
    (End, c.on_end.ensures.handles, keeps_none (g.S.Source.bytes_left c.args.source.now) (g.S.Source.bytes_left c.read.new.self) c.in-End.ensures.bytes, c.in-End.ensures.given, c.in-End.ensures.end refl)

pub returns-in-Failed-clause-takes : goal.returns-in-Failed-clause-takes
returns-in-Failed-clause-takes g c =
    (refl, c.in-Failed.ensures.bytes, reads_none (g.S.Source.bytes_read c.args.source.now) (g.S.Source.bytes_read c.read.new.self) c.in-Failed.ensures.given)
