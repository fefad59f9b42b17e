use Rattle.std.proofs.Common.{◌≡◌, [], refl, sym, take, ◌∙◌}
use Rattle.std.proofs.KnownBytes.{Appends-nil, Consumes-nil}
use Rattle.std.proofs.lemmas.List.{append-nil}
use Rattle.sync_io.proofs.Sides.{keeps_none}
use Rattle.sync_io.specs.declared.source.Piece.TheVariants.{Got, Quiet, End, Failed}
use Rattle.ldap_client.proofs.received.Received.read_from.Goals as goal

pub returns-in-Got-clause-reads : goal.returns-in-Got-clause-reads
returns-in-Got-clause-reads g c =
    (take c.in-Got.count c.read.new.buffer, rw (c.make_room.ensures.kept, c.split_at.ensures.front) at c.keep.ensures, c.in-Got.ensures.bytes, c.in-Got.ensures.given, tt)

pub returns-in-Quiet-clause-reads : goal.returns-in-Quiet-clause-reads
returns-in-Quiet-clause-reads g c =
    ([], c.make_room.ensures.kept ∙ sym (append-nil _), keeps_none (g.S.Source.bytes_left c.args.source.now) (g.S.Source.bytes_left c.read.new.self) c.in-Quiet.ensures.bytes, c.in-Quiet.ensures.given, refl)

pub returns-in-End-clause-reads : goal.returns-in-End-clause-reads
returns-in-End-clause-reads g c =
    ([], c.make_room.ensures.kept ∙ sym (append-nil _), keeps_none (g.S.Source.bytes_left c.args.source.now) (g.S.Source.bytes_left c.read.new.self) c.in-End.ensures.bytes, c.in-End.ensures.given, refl)

pub returns-in-Failed-clause-reads : goal.returns-in-Failed-clause-reads
returns-in-Failed-clause-reads g c =
    ([], c.make_room.ensures.kept ∙ sym (append-nil _), keeps_none (g.S.Source.bytes_left c.args.source.now) (g.S.Source.bytes_left c.read.new.self) c.in-Failed.ensures.bytes, c.in-Failed.ensures.given, refl)

pub returns-in_default-clause-reads : goal.returns-in_default-clause-reads
returns-in_default-clause-reads g c =
    ([], c.make_room.ensures.kept ∙ sym (append-nil _), Consumes-nil (g.S.Source.bytes_left c.args.source.now), Appends-nil (g.S.Source.bytes_read c.args.source.now), refl)

-- what a read counts

pub returns-in-Got-clause-faults : goal.returns-in-Got-clause-faults
returns-in-Got-clause-faults g c = c.in-Got.ensures.sound (λ is. let wrong : Got c.in-Got.count ≡ Failed = is in cc)

pub returns-in-Quiet-clause-faults : goal.returns-in-Quiet-clause-faults
returns-in-Quiet-clause-faults g c = c.in-Quiet.ensures.sound (λ is. let wrong : Quiet ≡ Failed = is in cc)

pub returns-in-End-clause-faults : goal.returns-in-End-clause-faults
returns-in-End-clause-faults g c = c.in-End.ensures.sound (λ is. let wrong : End ≡ Failed = is in cc)

pub returns-in-Failed-clause-faults : goal.returns-in-Failed-clause-faults
returns-in-Failed-clause-faults g c = c.in-Failed.ensures.failed refl
