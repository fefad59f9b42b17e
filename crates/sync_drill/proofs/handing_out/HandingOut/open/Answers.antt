use Rattle.link_rings.specs.Ends.{offered}
use Rattle.sync_drill.proofs.Going.{stays}
use Rattle.sync_drill.proofs.Openings.{accepted-goes, accepted-handing}
use Rattle.sync_drill.proofs.handing_out.HandingOut.open.Goals as goal

pub returns-in_err-ask-clause-goes_on : goal.returns-in_err-ask-clause-goes_on
returns-in_err-ask-clause-goes_on g c = stays (g.P.Port.state c.args.self.now.port)

pub returns-in-Opened-clause-goes_on : goal.returns-in-Opened-clause-goes_on
returns-in-Opened-clause-goes_on g c =
    accepted-goes (g.P.Port.state c.args.self.now.port) (g.P.Port.state c.accept.new.self) c.in_ok-ask.ask c.accept.result c.accept.ensures.replies

pub returns-in-Opened-clause-handing : goal.returns-in-Opened-clause-handing
returns-in-Opened-clause-handing g c =
    let old = c.args.self.now in
    accepted-handing (g.P.Port.state old.port) (g.P.Port.state c.accept.new.self) c.in_ok-ask.ask
    old.consumer c.in-Opened.search _ (offered old.producer) c.requires c.in_ok-ask.ensures c.in-Opened.ensures.replies

pub returns-in-Refused-clause-goes_on : goal.returns-in-Refused-clause-goes_on
returns-in-Refused-clause-goes_on g c =
    accepted-goes (g.P.Port.state c.args.self.now.port) (g.P.Port.state c.accept.new.self) c.in_ok-ask.ask c.accept.result c.accept.ensures.replies

pub returns-in-NoMemory-clause-goes_on : goal.returns-in-NoMemory-clause-goes_on
returns-in-NoMemory-clause-goes_on g c =
    accepted-goes (g.P.Port.state c.args.self.now.port) (g.P.Port.state c.accept.new.self) c.in_ok-ask.ask c.accept.result c.accept.ensures.replies
