use Rattle.link_rings.specs.Ends.{offered}
use Rattle.sync_drill.proofs.Droppings.{dropped-goes, dropped-resting}
use Rattle.sync_drill.proofs.handing_out.HandingOut.close.Goals as goal

pub returns-clause-goes_on : goal.returns-clause-goes_on
returns-clause-goes_on g c =
    let old = c.args.self.now in
    dropped-goes old.search (g.P.Port.state old.port) (g.P.Port.state c.drop_search.new.self) c.drop_search.result c.drop_search.ensures.replies

pub returns-clause-resting : goal.returns-clause-resting
returns-clause-resting g c =
    let old = c.args.self.now in
    dropped-resting old.consumer old.search (g.P.Port.state old.port) (g.P.Port.state c.drop_search.new.self) (offered old.producer)
    c.drop_search.result c.requires c.drop_search.ensures.replies
