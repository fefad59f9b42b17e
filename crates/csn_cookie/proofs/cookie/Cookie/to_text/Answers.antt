use Rattle.std.proofs.Common.{arith}
use Rattle.csn_cookie.proofs.cookie.Cookie.to_text.Goals as goal
use Rattle.csn_cookie.proofs.SpellingLemmas.{csn_of_text-spelled}

pub returns-clause-bounds : goal.returns-clause-bounds
returns-clause-bounds c = record {
  rid = c.requires.rid;
  sid = c.requires.sid;
  csn = (csn_of_text-spelled _ c.args.self.now.csn c.write.ensures.read_again).0;
  history = omega arith;
}
