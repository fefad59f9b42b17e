use Rattle.std.proofs.Common.{◌≡◌, ◌++◌, drop, ap, ◌∙◌, arith}
use Rattle.std.proofs.lemmas.List.{drop-append-le}
use Rattle.ldap_client.proofs.received.Received.keep.Goals as goal

pub returns : goal.returns
returns c =
    let came = c.args.self.now.came.items in
    let all : c.extend_from_slice.new.self.items ≡ came ++ c.args.bytes.now = rw (c.extend_from_slice.ensures.succeeds c.requires) at c.extend_from_slice.ensures.items in
    ap (drop c.args.self.now.given) all
    ∙ drop-append-le c.args.self.now.given came c.args.bytes.now (omega (arith, c.args.self.now.within, c.args.self.now.came.ok.0))
