-- An integer of 64 bits is text, and is parsed as its number.
use Rattle.std.proofs.Common.{◌≡◌, Ok}
use Rattle.std.proofs.lemmas.Bool.{and_parts}
use Rattle.text_keys.proofs.Integers.{IsUtf8-integer, parse_gives_integer}
use Rattle.text_keys.specs.Integer.{integer_of}
use Rattle.ldap_filter.proofs.matching.number_of.Goals as goal

pub unreachable-requires : goal.unreachable-requires
unreachable-requires c =
    let parts = and_parts _ _ c.requires in
    let parsed : c.parse.result ≡ Ok (integer_of c.args.key.now) =
    parse_gives_integer c.args.key.now c.parse.result parts.0 parts.1 (rw c.in-Ok.ensures.cases.0 at c.parse.ensures.value.0) in
    cc

pub unreachable-requires-in-Err : goal.unreachable-requires-in-Err
unreachable-requires-in-Err c = c.in-Err.ensures.cases.0 (IsUtf8-integer c.args.key.now (and_parts _ _ c.requires).0)
