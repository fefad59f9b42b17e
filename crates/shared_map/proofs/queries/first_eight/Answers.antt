-- The number is that of the first eight octets.
use Rattle.std.proofs.Common.{◌∙◌, ap, rules}
use Rattle.std.specs.Int.{from_be_bytes, w64}
use Rattle.shared_map.proofs.queries.first_eight.Goals as goal

pub returns-in-Some : goal.returns-in-Some
returns-in-Some c = record {
  enough = c.in-Some.ensures.cases.enough;
  is = c.from_be_bytes.ensures ∙ ap (from_be_bytes w64) c.in-Some.ensures.cases.same;
  small = search rules;
}
