-- The digits so far give the number, and those that are left go on from it.
use Rattle.std.proofs.Common.{◌≡◌, ◌<◌, ◌^◌, drop}
use Rattle.csn_cookie.proofs.digits.number_of.Given as goal
use Rattle.csn_cookie.specs.Digits.{number_of}
use Rattle.csn_cookie.proofs.DigitsLemmas.{number_after}

abbrev pub invariant-loop-byte : goal.invariant-loop-byte
invariant-loop-byte l = record {
  value : number_of l.radix l.text ≡ number_after l.radix l.number (drop l.byte-index l.text);
  below : l.number < l.radix ^ l.byte-index;
}
