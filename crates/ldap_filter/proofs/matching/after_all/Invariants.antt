use Rattle.std.proofs.Common.{◌≡◌, drop}
use Rattle.ldap_filter.specs.Matching.{after_all}
use Rattle.ldap_filter.proofs.matching.after_all.Given as goal

-- the pieces that are left stand in the text that is left
abbrev pub invariant-loop-piece : goal.invariant-loop-piece
invariant-loop-piece l = after_all (drop l.piece-index l.pieces) l.rest ≡ after_all l.pieces l.text
