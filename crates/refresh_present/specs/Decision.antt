-- What a refresh reports of one entry (RFC 4533, section 2.3).
use Rattle.std.specs.Prelude.{ℕ}
use Rattle.refresh_present.specs.declared.decision.Decision.{Decision}
use Rattle.refresh_present.specs.declared.decision.Decision.TheVariants.{Send, Present, Delete}

-- the identity that it speaks of
abbrev pub identity_of : Decision → ℕ
identity_of (Send uuid) = uuid
identity_of (Present uuid) = uuid
identity_of (Delete uuid) = uuid
