-- The text of an identity by the bytes of it.
use Rattle.std.proofs.Common.{◌≡◌, ℕ, List, ap, ◌∙◌}
use Rattle.std.specs.Int.{to_be_bytes, w128}
use Rattle.uuid.specs.Text.{hyphenated_text, lower}
use Rattle.sync_wire.specs.Sending.{uuid_text}

-- the text of the identity's sixteen bytes
pub spelled : (uuid : ℕ) (bytes text : List ℕ) → bytes ≡ to_be_bytes w128 uuid → text ≡ hyphenated_text lower bytes → text ≡ uuid_text uuid
unfolding uuid_text
spelled uuid bytes text b t = t ∙ ap (hyphenated_text lower) b
