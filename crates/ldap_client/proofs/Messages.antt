-- What stands first in the bytes of a stream.
use Rattle.std.proofs.Common.{◌≡◌, ◌⊎◌, ℕ, List, ◌∷◌, ◌++◌, drop, inl, inr, refl, sym, ap, ◌∙◌}
use Rattle.std.proofs.lemmas.List.{drop-append-le}
use Rattle.ldap_messages.specs.Whole.{MessageValue}
use Rattle.ldap_messages.specs.Frame.{Read, partial, refused, long, message, read_of}
use Rattle.ldap_messages.proofs.StableLemmas.{read_stays}
use Rattle.ldap_session.specs.Incoming.{Arrived, incoming_in, rest_of}
use Rattle.ldap_session.proofs.Streams.{frame_within, incoming_long, incoming_more, incoming_none, incoming_refused, rest_more}
use Rattle.ldap_client.specs.Messages.{BeginsWith, HasNoMessage, IsWrongAt}

-- a message that is read stands first, whatever follows
pub begins_with : (bytes : List ℕ) (whole : MessageValue) (count : ℕ) → read_of bytes ≡ message whole count → BeginsWith bytes whole (drop count bytes)
begins_with bytes whole count is = record {
  messages = λ after. incoming_more (bytes ++ after) whole count (read after) ∙ ap (λ (left : List ℕ). Arrived whole ∷ incoming_in left) (left_is after);
  rest = λ after. rest_more (bytes ++ after) whole count (read after) ∙ ap rest_of (left_is after);
}
  where
    read : (after : List ℕ) → read_of (bytes ++ after) ≡ message whole count
    read after = read_stays bytes after (λ e. absurd cc) ∙ is

    left_is : (after : List ℕ) → drop count (bytes ++ after) ≡ drop count bytes ++ after
    left_is after = drop-append-le count bytes after (frame_within bytes whole count is)

-- what is refused stays so, whatever follows
pub refused_at : (bytes : List ℕ) (place : ℕ) → read_of bytes ≡ refused place → IsWrongAt bytes place
refused_at bytes place is after = incoming_refused (bytes ++ after) place (read_stays bytes after (λ e. absurd cc) ∙ is)

-- a frame that announces too many octets is wrong at its first byte
pub too_long : (bytes : List ℕ) → read_of bytes ≡ long → IsWrongAt bytes 0
too_long bytes is after = incoming_long (bytes ++ after) (read_stays bytes after (λ e. absurd cc) ∙ is)

-- no message is whole yet, or what the first bytes are is settled
settled : (read : Read) → (read ≡ partial) ⊎ (read ≡ partial → ⊥)
settled partial = inl refl
settled (refused place) = inr (λ e. absurd cc)
settled long = inr (λ e. absurd cc)
settled (message whole count) = inr (λ e. absurd cc)

-- where no message is whole, none was before
pub none_before : (bytes more : List ℕ) → read_of (bytes ++ more) ≡ partial → HasNoMessage bytes
none_before bytes more is = elim (settled (read_of bytes)) [
  | inl none ↦ incoming_none bytes none
  | inr some ↦ absurd (some (sym (read_stays bytes more some) ∙ is))
]
