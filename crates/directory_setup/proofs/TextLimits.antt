-- Texts that pass a limit.
use Rattle.std.proofs.Common.{◌≡◌, ℕ, ◌+◌, ◌-◌, ◌<◌, ◌≤◌, ◌&&◌, nat_le, nat_lt, Bool, true, false, if◌then◌else◌, List, length, take, Option, Some, None, refl, ap, ◌∙◌, subst}
use borrow.Author.Tests.{le-leb, le-ltb, lt-leb, lt-ltb}
use Rattle.directory_setup.specs.Texts.{line_feeds, most_bytes, most_lines, too_long, too_many_lines}
use Rattle.directory_setup.specs.declared.refusal.TooLong.{TooLong}

module _ {A : Type 0} (given else' : A) where
  chosen : (test : Bool) → test ≡ true → given ≡ (if test then given else else')
  chosen true is = refl
  chosen false is = absurd cc

  other : (test : Bool) → test ≡ false → else' ≡ (if test then given else else')
  other false is = refl
  other true is = absurd cc

  chosen-both : (first second : Bool) → first ≡ true → second ≡ true → given ≡ (if first && second then given else else')
  chosen-both true second is also = chosen second also
  chosen-both false second is also = absurd cc

  other-first : (first second : Bool) → first ≡ false → else' ≡ (if first && second then given else else')
  other-first false second is = refl
  other-first true second is = absurd cc

  other-second : (first second : Bool) → second ≡ false → else' ≡ (if first && second then given else else')
  other-second true second is = other second is
  other-second false second is = refl

abbrev lines_passed : Option TooLong
lines_passed = Some (record { line = most_lines + 1; limit = most_lines })

abbrev bytes_passed : ℕ → Option TooLong
bytes_passed before = Some (record { line = before + 1; limit = most_bytes })

-- ---- lines

-- with few line feeds there are not too many lines
pub few_lines : (text : List ℕ) (count : ℕ) → count ≡ line_feeds (take (length text - 1) text) → count < most_lines → None ≡ too_many_lines text
unfolding too_many_lines
few_lines text count is few =
    other lines_passed None (nat_le most_lines (line_feeds (take (length text - 1) text)))
    (lt-leb most_lines (line_feeds (take (length text - 1) text)) (subst (λ n. n < most_lines) is few))

-- with more there are, and the first one too many is named
pub many_lines : (text : List ℕ) (count : ℕ) → count ≡ line_feeds (take (length text - 1) text) → most_lines ≤ count
    → Some (record { line = most_lines + 1; limit = most_lines }) ≡ too_many_lines text
unfolding too_many_lines
many_lines text count is many =
    chosen lines_passed None (nat_le most_lines (line_feeds (take (length text - 1) text)))
    (le-leb most_lines (line_feeds (take (length text - 1) text)) (subst (λ n. most_lines ≤ n) is many))

-- ---- bytes

-- a text of no more bytes than it may have
pub few_bytes : (text : List ℕ) → length text ≤ most_bytes → too_many_lines text ≡ too_long text
unfolding too_long
few_bytes text few =
    other-first (bytes_passed (line_feeds (take most_bytes text))) (too_many_lines text)
    (nat_lt most_bytes (length text)) (nat_lt (line_feeds (take most_bytes text)) most_lines)
    (le-ltb most_bytes (length text) few)

-- its lines are too many before its bytes are
pub late_bytes : (text : List ℕ) (before : ℕ) → before ≡ line_feeds (take most_bytes text) → most_lines ≤ before → too_many_lines text ≡ too_long text
unfolding too_long
late_bytes text before is late =
    other-second (bytes_passed (line_feeds (take most_bytes text))) (too_many_lines text)
    (nat_lt most_bytes (length text)) (nat_lt (line_feeds (take most_bytes text)) most_lines)
    (le-ltb (line_feeds (take most_bytes text)) most_lines (subst (λ n. most_lines ≤ n) is late))

-- with too many bytes the line of the first one too many is named
pub many_bytes : (text : List ℕ) (before : ℕ) → before ≡ line_feeds (take most_bytes text) → most_bytes < length text → before < most_lines
    → Some (record { line = before + 1; limit = most_bytes }) ≡ too_long text
unfolding too_long
many_bytes text before is many few =
    ap bytes_passed is ∙ chosen-both (bytes_passed (line_feeds (take most_bytes text))) (too_many_lines text)
    (nat_lt most_bytes (length text)) (nat_lt (line_feeds (take most_bytes text)) most_lines)
    (lt-ltb most_bytes (length text) many) (lt-ltb (line_feeds (take most_bytes text)) most_lines (subst (λ n. n < most_lines) is few))
