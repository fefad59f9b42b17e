-- No line of a script is refused for a limit of what it does.
use Rattle.std.proofs.Common.{◌≡◌, ◌+◌, ℕ, not, Option, Some, None, List, [], ◌∷◌, refl, subst, inl, inr}
use Rattle.std.specs.Prelude.{Result, Ok, Err}
use Rattle.std.specs.List.{list_all}
use Rattle.std.specs.Str.{is_utf8}
use Rattle.std.proofs.lemmas.Bool.{cases_Bool}
use Rattle.ldif_text.specs.Reader.{Found}
use Rattle.ldif_text.specs.declared.fault.LdifFault.{LdifFault}
use Rattle.cascade_script.specs.Grammar.{Saying, saying}
use Rattle.cascade_script.specs.Grammar.Saying.{Orders, Writes}
use Rattle.cascade_script.specs.Reader.{ScriptReader, Next, beyond, of_record, limit_before, whole_record, record_before, next_of, next_from, is_skipped, body_of, after_body}
use Rattle.cascade_script.specs.Reader.Next.{Ended, Refused, Got}

-- the end is that of a script without a limit, and an order leaves the limit as it is
abbrev pub KeepsLimit : Option ℕ → Next → Type 0
KeepsLimit limit Ended = limit ≡ None
KeepsLimit limit (Refused fault) = Unit {0}
KeepsLimit limit (Got line order rest) = rest.limit ≡ limit

after_keeps : (read : ℕ) (limit : Option ℕ) → KeepsLimit limit (beyond read limit)
after_keeps read None = refl
after_keeps read (Some most) = tt

of_record_keeps : (limit : Option ℕ) (command : ℕ) (name : List ℕ) (rest : ScriptReader) (read : Result (Option Found) LdifFault) → rest.limit ≡ limit → KeepsLimit limit (of_record command name rest read)
of_record_keeps limit command name rest (Ok None) same = tt
of_record_keeps limit command name rest (Ok (Some found)) same = same
of_record_keeps limit command name rest (Err fault) same = tt

whole_record_keeps : (limit passed : Option ℕ) (command : ℕ) (name : List ℕ) (body : List (List ℕ)) (rest : ScriptReader) → rest.limit ≡ limit → KeepsLimit limit (whole_record passed command name body rest)
whole_record_keeps limit None command name body rest same = of_record_keeps limit command name rest _ same
whole_record_keeps limit (Some most) command name body rest same = tt

record_keeps : (limit : Option ℕ) (command : ℕ) (name : List ℕ) (body rest : List (List ℕ)) → KeepsLimit limit (record_before limit command name body rest)
record_keeps limit command name body rest =
    elim (cases_Bool (not (list_all is_utf8 body))) [
      | inl bad ↦ rw bad tt
      | inr good ↦ rw good (whole_record_keeps limit (limit_before limit rest) command name body _ refl)
    ]

saying_keeps : (limit : Option ℕ) (line : ℕ) (said : Option Saying) (lines : List (List ℕ)) → KeepsLimit limit (next_of limit line said lines)
saying_keeps limit line None lines = tt
saying_keeps limit line (Some (Orders order)) lines = refl
saying_keeps limit line (Some (Writes name)) lines = record_keeps limit line name (body_of lines) (after_body lines)

-- reading on keeps the limit that the script passes
pub next_keeps : (limit : Option ℕ) (read : ℕ) (lines : List (List ℕ)) → KeepsLimit limit (next_from limit read lines)
next_keeps limit read [] = after_keeps read limit
next_keeps limit read (line ∷ lines) =
    elim (cases_Bool (not (is_utf8 line))) [
      | inl bad ↦ rw bad tt
      | inr good ↦
          rw good (elim (cases_Bool (is_skipped line)) [
            | inl skipped ↦ rw skipped (next_keeps limit (read + 1) lines)
            | inr said ↦ rw said (saying_keeps limit (read + 1) (saying line) lines)
          ])
    ]

-- the same of what is read, said in another way
pub keeps_as : (limit : Option ℕ) (n m : Next) → n ≡ m → KeepsLimit limit n → KeepsLimit limit m
keeps_as limit n m is h = let P : Next → Type 0 = KeepsLimit limit in subst P is h
