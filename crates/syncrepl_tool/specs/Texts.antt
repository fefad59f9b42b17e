-- What the program says of a run that did not end well.
use Rattle.std.specs.Prelude.{ℕ, Option, Some, None, List, ◌++◌, codes}
use Rattle.std.specs.Fmt.{decimal}
use Rattle.std.specs.Io.KnownBytes.{Appends}
use Rattle.cascade_script.specs.declared.fault.Cause.{Cause}
use Rattle.cascade_script.specs.declared.fault.Cause.TheVariants.{BadCommand, UnknownNode, NameTaken, BadRecord, LimitReached, OutsideSuffix, LaterCookie, Circle, NoMemory}
use Rattle.sync_io.specs.Faults.{CountHasRisen}
use Rattle.sync_io.specs.Sink.{AppendsPrefix}

unfoldable pub usage_text : List ℕ
usage_text = codes "usage: syncrepl cascade | drill SEED WRITERS CONSUMERS SIZE | serve FILE | search ADDRESS BASE SCOPE FILTER [COUNT]\n"

unfoldable pub read_fault_text : List ℕ
read_fault_text = codes "syncrepl: read fault\n"

unfoldable pub write_fault_text : List ℕ
write_fault_text = codes "syncrepl: write fault\n"

-- `LimitReached N`
abbrev pub limit_text : ℕ → List ℕ
limit_text number = codes "LimitReached " ++ decimal number

-- the cookie that is held, or `-` where none is
abbrev pub held_text : Option (List ℕ) → List ℕ
held_text None = codes "-"
held_text (Some text) = text

-- `LaterCookie HELD GIVEN`
abbrev pub later_cookie_text : Option (List ℕ) → List ℕ → List ℕ
later_cookie_text held given = codes "LaterCookie " ++ held_text held ++ codes " " ++ given

-- the name of a cause, with the limit that is passed or the cookies that are compared
unfoldable pub cause_text : Cause → List ℕ
cause_text BadCommand = codes "BadCommand"
cause_text UnknownNode = codes "UnknownNode"
cause_text NameTaken = codes "NameTaken"
cause_text BadRecord = codes "BadRecord"
cause_text (LimitReached number) = limit_text number
cause_text OutsideSuffix = codes "OutsideSuffix"
cause_text (LaterCookie held given) = later_cookie_text held given
cause_text Circle = codes "Circle"
cause_text NoMemory = codes "NoMemory"

-- the place of a refusal and its cause
unfoldable pub refusal_text : ℕ → Cause → List ℕ
refusal_text line cause =
    codes "syncrepl: line " ++ decimal line ++ codes ": " ++ cause_text cause ++ codes "\n"

-- the text was written, or a prefix of it where a write failed
pub record Says (text : List ℕ) (old new : Option (List ℕ)) (before now : ℕ) : Type 0 where
  pub prefix : AppendsPrefix old new text
  pub whole : (CountHasRisen before now → ⊥) → Appends old new text
