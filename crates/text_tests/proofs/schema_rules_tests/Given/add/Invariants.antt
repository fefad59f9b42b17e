use denote.Shadow.{shadow}
use denote.Text.{Utf8}
use Rattle.text_tests.proofs.schema_rules_tests.Given.add.Given as goal

-- the class that is looked for is text
abbrev pub invariant-loop-name : goal.invariant-loop-name
invariant-loop-name l = shadow (Utf8 l.next)
