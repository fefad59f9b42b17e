use Rattle.shared_directory.proofs.First.{first_is, counted_numbered}
use Rattle.shared_directory.proofs.numbered.NumberedProvider.new.Goals as goal

pub invariant_of-result : goal.invariant_of-result
invariant_of-result c =
    counted_numbered c.args.provider c.journal_len.result c.new.result.items c.journal_len.ensures.value c.new.ensures.items
    c.journal_len.ensures.journalled

pub returns : goal.returns
returns c = first_is c.args.provider c.journal_len.result c.new.result.items c.journal_len.ensures.value c.new.ensures.items
