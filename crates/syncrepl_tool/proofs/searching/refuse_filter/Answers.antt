use Rattle.syncrepl_tool.specs.Searching.{filter_fault_text}
use Rattle.syncrepl_tool.proofs.searching.refuse_filter.Goals as goal

pub returns-in-BadFilter-clause-says : goal.returns-in-BadFilter-clause-says
unfolding filter_fault_text
returns-in-BadFilter-clause-says g c = rw c.in-BadFilter.is c.end_with.ensures.says

pub returns-in-TooDeep-clause-says : goal.returns-in-TooDeep-clause-says
unfolding filter_fault_text
returns-in-TooDeep-clause-says g c = rw c.in-TooDeep.is c.end_with-in-TooDeep.ensures.says

pub returns-in-NoText-clause-says : goal.returns-in-NoText-clause-says
unfolding filter_fault_text
returns-in-NoText-clause-says g c = rw c.in-NoText.is c.end_with-in-NoText.ensures.says

pub returns-in-NoMemory-clause-says : goal.returns-in-NoMemory-clause-says
unfolding filter_fault_text
returns-in-NoMemory-clause-says g c = rw c.in-NoMemory.is c.end_with-in-NoMemory.ensures.says
