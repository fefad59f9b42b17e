-- What a plain search answers (RFC 4511, sections 4.5.1.4 and 4.5.2).
use Rattle.std.specs.Prelude.{ℕ, Bool, ◌&&◌, nat_lt, List, length, take, is_some, if◌then◌else◌}
use Rattle.entry_tree.specs.declared.entry.Entry.{Entry}
use Rattle.entry_tree.specs.Selection.{search_of, select}
use Rattle.entry_tree.specs.State.{entry_named}
use Rattle.sync_provider.specs.declared.searching.PlainSearch.{PlainSearch}
use Rattle.sync_provider.specs.declared.searching.SearchReply.{SearchReply}
use Rattle.sync_provider.specs.declared.searching.SearchReply.TheVariants.{Found, Over, NoSuchBase}

-- more are found than a limit that is not 0 allows
abbrev pub is_over : (limit : ℕ) → List Entry → Bool
is_over limit found = nat_lt 0 limit && nat_lt limit (length found)

-- the first of those that are found, where they are too many
abbrev pub limited : (limit : ℕ) → List Entry → SearchReply
limited limit found = if is_over limit found then Over (take limit found) else Found found

-- what is selected of these entries, where one of them has the base's name
abbrev pub reply_to : List Entry → PlainSearch → SearchReply
reply_to entries ask =
    if is_some (entry_named entries ask.spec.base)
    then limited ask.size_limit (select (search_of ask.spec) entries)
    else NoSuchBase
