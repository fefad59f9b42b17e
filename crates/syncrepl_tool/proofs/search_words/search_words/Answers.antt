use Rattle.std.proofs.Common.{◌≡◌, codes, rules, string_bytes}
use Rattle.std.proofs.lemmas.Option.{IfSome_then}
use Rattle.syncrepl_tool.proofs.SearchForms.{rest_is, search_is}
use Rattle.syncrepl_tool.proofs.search_words.search_words.Goals as goal

pub returns-else-ne-clause-some : goal.returns-else-ne-clause-some
returns-else-ne-clause-some c =
    let named : string_bytes c.word-item.result ≡ codes "search" = search rules in
    IfSome_then c.words_of.result c.words_of.ensures.some
    (λ asked is. search_is c.args.words.now c.word-item.result c.address-item.result c.base-item.result c.scope-item.result c.filter-item.result _ _ _ _ _ _ c.in-len5-up.len_at_least
    c.word-item.is c.address-item.is c.base-item.is c.scope-item.is c.filter-item.is (rest_is c.args.words.now) named
    c.as_str-in-len5-up.ensures.value c.as_str-in-len5-up-2.ensures.value c.as_str-in-len5-up-3.ensures.value c.as_str-in-len5-up-4.ensures.value is)
