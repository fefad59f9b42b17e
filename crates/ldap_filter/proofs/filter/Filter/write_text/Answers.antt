-- What is written of a filter is read as the filter.
use Rattle.std.proofs.Common.{◌≡◌, ◌++◌, ap, ◌∙◌}
use Rattle.ldap_filter.specs.Reading.{read_filter}
use Rattle.ldap_filter.specs.FilterTree.{tree_of}
use Rattle.ldap_filter.specs.Writing.{text_of}
use Rattle.ldap_filter.proofs.Texts.{written_read}
use Rattle.ldap_filter.proofs.filter.Filter.write_text.Goals as goal

pub returns-clause-read_again : goal.returns-clause-read_again
returns-clause-read_again c = λ within.
    let tree = tree_of c.args.self.now in
    let text : c.from.result ≡ text_of tree =
    c.from.ensures ∙ c.in_ok-put.ensures.text ∙ ap (λ bytes. bytes ++ text_of tree) c.new-text.ensures.items in
    ap read_filter text ∙ written_read tree c.in_ok-put.ensures.ok c.in_ok-put.ensures.sound within
