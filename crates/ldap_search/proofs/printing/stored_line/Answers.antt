use Rattle.std.proofs.Common.{ap, length, string_bytes, ◌∙◌}
use Rattle.std.proofs.lemmas.Result.{IfOk-weaker}
use Rattle.sync_consumer.specs.Taking.{ConsumerState}
use Rattle.ldap_search.proofs.Storing.{stored_of}
use Rattle.ldap_search.proofs.printing.stored_line.Goals as goal

pub returns-clause-line : goal.returns-clause-line
returns-clause-line c =
    let count = c.len-count.ensures ∙ ap length (c.entries.ensures ∙ ap (λ (s : ConsumerState). s.copy.held) (c.inner.ensures ∙ c.digest.ensures.same)) in
    let digits = rw c.as_slice.ensures at c.in_ok-digits.ensures in
    IfOk-weaker c.format.result _ _
    (λ line is. is ∙ stored_of c.args.consumer.now.copy.held c.len-count.result (string_bytes c.in_ok-digits.digits) c.in_ok-digest.digest count c.in_ok-digest.ensures.digest digits)
    c.format.ensures.ok
