-- Messages that a copy takes, one more.
use Rattle.std.proofs.Common.{◌≡◌, ◌+◌, ℕ, List, [], ◌∷◌, ◌++◌, refl, sym, ap, subst, ◌∙◌, append_assoc, arith}
use Rattle.std.proofs.lemmas.List.{append-nil}
use Rattle.ldap_messages.specs.Whole.{MessageValue, message_value}
use Rattle.ldap_messages.specs.declared.message.Message.{Message}
use Rattle.sync_consumer.specs.Taking as taking
use Rattle.sync_consumer.specs.declared.consumer.Taken.{Taken}
use Rattle.sync_model.specs.Copy.{Copy}
use Rattle.ldap_search.specs.Copies.{GoesOn, TakenMessage, TakesAll, stored_count, stored_in, taken_text, taken_texts, values_of}

abbrev pub taken_as : Message → Taken → Copy → TakenMessage
taken_as message taken after = record { message = message; taken = taken; copy = after }

-- a copy takes one message more
pub takes_more : (copy mid after : Copy) (messages : List TakenMessage) (message : Message) (taken : Taken)
    → TakesAll copy messages mid → taking.Takes mid message after taken → GoesOn taken → TakesAll copy (messages ++ taken_as message taken after ∷ []) after
takes_more copy mid after [] message taken is takes goes = (subst (λ (c : Copy). taking.Takes c message after taken) is takes, goes, refl)
takes_more copy mid after (one ∷ more) message taken all takes goes = (all.0, all.1, takes_more one.copy mid after more message taken all.2 takes goes)

-- and it stands after those that were taken
pub values_more : (messages : List TakenMessage) (one : TakenMessage) → values_of (messages ++ one ∷ []) ≡ values_of messages ++ message_value one.message ∷ []
values_more [] one = refl
values_more (first ∷ more) one = ap (λ (values : List MessageValue). message_value first.message ∷ values) (values_more more one)

-- its text follows the texts of those
pub texts_more : (messages : List TakenMessage) (one : TakenMessage) → taken_texts (messages ++ one ∷ []) ≡ taken_texts messages ++ taken_text one
texts_more [] one = append-nil (taken_text one)
texts_more (first ∷ more) one =
    ap (λ (text : List ℕ). taken_text first ++ text) (texts_more more one) ∙ sym (append_assoc (taken_text first) (taken_texts more) (taken_text one))

-- a cookie that it stores is one more
pub count_more : (messages : List TakenMessage) (one : TakenMessage) → stored_count (messages ++ one ∷ []) ≡ stored_count messages + stored_in one.taken
count_more [] one = omega arith
count_more (first ∷ more) one = omega (arith, count_more more one)
