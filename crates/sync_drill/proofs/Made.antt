-- What a copy made of the items that were taken.
use Rattle.std.proofs.Common.{ℕ, List, [], ◌∷◌, ◌++◌, sym, ap, ◌∙◌, subst}
use Rattle.std.proofs.lemmas.List.Sums.{fold-append}
use Rattle.std.proofs.lemmas.Slice.Zip.{all_zipped_more}
use Rattle.ldap_messages.specs.declared.message.Message.{Message}
use Rattle.sync_model.specs.Copy.{Copy}
use Rattle.sync_consumer.specs.Taking.{nothing, taken_of}
use Rattle.sync_drill.specs.Delivered.{IsMadeOf, IsReadFrom, TakesItem, WasTaken, WereTaken, with_search, after_message, copy_after}

-- one message more was taken
fit-more : (messages : List Message) (message : Message) (copy : Copy) → WereTaken copy messages → WasTaken (taken_of (with_search (copy_after copy messages).session (copy_after copy messages)) message).1 → WereTaken copy (messages ++ message ∷ [])
fit-more [] message copy fit fits = (fits, tt)
fit-more (first ∷ messages) message copy fit fits = (fit.0, fit-more messages message (after_message copy first) fit.1 fits)

-- one item more
pub made-more : (items : List (List ℕ)) (item : List ℕ) (before after : Copy) → IsMadeOf items before → TakesItem before item after
    → IsMadeOf (items ++ item ∷ []) after
made-more items item before after made takes = record {
  messages = made.messages ++ takes.taken ∷ [];
  read = all_zipped_more IsReadFrom items made.messages item takes.taken made.read takes.read;
  is = takes.is
      ∙ ap (λ copy. after_message copy takes.taken) made.is
      ∙ sym (fold-append after_message nothing made.messages (takes.taken ∷ []));
  fit = fit-more made.messages takes.taken nothing made.fit (subst (λ copy. WasTaken (taken_of (with_search copy.session copy) takes.taken).1) made.is takes.fits);
}
