-- The half of a consumer that takes messages, as it goes on.
use Rattle.std.proofs.Common.{◌≡◌, ◌<◌, ℕ, true, false, List, [], ◌∷◌, ◌++◌, length, Option, Some, None, refl, sym, ap, ◌∙◌, subst, arith, append_assoc}
use mathlib.Core.List.{IsPrefix}
use Rattle.std.specs.Prelude.{is_some}
use Rattle.std.proofs.lemmas.Bool.{false≢true}
use Rattle.link_rings.specs.Ends.{taken}
use Rattle.ldap_messages.specs.declared.message.Message.{Message}
use Rattle.sync_model.specs.Copy.{Copy, SyncSession, asked}
use Rattle.sync_model.proofs.Groups.{heads, tails}
use Rattle.sync_consumer.specs.Taking.{ConsumerState, Takes, taken_of}
use Rattle.sync_consumer.specs.declared.consumer.Taken.{Taken}
use Rattle.sync_consumer.specs.declared.consumer.Taken.TheVariants.{Staged, Stored, Copied, Over, Fault, NoMemory}
use Rattle.sync_drill.specs.Delivered.{TakesItem, WasTaken, search_id, with_search}
use Rattle.sync_drill.specs.Handing.{HasTaken}
use Rattle.sync_drill.specs.Halves.{TakingGoes}
use Rattle.sync_drill.specs.declared.taking.Taking.{Taking}
use Rattle.sync_drill.proofs.Made.{made-more}
use Rattle.sync_drill.proofs.Rings.{consumer-twice, same-consumer}

-- a half that does nothing
pub taking-stays : (t : Taking) → HasTaken t.consumer t.copy (taken t.end) → TakingGoes t t
taking-stays t has = record { consumer = refl; ring = same-consumer t.end; copy = λ fine. has }

-- two steps in a row
pub taking-twice : (old mid new : Taking) → TakingGoes old mid → TakingGoes mid new → TakingGoes old new
taking-twice old mid new first second = record {
  consumer = second.consumer ∙ first.consumer;
  ring = consumer-twice old.end mid.end new.end first.ring second.ring;
  copy = second.copy;
}

-- one item more
pub taken-more : (consumer : ℕ) (old new : ConsumerState) (items : List (List ℕ)) (item : List ℕ) → HasTaken consumer old items
    → TakesItem old.copy item new.copy → new.spec ≡ old.spec → HasTaken consumer new (items ++ item ∷ [])
taken-more consumer old new items item has takes same = record {
  spec = same ∙ has.spec;
  made = made-more items item old.copy new.copy has.made takes;
}

-- of equal values
pub taken-as : (consumer other : ℕ) (copy : ConsumerState) (items more : List (List ℕ)) → other ≡ consumer → more ≡ items
    → HasTaken consumer copy items → HasTaken other copy more
taken-as consumer other copy items more same_consumer same_items has =
    subst (λ n. HasTaken n copy more) (sym same_consumer) (subst (HasTaken consumer copy) (sym same_items) has)

-- ---- items that it knows of

-- an end that knows of an item knows of some
pub knows_some : (item : List ℕ) (rest known : List (List ℕ)) → IsPrefix (item ∷ rest) known → 0 < length known
knows_some item rest known prefix = subst (λ items. 0 < length items) prefix.1 (omega arith)

-- the item that is taken is the first of them, and the others are known still
pub record IsNextKnown (item first : List ℕ) (rest after : List (List ℕ)) : Type 0 where
  pub same : first ≡ item
  pub more : IsPrefix rest after

-- what it knows of after it took the first
pub known_next : (item first : List ℕ) (rest before after : List (List ℕ)) → IsPrefix (item ∷ rest) before → IsPrefix before (first ∷ after)
    → IsNextKnown item first rest after
known_next item first rest before after known shown =
    let all : item ∷ ((rest ++ known.0) ++ shown.0) ≡ first ∷ after = ap (λ items. items ++ shown.0) known.1 ∙ shown.1 in record {
      same = sym (heads item first ((rest ++ known.0) ++ shown.0) after all);
      more = (
        known.0 ++ shown.0,
        sym (append_assoc rest known.0 shown.0) ∙ tails item first ((rest ++ known.0) ++ shown.0) after all,
      );
    }

-- ---- a message

-- a search that runs is gone on with
pub goes_on_with : (copy : Copy) → is_some copy.session ≡ true → copy ≡ with_search copy.session copy
goes_on_with copy runs = by copy.session refl
  where
    by : (session : Option SyncSession) → copy.session ≡ session → copy ≡ with_search copy.session copy
    by None is = absurd (false≢true (sym (ap is_some is) ∙ runs))
    by (Some session) is = ap (λ found. with_search found copy) (sym is)

-- where none runs one is asked for
pub asks_anew : (copy : Copy) → is_some copy.session ≡ false → asked search_id true copy ≡ with_search copy.session copy
asks_anew copy none = by copy.session refl
  where
    by : (session : Option SyncSession) → copy.session ≡ session → asked search_id true copy ≡ with_search copy.session copy
    by None is = ap (λ found. with_search found copy) (sym is)
    by (Some session) is = absurd (false≢true (sym none ∙ ap is_some is))

-- what comes of a message that was taken
pub took : (before after : Copy) (message : Message) (result : Taken) → Takes before message after result → WasTaken result → (after, result) ≡ taken_of before message
took before after message Staged takes was = takes
took before after message (Stored commit) takes was = takes
took before after message (Copied commit) takes was = takes
took before after message (Over code) takes was = takes
took before after message (Fault fault) takes was = absurd was
took before after message NoMemory takes was = absurd was
