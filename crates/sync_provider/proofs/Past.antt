-- What comes of the next message of a search that goes on after its refresh.
use Rattle.std.proofs.Common.{◌≡◌, ℕ, zero, suc, ◌+◌, ◌≤◌, Bool, true, List, [], ◌∷◌, ◌++◌, Option, Some, None, refl, ap, sym, ◌∙◌, inl, inr, arith, subst, append_assoc}
use Rattle.std.specs.Prelude.{◌⊎◌, All}
use Rattle.std.proofs.lemmas.List.Elements.{All-filter}
use Rattle.csn_cookie.specs.Cookie.{cookie_text}
use Rattle.csn_cookie.specs.declared.cookie.Cookie as csns
use Rattle.csn_cookie.proofs.SizeLemmas.{IsText}
use Rattle.entry_tree.specs.Effects.{committed}
use Rattle.entry_tree.specs.Selection.{is_selected}
use Rattle.entry_tree.specs.Touched.{touched}
use Rattle.entry_tree.specs.declared.entry.Entry.{Entry}
use Rattle.entry_tree.specs.declared.touched.EntryChange.{EntryChange}
use Rattle.sync_model.specs.Copy.{Copy, Commit, Answer, commit_of, effected}
use Rattle.sync_model.specs.Copy.Answer.{Staged, Stored}
use Rattle.sync_model.specs.Law.{Ascending, IsWithinLimits, settled}
use Rattle.sync_model.specs.Message.{CookieText, SyncMessage}
use Rattle.sync_model.specs.Stream.{SyncOperation, content_after, notified, notified_all, group, later}
use Rattle.sync_model.specs.Within.{taken_within}
use Rattle.sync_model.proofs.Gather.{Each}
use Rattle.sync_model.proofs.Groups.{heads, tails, each_one, step_is, midway_staged, last_stored}
use Rattle.sync_model.proofs.Later.{IsStep, NotifiedOne, notified_one, stepping, staged_all, each-touched, effected-touched}
use Rattle.sync_model.proofs.LaterWrites.{notified_kind, IsFound, later-first, each-found}
use Rattle.sync_model.proofs.Stages.{fine-none, fine-touched, stage_commits}
use Rattle.sync_model.proofs.Refresh.{ascends-content}
use Rattle.sync_model.proofs.Fitting.{content_within}
use Rattle.sync_wire.specs.CanBeSent.{CanBeSent}
use Rattle.sync_wire.specs.Sending as wire
use Rattle.sync_wire.proofs.Identities.{notified_sent}
use Rattle.sync_wire.proofs.OfSearch.{IsOfSearch}
use Rattle.sync_provider.specs.HandingOut.{turn_of_message}
use Rattle.sync_provider.specs.HandingOut.HandOut.{Hands}
use Rattle.sync_provider.proofs.Whereabouts.{AtWhole, InGroup}

-- it is handed out, and the search goes on
pub notified_hands : (cookie : Option CookieText) (entry_change : EntryChange) (one : NotifiedOne cookie entry_change) → turn_of_message 1 one.message ≡ Hands (wire.sent 1 one.message)
notified_hands cookie entry_change one =
    notified_kind (λ m. turn_of_message 1 m ≡ Hands (wire.sent 1 m)) cookie entry_change.uuid entry_change.before entry_change.after one.message one.is (λ adds e is. refl) (λ e is. refl)

-- ---- the next message

-- a message after which the content after some of the writes is held, with its cookie
pub record StoresContent (operation : SyncOperation) (opened count : ℕ) (entries : List Entry) (outcome : Copy × Answer) : Type 0 where
  pub number : ℕ
  pub from : opened ≤ number
  pub upto : number ≤ opened + count
  pub commit : Commit
  pub answer : outcome.1 ≡ Stored commit
  pub text : commit.cookie ≡ Some (operation.cookies number)
  pub staged : committed entries commit.puts commit.drops ≡ content_after operation number
  pub held : outcome.0.held ≡ content_after operation number
  pub cookie : outcome.0.cookie ≡ Some (operation.cookies number)

module _ (operation : SyncOperation) (ascending : Ascending operation) (within : (number : ℕ) → IsWithinLimits (operation.states number)) (sent : (number : ℕ) → All CanBeSent (operation.states number))
    (texts : (number : ℕ) → (cookie : csns.Cookie) × (operation.cookies number ≡ cookie_text cookie)) (opened count : ℕ) where
  sent_at : (number : ℕ) → All CanBeSent (content_after operation number)
  sent_at number = All-filter (is_selected operation.selection) CanBeSent (operation.states number) (sent number)

  -- a write that changes nothing of the content
  pub still : (number : ℕ) → touched (content_after operation number) (content_after operation (number + 1)) ≡ [] → content_after operation number ≡ content_after operation (number + 1)
  still number none =
      ap (λ entry_changes. effected (content_after operation number) (staged_all [] entry_changes)) (sym none)
      ∙ effected-touched (content_after operation number) (content_after operation (number + 1)) (ascends-content operation ascending number) (ascends-content operation ascending (number + 1))

  -- the first message of later writes is of the first write that changes the content
  pub first_group : (more number : ℕ) (entries : List Entry) (held : Copy) (m : SyncMessage) (rest : List SyncMessage) (ended : Bool) → opened ≤ number → number + more ≡ opened + count
      → entries ≡ content_after operation number → later operation number more ≡ m ∷ rest → held ≡ settled 1 true ended entries held.cookie
      → InGroup operation opened count entries held (m ∷ rest)
  first_group zero number entries held m rest ended from sum content is copy = let never : ⊥ = cc in absurd never
  first_group (suc more) number entries held m rest ended from sum content is copy = by (first_group more (number + 1) entries held m rest ended) (touched (content_after operation number) (content_after operation (number + 1))) refl
    where
      whole : group operation number ++ later operation (number + 1) more ≡ m ∷ rest
      whole = sym (later-first more operation number) ∙ is

      by : (opened ≤ number + 1 → number + 1 + more ≡ opened + count → entries ≡ content_after operation (number + 1) → later operation (number + 1) more ≡ m ∷ rest → held ≡ settled 1 true ended entries held.cookie
          → InGroup operation opened count entries held (m ∷ rest))
          → (entry_changes : List EntryChange) → touched (content_after operation number) (content_after operation (number + 1)) ≡ entry_changes → InGroup operation opened count entries held (m ∷ rest)
      by further [] none =
          further (omega (arith, from)) (omega (arith, sum)) (content ∙ still number none)
          (ap (λ entry_changes. notified_all (operation.cookies (number + 1)) entry_changes ++ later operation (number + 1) more) (sym none) ∙ whole) copy
      by further (entry_change ∷ after) some = record {
        number = number;
        more = more;
        from = from;
        sum = omega (arith, sum);
        content = content;
        before = [];
        entry_change = entry_change;
        after = after;
        at = some;
        beyond = sym whole ∙ ap (λ entry_changes. notified_all (operation.cookies (number + 1)) entry_changes ++ later operation (number + 1) more) some;
        ended = ended;
        copy = copy;
      }

  -- it is staged, and more of its write follows
  pub record IsMidway (entries : List Entry) (held : Copy) (rest : List SyncMessage) (outcome : Copy × Answer) : Type 0 where
    pub answer : outcome.1 ≡ Staged
    pub same : outcome.0.held ≡ entries
    pub cookie : outcome.0.cookie ≡ held.cookie
    pub now : InGroup operation opened count entries outcome.0 rest

  -- or it is the last of its write, after which the content is held, with its cookie
  pub record IsDone (entries : List Entry) (rest : List SyncMessage) (outcome : Copy × Answer) : Type 0 where
    pub stored : StoresContent operation opened count entries outcome
    pub now : AtWhole operation opened count (content_after operation stored.number) outcome.0 rest

  -- and it can be carried
  pub record Comes (entries : List Entry) (held : Copy) (m : SyncMessage) (rest : List SyncMessage) : Type 0 where
    pub can : IsOfSearch m
    pub hands : turn_of_message 1 m ≡ Hands (wire.sent 1 m)
    pub comes : IsMidway entries held rest (taken_within 1 held m) ⊎ IsDone entries rest (taken_within 1 held m)

  module _ (entries : List Entry) (held : Copy) (m : SyncMessage) (rest : List SyncMessage) (is : InGroup operation opened count entries held (m ∷ rest)) where
    abbrev old : List Entry
    old = content_after operation is.number

    abbrev new : List Entry
    new = content_after operation (is.number + 1)

    abbrev text : CookieText
    text = operation.cookies (is.number + 1)

    found : IsFound old new is.entry_change
    found = each_one (IsFound old new) is.before is.after is.entry_change (subst (Each (IsFound old new)) is.at (each-found old new))

    step : IsStep is.entry_change
    step = step_is old new (ascends-content operation ascending is.number) (ascends-content operation ascending (is.number + 1)) (content_within operation ascending within (is.number + 1)) is.before is.after is.entry_change is.at

    of_search : (cookie : Option CookieText) (one : NotifiedOne cookie is.entry_change) → IsText cookie → IsOfSearch one.message
    of_search cookie one can = notified_sent old new cookie is.entry_change one (sent_at is.number) (sent_at (is.number + 1)) can found

    same_copy : held ≡ stepping 1 is.ended old held.cookie (staged_all [] is.before)
    same_copy = is.copy ∙ ap (λ es. stepping 1 is.ended es held.cookie (staged_all [] is.before)) is.content

    last_comes : is.after ≡ [] → Comes entries held m rest
    last_comes none = record {
      can = subst IsOfSearch here (of_search (Some text) one (texts (is.number + 1)));
      hands = subst (λ x. turn_of_message 1 x ≡ Hands (wire.sent 1 x)) here (notified_hands (Some text) is.entry_change one);
      comes = inr (record {
        stored = record {
          number = is.number + 1;
          from = omega (arith, is.from);
          upto = omega (arith, is.sum);
          commit = commit_of (staged_all [] (is.before ++ is.entry_change ∷ [])) (Some text);
          answer = ap (λ (o : Copy × Answer). o.1) outcome;
          text = refl;
          staged =
              ap (λ es. committed es now_staged.puts now_staged.drops) is.content
              ∙ stage_commits old (staged_all [] (is.before ++ is.entry_change ∷ [])) (ascends-content operation ascending is.number)
              (fine-touched (is.before ++ is.entry_change ∷ []) [] (subst (Each IsStep) touched_is (each-touched old new)) fine-none)
              ∙ ap (λ entry_changes. effected old (staged_all [] entry_changes)) (sym touched_is)
              ∙ effected-touched old new (ascends-content operation ascending is.number) (ascends-content operation ascending (is.number + 1));
          held = ap (λ (o : Copy × Answer). o.0.held) outcome;
          cookie = ap (λ (o : Copy × Answer). o.0.cookie) outcome;
        };
        now = record {
          number = is.number + 1;
          more = is.more;
          from = omega (arith, is.from);
          sum = is.sum;
          content = refl;
          beyond = left;
          ended = is.ended;
          copy = ap (λ (o : Copy × Answer). o.0) outcome ∙ ap (λ c. settled 1 true is.ended new c) (sym (ap (λ (o : Copy × Answer). o.0.cookie) outcome));
        };
      });
    }
      where
        now_staged : Commit
        now_staged = commit_of (staged_all [] (is.before ++ is.entry_change ∷ [])) (Some text)

        touched_is : touched old new ≡ is.before ++ is.entry_change ∷ []
        touched_is = is.at ∙ ap (λ entry_changes. is.before ++ is.entry_change ∷ entry_changes) none

        one : NotifiedOne (Some text) is.entry_change
        one = notified_one (Some text) is.entry_change step

        whole : m ∷ rest ≡ one.message ∷ later operation (is.number + 1) is.more
        whole = is.beyond ∙ ap (λ entry_changes. notified_all text (is.entry_change ∷ entry_changes) ++ later operation (is.number + 1) is.more) none ∙ ap (λ ms. ms ++ later operation (is.number + 1) is.more) one.is

        here : one.message ≡ m
        here = sym (heads m one.message rest (later operation (is.number + 1) is.more) whole)

        left : rest ≡ later operation (is.number + 1) is.more
        left = tails m one.message rest (later operation (is.number + 1) is.more) whole

        outcome : taken_within 1 held m ≡ (settled 1 true is.ended new (Some text), Stored (commit_of (staged_all [] (is.before ++ is.entry_change ∷ [])) (Some text)))
        outcome =
            ap (λ c. taken_within 1 c m) same_copy
            ∙ ap (taken_within 1 (stepping 1 is.ended old held.cookie (staged_all [] is.before))) (sym here)
            ∙ last_stored old new (ascends-content operation ascending is.number) (ascends-content operation ascending (is.number + 1)) (content_within operation ascending within (is.number + 1)) is.before is.entry_change text one is.ended held.cookie
            touched_is

    more_comes : (next : EntryChange) (after : List EntryChange) → is.after ≡ next ∷ after → Comes entries held m rest
    more_comes next after some = record {
      can = subst IsOfSearch here (of_search None one tt);
      hands = subst (λ x. turn_of_message 1 x ≡ Hands (wire.sent 1 x)) here (notified_hands None is.entry_change one);
      comes = inl (record {
        answer = ap (λ (o : Copy × Answer). o.1) outcome;
        same = ap (λ (o : Copy × Answer). o.0.held) outcome ∙ sym is.content;
        cookie = ap (λ (o : Copy × Answer). o.0.cookie) outcome;
        now = record {
          number = is.number;
          more = is.more;
          from = is.from;
          sum = is.sum;
          content = is.content;
          before = is.before ++ is.entry_change ∷ [];
          entry_change = next;
          after = after;
          at = is.at ∙ ap (λ entry_changes. is.before ++ is.entry_change ∷ entry_changes) some ∙ sym (append_assoc is.before (is.entry_change ∷ []) (next ∷ after));
          beyond = left;
          ended = is.ended;
          copy =
              ap (λ (o : Copy × Answer). o.0) outcome
              ∙ (λ i. stepping 1 is.ended (sym is.content i) (sym (ap (λ (o : Copy × Answer). o.0.cookie) outcome) i) (staged_all [] (is.before ++ is.entry_change ∷ [])));
        };
      });
    }
      where
        one : NotifiedOne None is.entry_change
        one = notified_one None is.entry_change step

        whole : m ∷ rest ≡ one.message ∷ (notified_all text (next ∷ after) ++ later operation (is.number + 1) is.more)
        whole =
            is.beyond ∙ ap (λ entry_changes. notified_all text (is.entry_change ∷ entry_changes) ++ later operation (is.number + 1) is.more) some
            ∙ ap (λ ms. (ms ++ notified_all text (next ∷ after)) ++ later operation (is.number + 1) is.more) one.is

        here : one.message ≡ m
        here = sym (heads m one.message rest (notified_all text (next ∷ after) ++ later operation (is.number + 1) is.more) whole)

        left : rest ≡ notified_all text (next ∷ after) ++ later operation (is.number + 1) is.more
        left = tails m one.message rest (notified_all text (next ∷ after) ++ later operation (is.number + 1) is.more) whole

        outcome : taken_within 1 held m ≡ (stepping 1 is.ended old held.cookie (staged_all [] (is.before ++ is.entry_change ∷ [])), Staged)
        outcome =
            ap (λ c. taken_within 1 c m) same_copy
            ∙ ap (taken_within 1 (stepping 1 is.ended old held.cookie (staged_all [] is.before))) (sym here)
            ∙ midway_staged old new (ascends-content operation ascending is.number) (ascends-content operation ascending (is.number + 1)) (content_within operation ascending within (is.number + 1)) is.before is.after is.entry_change one is.ended held.cookie is.at

    -- it is one of the messages of a later write
    pub group_comes : Comes entries held m rest
    group_comes = by is.after refl
      where
        by : (after : List EntryChange) → is.after ≡ after → Comes entries held m rest
        by [] none = last_comes none
        by (next ∷ after) some = more_comes next after some

  -- the next message of a search after its refresh
  pub past_comes : (entries : List Entry) (held : Copy) (m : SyncMessage) (rest : List SyncMessage) → AtWhole operation opened count entries held (m ∷ rest) ⊎ InGroup operation opened count entries held (m ∷ rest)
      → Comes entries held m rest
  past_comes entries held m rest (inl is) =
      group_comes entries held m rest (first_group is.more is.number entries held m rest is.ended is.from is.sum is.content (sym is.beyond) is.copy)
  past_comes entries held m rest (inr is) = group_comes entries held m rest is

  -- a write that changes the content reports something
  empty_notified : (cookie : Option CookieText) (t : EntryChange) (ms : List SyncMessage) → IsStep t → notified cookie t.uuid t.before t.after ++ ms ≡ [] → ⊥
  empty_notified cookie t ms is same = let one = notified_one cookie t is in let bad : one.message ∷ ms ≡ [] = ap (λ xs. xs ++ ms) (sym one.is) ∙ same in cc

  empty_all : (cookie : CookieText) (t : EntryChange) (after : List EntryChange) (ms : List SyncMessage) → IsStep t → notified_all cookie (t ∷ after) ++ ms ≡ [] → ⊥
  empty_all cookie t [] ms is same = empty_notified (Some cookie) t ms is same
  empty_all cookie t (next ∷ after) ms is same =
      empty_notified None t (notified_all cookie (next ∷ after) ++ ms) is (sym (append_assoc (notified None t.uuid t.before t.after) (notified_all cookie (next ∷ after)) ms) ∙ same)

  -- in the midst of a write something is left
  pub group_filled : (entries : List Entry) (held : Copy) → InGroup operation opened count entries held [] → ⊥
  group_filled entries held is =
      empty_all (operation.cookies (is.number + 1)) is.entry_change is.after (later operation (is.number + 1) is.more)
      (step_is (content_after operation is.number) (content_after operation (is.number + 1)) (ascends-content operation ascending is.number) (ascends-content operation ascending (is.number + 1)) (content_within operation ascending within (is.number + 1)) is.before is.after is.entry_change is.at)
      (sym is.beyond)

  -- where none is left, the entries are those after all the writes
  pub none_left : (more number : ℕ) → later operation number more ≡ [] → content_after operation number ≡ content_after operation (number + more)
  none_left zero number none = let same : number ≡ number + 0 = omega arith in ap (content_after operation) same
  none_left (suc more) number none = by (none_left more (number + 1)) (touched (content_after operation number) (content_after operation (number + 1))) refl
    where
      whole : group operation number ++ later operation (number + 1) more ≡ []
      whole = sym (later-first more operation number) ∙ none

      by : (later operation (number + 1) more ≡ [] → content_after operation (number + 1) ≡ content_after operation (number + 1 + more))
          → (entry_changes : List EntryChange) → touched (content_after operation number) (content_after operation (number + 1)) ≡ entry_changes → content_after operation number ≡ content_after operation (number + suc more)
      by further [] nothing =
          let same : number + 1 + more ≡ number + suc more = omega arith in
          still number nothing
          ∙ further (ap (λ entry_changes. notified_all (operation.cookies (number + 1)) entry_changes ++ later operation (number + 1) more) (sym nothing) ∙ whole)
          ∙ ap (content_after operation) same
      by further (entry_change ∷ after) some =
          absurd
          (empty_all (operation.cookies (number + 1)) entry_change after (later operation (number + 1) more)
          (step_is (content_after operation number) (content_after operation (number + 1)) (ascends-content operation ascending number) (ascends-content operation ascending (number + 1)) (content_within operation ascending within (number + 1)) [] after entry_change some)
          (ap (λ entry_changes. notified_all (operation.cookies (number + 1)) entry_changes ++ later operation (number + 1) more) (sym some) ∙ whole))
