-- What comes of the next message of a search, in its refresh or after it.
use Rattle.std.proofs.Common.{◌≡◌, ℕ, Bool, true, false, cond, List, [], ◌∷◌, ◌++◌, Some, None, refl, ap, sym, ◌∙◌, inl, inr, arith, subst, append_assoc}
use Rattle.std.specs.Prelude.{◌⊎◌, Option, All}
use Rattle.csn_cookie.specs.Cookie.{cookie_text}
use Rattle.csn_cookie.specs.declared.cookie.Cookie as csns
use Rattle.entry_tree.specs.State.{ascends}
use Rattle.entry_tree.specs.declared.entry.Entry.{Entry}
use Rattle.sync_model.specs.Copy.{Copy, Answer, refused}
use Rattle.sync_model.specs.Copy.Answer.{Staged}
use Rattle.sync_model.specs.Copy.Fault.{StageFull}
use Rattle.sync_model.specs.Law.{Ascending, IsCut, IsWithinLimits, FillsStage, settled}
use Rattle.sync_model.specs.Message.{CookieText, SyncMessage}
use Rattle.sync_model.specs.Stream.{SyncOperation, Start, RefreshPiece, content_after, last_mark, end_of, refresh, later}
use Rattle.sync_model.specs.Within.{taken_within}
use Rattle.sync_model.proofs.Groups.{heads, tails}
use Rattle.sync_model.proofs.NextMessages.{HasNext, IsMidst, IsEnd, Next, IsStored, some_next}
use Rattle.sync_wire.specs.CanBeSent.{CanBeSent}
use Rattle.sync_wire.proofs.OfSearch.{IsOfSearch, of_phase}
use Rattle.sync_provider.proofs.Past.{StoresContent, IsMidway, IsDone, Comes, past_comes}
use Rattle.sync_provider.proofs.RefreshTaken.{PassesLimit, staged_over, nothing_staged, in_refresh, asking, late, last_deletes, part, last, follows, midst_sent, midst_fits, midst_within, midst_met, midst_fills, midst_refused, end_within}
use Rattle.sync_provider.proofs.Whereabouts.{InRefresh, IsPast, IsWhere}

module _ (operation : SyncOperation) (ascending : Ascending operation) (within : (number : ℕ) → IsWithinLimits (operation.states number)) (sent : (number : ℕ) → All CanBeSent (operation.states number))
    (texts : (number : ℕ) → (cookie : csns.Cookie) × (operation.cookies number ≡ cookie_text cookie)) (start : Start) (opened : ℕ) (pieces : List RefreshPiece) (cut : IsCut operation start opened pieces) (count : ℕ) where
  -- the number of writes at the last piece
  abbrev pub mark : ℕ
  mark = last_mark opened pieces

  -- it is staged, and the search goes on
  pub record StagesOne (entries : List Entry) (held : Copy) (taken ahead : List SyncMessage) (outcome : Copy × Answer) : Type 0 where
    pub answer : outcome.1 ≡ Staged
    pub same : outcome.0.held ≡ entries
    pub cookie : outcome.0.cookie ≡ held.cookie
    pub place : IsWhere operation start opened pieces count entries outcome.0 taken ahead

  -- the search is over with its refresh
  pub record IsOver (ahead : List SyncMessage) (held : Copy) : Type 0 where
    pub ends : operation.persists ≡ false
    pub session : held.session ≡ None
    pub none : ahead ≡ []

  -- or the content after some of the writes is held, with its cookie
  pub record StoresOne (entries : List Entry) (ahead : List SyncMessage) (outcome : Copy × Answer) : Type 0 where
    pub stored : StoresContent operation mark count entries outcome
    pub then : IsPast operation mark count (content_after operation stored.number) outcome.0 ahead ⊎ IsOver ahead outcome.0

  -- or it fills the stage and is refused, where writes came before the last piece
  pub record FillsOne (entries : List Entry) (held : Copy) (before : List SyncMessage) (m : SyncMessage) : Type 0 where
    pub fills : (cookie : Option CookieText) → FillsStage 1 (asking operation.persists entries cookie) before m
    pub refused : taken_within 1 held m ≡ refused held StageFull
    pub later : mark ≡ opened → ⊥

  -- one of the three, and the message is one of a search
  pub record TakesOne (entries : List Entry) (held : Copy) (before : List SyncMessage) (m : SyncMessage) (ahead : List SyncMessage) : Type 0 where
    pub can : IsOfSearch m
    pub comes : StagesOne entries held (before ++ m ∷ []) ahead (taken_within 1 held m) ⊎ (StoresOne entries ahead (taken_within 1 held m) ⊎ FillsOne entries held before m)

  -- ---- in the refresh

  module _ (entries : List Entry) (held : Copy) (before ahead : List SyncMessage) (m : SyncMessage) (rest : List SyncMessage) (is : InRefresh operation start opened pieces count entries held before (m ∷ ahead))
      (some : is.rest ≡ m ∷ rest) (rises : ascends entries ≡ true) where
    abbrev Later : List SyncMessage
    Later = cond operation.persists (later operation mark count) []

    whole : before ++ m ∷ rest ≡ refresh operation start opened pieces
    whole = ap (λ ms. before ++ ms) (sym some) ∙ is.whole

    beyond : ahead ≡ rest ++ Later
    beyond = tails m m ahead (rest ++ Later) (is.beyond ∙ ap (λ ms. ms ++ Later) some)

    abbrev at : Copy
    at = in_refresh operation.persists entries held.cookie before

    same : taken_within 1 held m ≡ taken_within 1 at m
    same = ap (λ c. taken_within 1 c m) is.copy

    abbrev Midst : Type 0
    Midst = IsMidst (part operation start opened pieces) before (last operation start opened pieces) m rest

    staged_comes : Midst → ((cookie : Option CookieText) → taken_within 1 (in_refresh operation.persists entries cookie before) m ≡ (in_refresh operation.persists entries cookie (before ++ m ∷ []), Staged))
        → StagesOne entries held (before ++ m ∷ []) ahead (taken_within 1 held m)
    staged_comes midst now = record {
      answer = ap (λ (o : Copy × Answer). o.1) outcome;
      same = ap (λ (c : Copy). c.held) copy;
      cookie = cookie;
      place = inl (record {
        begins = is.begins;
        rest = rest;
        some = subst HasNext (sym midst.left) (some_next midst.more (last operation start opened pieces));
        whole = append_assoc before (m ∷ []) rest ∙ whole;
        beyond = beyond;
        copy = copy ∙ ap (λ c. in_refresh operation.persists entries c (before ++ m ∷ [])) (sym cookie);
        met = midst_met operation start opened pieces cut ascending entries is.begins before rest m midst is.met now;
      });
    }
      where
        outcome : taken_within 1 held m ≡ (in_refresh operation.persists entries held.cookie (before ++ m ∷ []), Staged)
        outcome = same ∙ now held.cookie

        copy : (taken_within 1 held m).0 ≡ in_refresh operation.persists entries held.cookie (before ++ m ∷ [])
        copy = ap (λ (o : Copy × Answer). o.0) outcome

        cookie : (taken_within 1 held m).0.cookie ≡ held.cookie
        cookie = ap (λ (c : Copy). c.cookie) copy

    filled_comes : Midst → PassesLimit entries (staged_over entries nothing_staged before) m → FillsOne entries held before m
    filled_comes midst passes = record {
      fills = midst_fills operation start opened pieces cut ascending entries is.begins before rest m midst is.met passes;
      refused =
          same
          ∙ midst_refused operation start opened pieces cut ascending entries is.begins before rest m midst passes held.cookie
          ∙ ap (λ c. refused c StageFull) (sym is.copy);
      later = λ none. midst_fits operation start opened pieces cut ascending entries is.begins within none before rest m midst passes;
    }

    midst_comes : Midst → TakesOne entries held before m ahead
    midst_comes midst = record {
      can = midst_sent operation start opened pieces cut sent before rest m midst;
      comes = by (midst_within operation start opened pieces cut ascending entries is.begins before rest m midst);
    }
      where
        by : ((cookie : Option CookieText) → taken_within 1 (in_refresh operation.persists entries cookie before) m ≡ (in_refresh operation.persists entries cookie (before ++ m ∷ []), Staged)) ⊎ PassesLimit entries (staged_over entries nothing_staged before) m
            → StagesOne entries held (before ++ m ∷ []) ahead (taken_within 1 held m) ⊎ (StoresOne entries ahead (taken_within 1 held m) ⊎ FillsOne entries held before m)
        by (inl now) = inl (staged_comes midst now)
        by (inr passes) = inr (inr (filled_comes midst passes))

    end_can : (persists deletes : Bool) → IsOfSearch (end_of persists deletes (operation.cookies mark))
    end_can true deletes = of_phase deletes true (Some (operation.cookies mark)) (texts mark)
    end_can false deletes = inl ((texts mark).0, deletes, refl, ap (λ text. Some (deletes, Some text)) (texts mark).1)

    end_comes : IsEnd (part operation start opened pieces) before (last operation start opened pieces) m rest → TakesOne entries held before m ahead
    end_comes end = record {
      can = subst IsOfSearch (sym end.message) (end_can operation.persists (last_deletes operation start opened pieces (late operation start opened pieces)));
      comes = inr (inl (record {
        stored = record {
          number = mark;
          from = omega arith;
          upto = omega arith;
          commit = now.commit;
          answer = ap (λ (o : Copy × Answer). o.1) same ∙ now.answer;
          text = now.text;
          staged = now.staged;
          held = ap (λ (c : Copy). c.held) copy;
          cookie = ap (λ (c : Copy). c.cookie) copy;
        };
        then = by operation.persists refl;
      }));
    }
      where
        now : IsStored operation.persists entries (content_after operation mark) (operation.cookies mark) (taken_within 1 at m)
        now = end_within operation start opened pieces cut ascending entries is.begins within rises held.cookie before rest m end

        copy : (taken_within 1 held m).0 ≡ settled 1 operation.persists now.ended (content_after operation mark) (Some (operation.cookies mark))
        copy = ap (λ (o : Copy × Answer). o.0) same ∙ now.copy

        left : ahead ≡ Later
        left = beyond ∙ ap (λ ms. ms ++ Later) end.none

        by : (persists : Bool) → operation.persists ≡ persists → IsPast operation mark count (content_after operation mark) (taken_within 1 held m).0 ahead ⊎ IsOver ahead (taken_within 1 held m).0
        by true goes = inl (
          goes,
          inl (record {
            number = mark;
            more = count;
            from = omega arith;
            sum = refl;
            content = refl;
            beyond = left ∙ ap (λ b. cond b (later operation mark count) []) goes;
            ended = now.ended;
            copy =
                copy ∙ ap (λ b. settled 1 b now.ended (content_after operation mark) (Some (operation.cookies mark))) goes
                ∙ ap (λ c. settled 1 true now.ended (content_after operation mark) c) (sym (ap (λ (c : Copy). c.cookie) copy));
          }),
        )
        by false ends = inr (record {
          ends = ends;
          session = ap (λ (c : Copy). c.session) copy ∙ ap (λ b. (settled 1 b now.ended (content_after operation mark) (Some (operation.cookies mark))).session) ends;
          none = left ∙ ap (λ b. cond b (later operation mark count) []) ends;
        })

    refresh_comes : TakesOne entries held before m ahead
    refresh_comes = by (follows operation start opened pieces before rest m whole)
      where
        by : Next (part operation start opened pieces) before (last operation start opened pieces) m rest → TakesOne entries held before m ahead
        by (inl midst) = midst_comes midst
        by (inr end) = end_comes end

  -- ---- anywhere

  -- the next message of a search is taken so, wherever the copy stands
  pub one_comes : (entries : List Entry) (held : Copy) (before ahead : List SyncMessage) (m : SyncMessage) → ascends entries ≡ true → IsWhere operation start opened pieces count entries held before (m ∷ ahead)
      → TakesOne entries held before m ahead
  one_comes entries held before ahead m rises (inl is) = refresh_comes entries held before ahead m is.some.later is (is.some.same ∙ ap (λ x. x ∷ is.some.later) (sym first)) rises
    where
      first : m ≡ is.some.next
      first =
          heads m is.some.next ahead (is.some.later ++ cond operation.persists (later operation mark count) [])
          (is.beyond ∙ ap (λ ms. ms ++ cond operation.persists (later operation mark count) []) is.some.same)
  one_comes entries held before ahead m rises (inr is) = record { can = now.can; comes = by now.comes }
    where
      now : Comes operation ascending within sent texts mark count entries held m ahead
      now = past_comes operation ascending within sent texts mark count entries held m ahead is.1

      by : IsMidway operation ascending within sent texts mark count entries held ahead (taken_within 1 held m) ⊎ IsDone operation ascending within sent texts mark count entries ahead (taken_within 1 held m)
          → StagesOne entries held (before ++ m ∷ []) ahead (taken_within 1 held m) ⊎ (StoresOne entries ahead (taken_within 1 held m) ⊎ FillsOne entries held before m)
      by (inl midway) = inl (record { answer = midway.answer; same = midway.same; cookie = midway.cookie; place = inr (is.0, inr midway.now) })
      by (inr done) = inr (inl (record { stored = done.stored; then = inl (is.0, inl done.now) }))
