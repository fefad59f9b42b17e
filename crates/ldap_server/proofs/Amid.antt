-- Events, one after the other.
use Rattle.std.proofs.Common.{◌≡◌, ◌≢◌, ℕ, List, [], ◌∷◌, ◌++◌, Option, Some, None, refl, sym, ap, subst, ◌∙◌, append_assoc}
use Rattle.std.specs.Prelude.{IsSome}
use Rattle.std.proofs.lemmas.List.{append-nil}
use Rattle.ldap_session.proofs.Ends.{end-on, end-over, until-on, until-over}
use Rattle.ldap_session.specs.Acts.{Act, acts_at, acts_from, end_among, kept_after, until_end}
use Rattle.ldap_session.specs.declared.access.Access.{Access}
use Rattle.ldap_session.specs.declared.ended.Ended.{Ended}
use Rattle.ldap_session.specs.declared.ended.Ended.TheVariants.{NoMemory}
use Rattle.ldap_session.specs.declared.event.LinkEvent.{LinkEvent}
use Rattle.ldap_server.specs.Points.{Point}
use Rattle.ldap_server.specs.Session.{Connected, DoesActs, RunsOutOfMemory, HandlesEvent, ActsOn, HandlesEvents, point_of}
use Rattle.ldap_server.proofs.Events.{does-append, halts-append, halts_more, none_some}

-- ---- what was sent before

abbrev after_sent : List ℕ → Point → Point
after_sent before p = record { port = p.port; session = p.session; sent = before ++ p.sent }

goes_after : (access : Access) (before : List ℕ) (acts : List Act) (old new : Point)
    → DoesActs access old acts new → DoesActs access (after_sent before old) acts (after_sent before new)
goes_after access before [] old new does = ap (λ p. after_sent before p) does
goes_after access before (act ∷ acts) old new does =
    let s = does.1 in (
      after_sent before does.0,
      record {
        asked = s.asked;
        octets = s.octets;
        act = s.act;
        exchanged = s.exchanged;
        sent_is = ap (λ xs. before ++ xs) s.sent_is ∙ sym (append_assoc before old.sent s.octets);
      },
      goes_after access before acts does.0 new does.2,
    )

-- the same acts where bytes were sent before
pub goes_from : (access : Access) (old new : Connected) (bytes more : List ℕ) (acts : List Act)
    → DoesActs access (point_of old []) acts (point_of new more) → DoesActs access (point_of old bytes) acts (point_of new (bytes ++ more))
goes_from access old new bytes more acts does =
    let from : List ℕ → Point = λ sent. point_of old sent in
    subst (λ sent. DoesActs access (from sent) acts (point_of new (bytes ++ more))) (append-nil bytes)
    (goes_after access bytes acts (point_of old []) (point_of new more) does)

halts_from : (access : Access) (old new : Connected) (bytes more : List ℕ) (acts : List Act)
    → RunsOutOfMemory access (point_of old []) acts (point_of new more) → RunsOutOfMemory access (point_of old bytes) acts (point_of new (bytes ++ more))
halts_from access old new bytes more acts h =
    let from : List ℕ → Point = λ sent. point_of old sent in
    record {
      done = h.done;
      later = h.later;
      acts_are = h.acts_are;
      between = after_sent bytes h.between;
      does = subst (λ sent. DoesActs access (from sent) h.done (after_sent bytes h.between)) (append-nil bytes)
          (goes_after access bytes h.done (point_of old []) h.between h.does);
      asked = h.asked;
      exchanged = h.exchanged;
      sent_is = ap (λ xs. bytes ++ xs) h.sent_is;
    }

-- ---- a run of events

-- some of the events have come, and these are left
pub record Amid (old : Connected) (events left : List LinkEvent) (bytes : List ℕ) (now : Connected) : Type 0 where
  pub access_is : now.access ≡ old.access
  pub goes_on : old.ended ≡ None → now.ended ≡ None → (end : Point)
      → DoesActs old.access (point_of now bytes) (until_end (acts_from now.kept left)) end
      → DoesActs old.access (point_of old []) (until_end (acts_from old.kept events)) end
  pub halts_on : old.ended ≡ None → now.ended ≡ None → (end : Point)
      → RunsOutOfMemory old.access (point_of now bytes) (until_end (acts_from now.kept left)) end
      → RunsOutOfMemory old.access (point_of old []) (until_end (acts_from old.kept events)) end
  pub ends_on : old.ended ≡ None → now.ended ≡ None
      → end_among (acts_from old.kept events) ≡ end_among (acts_from now.kept left)
  pub over : old.ended ≡ None → IsSome now.ended → now.ended ≢ Some NoMemory
      → DoesActs old.access (point_of old []) (until_end (acts_from old.kept events)) (point_of now bytes)
      × (now.ended ≡ end_among (acts_from old.kept events))
  pub stopped : old.ended ≡ None → now.ended ≡ Some NoMemory
      → RunsOutOfMemory old.access (point_of old []) (until_end (acts_from old.kept events)) (point_of now bytes)

some_is : {X : Type 0} (o : Option X) → IsSome o → (x : X) × (o ≡ Some x)
some_is None s = absurd cc
some_is (Some x) s = (x, refl)

is_some_by : {X : Type 0} (o : Option X) (x : X) → o ≡ Some x → IsSome o
is_some_by None x e = cc
is_some_by (Some y) x e = refl

-- at first all events are still to come
pub running_none : (old : Connected) (events : List LinkEvent) → Amid old events events [] old
running_none old events = record {
  access_is = refl;
  goes_on = λ _ _ end h. h;
  halts_on = λ _ _ end h. h;
  ends_on = λ _ _. refl;
  over = λ live some _. absurd (none_some old.ended live some);
  stopped = λ live memory. absurd (none_some old.ended live (is_some_by old.ended NoMemory memory));
}

-- ---- one event of a session that goes on

step_live : (access : Access) (mid new : Connected) (event : LinkEvent) (left : List LinkEvent) (bytes out : List ℕ) (end : Point)
    → ActsOn access mid.kept event (point_of mid []) new.ended (point_of new out) new.kept → new.ended ≡ None
    → DoesActs access (point_of new (bytes ++ out)) (until_end (acts_from new.kept left)) end
    → DoesActs access (point_of mid bytes) (until_end (acts_from mid.kept (event ∷ left))) end
step_live access mid new event left bytes out end v none g =
    let acts : List Act = acts_at mid.kept event in
    rw (until-on acts (acts_from (kept_after mid.kept event) left) (sym v.end ∙ none))
    (does-append access (until_end acts) (until_end (acts_from (kept_after mid.kept event) left)) (point_of mid bytes) (point_of new (bytes ++ out)) end
    (goes_from access mid new bytes out (until_end acts) v.does)
    (subst (λ kept. DoesActs access (point_of new (bytes ++ out)) (until_end (acts_from kept left)) end) (v.rest none) g))

step_halts : (access : Access) (mid new : Connected) (event : LinkEvent) (left : List LinkEvent) (bytes out : List ℕ) (end : Point)
    → ActsOn access mid.kept event (point_of mid []) new.ended (point_of new out) new.kept → new.ended ≡ None
    → RunsOutOfMemory access (point_of new (bytes ++ out)) (until_end (acts_from new.kept left)) end
    → RunsOutOfMemory access (point_of mid bytes) (until_end (acts_from mid.kept (event ∷ left))) end
step_halts access mid new event left bytes out end v none h =
    let acts : List Act = acts_at mid.kept event in
    rw (until-on acts (acts_from (kept_after mid.kept event) left) (sym v.end ∙ none))
    (halts-append access (until_end acts) (until_end (acts_from (kept_after mid.kept event) left)) (point_of mid bytes) (point_of new (bytes ++ out)) end
    (goes_from access mid new bytes out (until_end acts) v.does)
    (subst (λ kept. RunsOutOfMemory access (point_of new (bytes ++ out)) (until_end (acts_from kept left)) end) (v.rest none) h))

step_ends : (access : Access) (mid new : Connected) (event : LinkEvent) (left : List LinkEvent) (out : List ℕ)
    → ActsOn access mid.kept event (point_of mid []) new.ended (point_of new out) new.kept → new.ended ≡ None
    → end_among (acts_from mid.kept (event ∷ left)) ≡ end_among (acts_from new.kept left)
step_ends access mid new event left out v none =
    end-on (acts_at mid.kept event) (acts_from (kept_after mid.kept event) left) (sym v.end ∙ none)
    ∙ ap (λ kept. end_among (acts_from kept left)) (sym (v.rest none))

-- ---- one event that ends it

step_over : (access : Access) (mid new : Connected) (event : LinkEvent) (left : List LinkEvent) (bytes out : List ℕ) (ended : Ended)
    → ActsOn access mid.kept event (point_of mid []) new.ended (point_of new out) new.kept → new.ended ≡ Some ended
    → DoesActs access (point_of mid bytes) (until_end (acts_from mid.kept (event ∷ left))) (point_of new (bytes ++ out))
    × (new.ended ≡ end_among (acts_from mid.kept (event ∷ left)))
step_over access mid new event left bytes out ended v some =
    let acts : List Act = acts_at mid.kept event in
    let here : end_among acts ≡ Some ended = sym v.end ∙ some in (
      rw (until-over acts (acts_from (kept_after mid.kept event) left) ended here) (goes_from access mid new bytes out (until_end acts) v.does),
      some ∙ sym (end-over acts (acts_from (kept_after mid.kept event) left) ended here),
    )

step_stopped : (access : Access) (mid new : Connected) (event : LinkEvent) (left : List LinkEvent) (bytes out : List ℕ)
    → RunsOutOfMemory access (point_of mid []) (until_end (acts_at mid.kept event)) (point_of new out)
    → RunsOutOfMemory access (point_of mid bytes) (until_end (acts_from mid.kept (event ∷ left))) (point_of new (bytes ++ out))
step_stopped access mid new event left bytes out h =
    halts_more access (acts_at mid.kept event) (acts_from (kept_after mid.kept event) left) (point_of mid bytes) (point_of new (bytes ++ out))
    (halts_from access mid new bytes out (until_end (acts_at mid.kept event)) h)

-- ---- one event more

-- the next event is handled, and what it sends follows what was sent before
pub running_one : (old mid new : Connected) (events left : List LinkEvent) (event : LinkEvent) (bytes out : List ℕ) (ended : Option Ended)
    → Amid old events (event ∷ left) bytes mid → HandlesEvent mid event out ended new → Amid old events left (bytes ++ out) new
running_one old mid new events left event bytes out ended r h = step mid.ended refl
  where
    acts_on : mid.ended ≡ None → new.ended ≢ Some NoMemory → ActsOn old.access mid.kept event (point_of mid []) new.ended (point_of new out) new.kept
    acts_on none memory = subst (λ a. ActsOn a mid.kept event (point_of mid []) new.ended (point_of new out) new.kept) r.access_is (h.live none memory)

    halts : mid.ended ≡ None → new.ended ≡ Some NoMemory → RunsOutOfMemory old.access (point_of mid []) (until_end (acts_at mid.kept event)) (point_of new out)
    halts none memory = subst (λ a. RunsOutOfMemory a (point_of mid []) (until_end (acts_at mid.kept event)) (point_of new out)) r.access_is (h.halts none memory)

    not_memory : new.ended ≡ None → new.ended ≢ Some NoMemory
    not_memory none memory = let wrong : None ≡ Some NoMemory = sym none ∙ memory in cc

    ended_stays : (e : Ended) → mid.ended ≡ Some e → Amid old events left bytes mid
    ended_stays e there = record {
      access_is = r.access_is;
      goes_on = λ live still end g. absurd (let wrong : None ≡ Some e = sym still ∙ there in cc);
      halts_on = λ live still end g. absurd (let wrong : None ≡ Some e = sym still ∙ there in cc);
      ends_on = λ live still. absurd (let wrong : None ≡ Some e = sym still ∙ there in cc);
      over = r.over;
      stopped = r.stopped;
    }

    step : (o : Option Ended) → mid.ended ≡ o → Amid old events left (bytes ++ out) new
    step None none =
        record {
          access_is = h.access_is ∙ r.access_is;
          goes_on = λ live still end g. r.goes_on live none end (step_live old.access mid new event left bytes out end (acts_on none (not_memory still)) still g);
          halts_on = λ live still end g. r.halts_on live none end (step_halts old.access mid new event left bytes out end (acts_on none (not_memory still)) still g);
          ends_on = λ live still. r.ends_on live none ∙ step_ends old.access mid new event left out (acts_on none (not_memory still)) still;
          over = λ live some memory.
              let e = some_is new.ended some in
              let s = step_over old.access mid new event left bytes out e.0 (acts_on none memory) e.1 in
              (r.goes_on live none (point_of new (bytes ++ out)) s.0, s.1 ∙ sym (r.ends_on live none));
          stopped = λ live memory.
              r.halts_on live none (point_of new (bytes ++ out)) (step_stopped old.access mid new event left bytes out (halts none memory));
        }
    step (Some e) there =
        let stays = h.over (is_some_by mid.ended e there) in
        let all : bytes ++ out ≡ bytes = ap (λ xs. bytes ++ xs) stays.1 ∙ append-nil bytes in
        let P : List ℕ → Connected → Type 0 = λ xs c. Amid old events left xs c in
        subst (λ xs. P xs new) (sym all) (subst (λ c. P bytes c) (sym stays.0) (ended_stays e there))

-- all have come
pub running_all : (old new : Connected) (events : List LinkEvent) (bytes : List ℕ) → Amid old events [] bytes new → HandlesEvents old events bytes new
running_all old new events bytes r = step new.ended refl
  where
    step : (o : Option Ended) → new.ended ≡ o → HandlesEvents old events bytes new
    step None none =
        record {
          access_is = r.access_is;
          live = λ live memory. r.goes_on live none (point_of new bytes) refl;
          end = λ live memory. none ∙ sym (r.ends_on live none);
          halts = r.stopped;
        }
    step (Some e) some =
        record {
          access_is = r.access_is;
          live = λ live memory. (r.over live (is_some_by new.ended e some) memory).0;
          end = λ live memory. (r.over live (is_some_by new.ended e some) memory).1;
          halts = r.stopped;
        }
