-- The loop of a session over a link.
use Rattle.std.proofs.Common.{◌≡◌, ℕ, ◌+◌, ◌-◌, List, [], ◌∷◌, ◌++◌, Option, Some, None, refl, sym, ap, subst, ◌∙◌, append_assoc, inl, inr}
use Rattle.std.specs.List.{flat_map}
use Rattle.std.specs.Io.KnownBytes.{Appends, Consumes, IsAtEnd}
use Rattle.std.proofs.KnownBytes.{Appends-kept, Appends-nil, Appends-trans, Consumes-kept, Consumes-nil, Consumes-trans}
use Rattle.std.proofs.lemmas.List.{append-nil}
use Rattle.sync_io.specs.Sink.{AppendsPrefix}
use Rattle.ldap_session.specs.declared.ended.Ended.{Ended}
use Rattle.ldap_session.specs.declared.ended.Ended.TheVariants.{EndOfInput, ReadFault, WriteFault}
use Rattle.ldap_session.specs.declared.event.LinkEvent.{LinkEvent}
use Rattle.ldap_server.specs.Session.{Connected, HandlesEvent, HandlesEvents}
use Rattle.ldap_server.specs.Serving.{EndsLive, LinkBytes, Serves, Takes, brought_by}
use Rattle.ldap_server.specs.declared.connection.Out.{Out}
use Rattle.ldap_server.proofs.AtEnd.{ends_at_end}
use Rattle.ldap_server.proofs.Amid.{Amid, running_all, running_none, running_one}

-- ---- the loop

-- some events have come, whatever comes later
pub record Linked (old : Connected) (before : LinkBytes) (now : Connected) (after : LinkBytes) : Type 0 where
  pub events : List LinkEvent
  pub sent : List ℕ
  pub all : (later : List LinkEvent) → Amid old (events ++ later) later sent now
  pub taken : Consumes before.left after.left (flat_map brought_by events)
  pub read : Appends before.read after.read (flat_map brought_by events)
  pub written : Appends before.held after.held sent
  -- the last of them ended the session only where the input had ended
  pub at_end : old.ended ≡ None → now.ended ≡ Some EndOfInput → IsAtEnd after.left

none_is : (o : Option Ended) (e : Ended) → o ≡ None → o ≡ Some e → ⊥
none_is o e none some = let wrong : None ≡ Some e = sym none ∙ some in cc

-- at first nothing has come over the link
pub linked_none : (old : Connected) (before : LinkBytes) → Linked old before old before
linked_none old before = record {
  events = [];
  sent = [];
  all = λ later. running_none old later;
  taken = Consumes-nil before.left;
  read = Appends-nil before.read;
  written = Appends-nil before.held;
  at_end = λ live end. absurd (none_is old.ended EndOfInput live end);
}

brought-push : (events : List LinkEvent) (event : LinkEvent) → flat_map brought_by (events ++ event ∷ []) ≡ flat_map brought_by events ++ brought_by event
brought-push [] event = append-nil (brought_by event)
brought-push (first ∷ events) event =
    ap (λ xs. brought_by first ++ xs) (brought-push events event) ∙ sym (append_assoc (brought_by first) (flat_map brought_by events) (brought_by event))

consumes_more : (first before after : Option (List ℕ)) (events : List LinkEvent) (event : LinkEvent)
    → Consumes first before (flat_map brought_by events) → Consumes before after (brought_by event)
    → Consumes first after (flat_map brought_by (events ++ event ∷ []))
consumes_more first before after events event all one =
    subst (λ bytes. Consumes first after bytes) (sym (brought-push events event))
    (Consumes-trans first before after (flat_map brought_by events) (brought_by event) all one)

appends_more : (first before after : Option (List ℕ)) (events : List LinkEvent) (event : LinkEvent)
    → Appends first before (flat_map brought_by events) → Appends before after (brought_by event)
    → Appends first after (flat_map brought_by (events ++ event ∷ []))
appends_more first before after events event all one =
    subst (λ bytes. Appends first after bytes) (sym (brought-push events event))
    (Appends-trans first before after (flat_map brought_by events) (brought_by event) all one)

-- one event more
pub linked_one : (old mid new : Connected) (before between after : LinkBytes) (out : Out)
    → Linked old before mid between → (old.ended ≡ None → mid.ended ≡ None)
    → Takes mid between.left between.read after.left after.read (Some out) new → Appends between.held after.held out.bytes
    → Linked old before new after
linked_one old mid new before between after out l live t w = record {
  events = l.events ++ t.0 ∷ [];
  sent = l.sent ++ out.bytes;
  all = λ later.
      subst (λ events. Amid old events later (l.sent ++ out.bytes) new) (sym (append_assoc l.events (t.0 ∷ []) later))
      (running_one old mid new (l.events ++ t.0 ∷ later) later t.0 l.sent out.bytes out.ended (l.all (t.0 ∷ later)) t.1);
  taken = consumes_more before.left between.left after.left l.events t.0 l.taken t.2;
  read = appends_more before.read between.read after.read l.events t.0 l.read t.3;
  written = Appends-trans before.held between.held after.held l.sent out.bytes l.written w;
  at_end = λ began end. ends_at_end mid new t.0 out.bytes out.ended after.left (live began) t.1 t.4 end;
}

runs_now : (old now : Connected) (events : List LinkEvent) (sent : List ℕ) → Amid old (events ++ []) [] sent now → HandlesEvents old events sent now
runs_now old now events sent r =
    running_all old now events sent (subst (λ all. Amid old all [] sent now) (append-nil events) r)

runs_one : (old mid new : Connected) (events : List LinkEvent) (event : LinkEvent) (sent bytes : List ℕ) (ended : Option Ended)
    → Amid old (events ++ event ∷ []) (event ∷ []) sent mid → HandlesEvent mid event bytes ended new
    → HandlesEvents old (events ++ event ∷ []) (sent ++ bytes) new
runs_one old mid new events event sent bytes ended r h =
    running_all old new (events ++ event ∷ []) (sent ++ bytes)
    (running_one old mid new (events ++ event ∷ []) [] event sent bytes ended r h)

-- one event more came to a session that had not ended
ends_live : (old mid new : Connected) (events : List LinkEvent) (event : LinkEvent) (sent bytes : List ℕ) (ended : Option Ended)
    → Amid old (events ++ []) [] sent mid → mid.ended ≡ None → HandlesEvent mid event bytes ended new
    → EndsLive old (events ++ event ∷ []) (sent ++ bytes) new
ends_live old mid new events event sent bytes ended r live h = record {
  earlier = events;
  last = event;
  events_are = refl;
  between = mid;
  before = sent;
  after = bytes;
  sent_is = refl;
  runs = runs_now old mid events sent r;
  live = live;
  handles = subst (λ (e : Option Ended). HandlesEvent mid event bytes e new) h.ended_is h;
}

-- the session is over
pub serves_ended : (old mid now : Connected) (before between after : LinkBytes) (out : Out) (ended : Ended)
    → Linked old before mid between → (old.ended ≡ None → mid.ended ≡ None)
    → Takes mid between.left between.read after.left after.read (Some out) now → Appends between.held after.held out.bytes
    → now.ended ≡ Some ended → Serves old before ended now after
serves_ended old mid now before between after out ended l live t w is = record {
  events = l.events ++ t.0 ∷ [];
  sent = l.sent ++ out.bytes;
  runs = runs_one old mid now l.events t.0 l.sent out.bytes out.ended (l.all (t.0 ∷ [])) t.1;
  taken = consumes_more before.left between.left after.left l.events t.0 l.taken t.2;
  read = appends_more before.read between.read after.read l.events t.0 l.read t.3;
  prefix = (l.sent ++ out.bytes, [], sym (append-nil (l.sent ++ out.bytes)), written);
  whole = λ _. written;
  end = λ _ _. is;
  at_end = λ began end. ends_at_end mid now t.0 out.bytes out.ended after.left (live began) t.1 t.4 (is ∙ ap Some end);
  prompt = λ began. inr (ends_live old mid now l.events t.0 l.sent out.bytes out.ended (l.all []) (live began) t.1);
}
  where
    written : Appends before.held after.held (l.sent ++ out.bytes)
    written = Appends-trans before.held between.held after.held l.sent out.bytes l.written w

-- a read failed
pub serves_unread : (old mid now : Connected) (before between after : LinkBytes)
    → Linked old before mid between → (old.ended ≡ None → mid.ended ≡ None) → Takes mid between.left between.read after.left after.read None now
    → after.held ≡ between.held → Serves old before ReadFault now after
serves_unread old mid now before between after l live t held = record {
  events = l.events;
  sent = l.sent;
  runs = subst (λ n. HandlesEvents old l.events l.sent n) (sym t.0) (runs_now old mid l.events l.sent (l.all []));
  taken = Consumes-kept before.left between.left after.left (flat_map brought_by l.events) l.taken t.1;
  read = Appends-kept before.read between.read after.read (flat_map brought_by l.events) l.read t.2;
  prefix = (l.sent, [], sym (append-nil l.sent), written);
  whole = λ _. written;
  end = λ unread _. absurd (unread refl);
  at_end = λ _ end. absurd (let wrong : ReadFault ≡ EndOfInput = end in cc);
  prompt = λ began. inl (ap (λ (c : Connected). c.ended) t.0 ∙ live began);
}
  where
    written : Appends before.held after.held l.sent
    written = subst (λ h. Appends before.held h l.sent) (sym held) l.written

-- a write failed
pub serves_unwritten : (old mid new : Connected) (before between after : LinkBytes) (out : Out)
    → Linked old before mid between → (old.ended ≡ None → mid.ended ≡ None)
    → Takes mid between.left between.read after.left after.read (Some out) new → AppendsPrefix between.held after.held out.bytes
    → Serves old before WriteFault new after
serves_unwritten old mid new before between after out l live t w = record {
  events = l.events ++ t.0 ∷ [];
  sent = l.sent ++ out.bytes;
  runs = runs_one old mid new l.events t.0 l.sent out.bytes out.ended (l.all (t.0 ∷ [])) t.1;
  taken = consumes_more before.left between.left after.left l.events t.0 l.taken t.2;
  read = appends_more before.read between.read after.read l.events t.0 l.read t.3;
  prefix = (l.sent ++ w.0, w.1, ap (λ xs. l.sent ++ xs) w.2 ∙ sym (append_assoc l.sent w.0 w.1), Appends-trans before.held between.held after.held l.sent w.0 l.written w.3);
  whole = λ fine. absurd (fine refl);
  end = λ _ unwritten. absurd (unwritten refl);
  at_end = λ _ end. absurd (let wrong : WriteFault ≡ EndOfInput = end in cc);
  prompt = λ began. inr (ends_live old mid new l.events t.0 l.sent out.bytes out.ended (l.all []) (live began) t.1);
}
