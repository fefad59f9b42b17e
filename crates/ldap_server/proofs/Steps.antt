-- Acts, each of which leads from one point to another.
use Rattle.std.proofs.Common.{◌≡◌, ℕ, List, [], ◌∷◌, ◌++◌, Some, refl, sym, subst, ap, ◌∙◌}
use Rattle.std.proofs.lemmas.List.{append-nil}
use Rattle.ldap_messages.specs.Operation.{Operation}
use Rattle.ldap_parts.specs.declared.control.Control.{Control}
use Rattle.ldap_session.specs.Acts.{Act, Answers, HandsOut, Leaves, end_of}
use Rattle.ldap_session.specs.Incoming.{Arrived, Wrong}
use Rattle.ldap_session.specs.Requests.{request_of}
use Rattle.ldap_session.specs.declared.access.Access.{Access}
use Rattle.ldap_session.specs.declared.ended.Ended.TheVariants.{ProtocolFault}
use Rattle.ldap_server.specs.Encoding.{notice}
use Rattle.ldap_server.specs.Following.{Stopped}
use Rattle.ldap_server.specs.HandOuts.{HandsOutAll}
use Rattle.ldap_server.specs.Points.{Point, IsPerformed}
use Rattle.ldap_server.specs.Session.{Does, RunsOutOfMemory, DoesAct}
use Rattle.ldap_server.specs.Table.{Answer, DropsAll}
use Rattle.ldap_server.proofs.Performing.{sends_only_is, with_sent}

-- a message is answered
pub does_performed : (access : Access) (id : ℕ) (op : Operation) (controls : List Control) (now : ℕ) (old new : Point)
    → IsPerformed (Answer access id (request_of op) controls now) old new → IsPerformed (Does access (Answers (Arrived (id, (op, controls))) now)) old new
unfolding Does
does_performed access id op controls now old new p = record { asked = p.asked; octets = p.octets; act = p.act; exchanged = p.exchanged; sent_is = p.sent_is }

-- bytes that are refused get the Notice of Disconnection
pub step_wrong : (access : Access) (place now : ℕ) (old new : Point) → new ≡ with_sent old (old.sent ++ notice) → DoesAct access old (Answers (Wrong place) now) new
unfolding Does
step_wrong access place now old new sent =
    let P : Point → Type 0 = λ p. DoesAct access old (Answers (Wrong place) now) p in
    subst P (sym sent) (record { asked = []; octets = notice; act = sends_only_is notice old.session; exchanged = refl; sent_is = refl })

-- what is no message ends a session with a protocol fault at its place
pub end_of_wrong : (place now : ℕ) → end_of (Answers (Wrong place) now) ≡ Some (ProtocolFault place)
unfolding end_of
end_of_wrong place now = refl

-- all searches had their turns
pub step_hands : (access : Access) (old new : Point) → IsPerformed HandsOutAll old new → DoesAct access old HandsOut new
unfolding Does
step_hands access old new p = record { asked = p.asked; octets = p.octets; act = p.act; exchanged = p.exchanged; sent_is = p.sent_is }

-- the input ended
pub step_leaves : (access : Access) (old new : Point) → DropsAll old.session.searches old.port new.port
    → new.session ≡ record { bound = old.session.bound; searches = [] } → new.sent ≡ old.sent → DoesAct access old Leaves new
unfolding Does
step_leaves access old new drops left sent = record {
  asked = drops.asked;
  octets = [];
  act = record { drops = drops.drops; sent_is = refl; new_is = left };
  exchanged = drops.exchanged;
  sent_is = sent ∙ sym (append-nil old.sent);
}

-- ---- where memory runs out

-- in the first of these acts, or before it
pub halts_here : (access : Access) (acts : List Act) (old new : Point) → Stopped old new → RunsOutOfMemory access old acts new
halts_here access acts old new s = record {
  done = [];
  later = acts;
  acts_are = refl;
  between = old;
  does = refl;
  asked = s.asked;
  exchanged = s.exchanged;
  sent_is = s.sent_is;
}

-- at first nothing is asked, and nothing is sent
pub stopped_none : (p : Point) → Stopped p p
stopped_none p = record { asked = []; exchanged = refl; sent_is = refl }

-- after one act more
pub halts_step : (access : Access) (act : Act) (acts : List Act) (old mid new : Point) → DoesAct access old act mid → RunsOutOfMemory access mid acts new → RunsOutOfMemory access old (act ∷ acts) new
halts_step access act acts old mid new s h = record {
  done = act ∷ h.done;
  later = h.later;
  acts_are = ap (λ xs. act ∷ xs) h.acts_are;
  between = h.between;
  does = (mid, s, h.does);
  asked = h.asked;
  exchanged = h.exchanged;
  sent_is = h.sent_is;
}
