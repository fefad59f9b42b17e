-- The next message of a refresh after some of them, and what a copy is in the refresh.
use Rattle.std.proofs.Common.{◌≡◌, ℕ, Bool, true, false, cond, List, [], ◌∷◌, ◌++◌, Option, Some, refl, ap, sym, inl, inr}
use Rattle.std.specs.Prelude.{◌⊎◌}
use Rattle.entry_tree.specs.Effects.{committed}
use Rattle.entry_tree.specs.declared.entry.Entry.{Entry}
use Rattle.sync_model.specs.Copy.{Copy, Commit, Answer, taken, taken_all, answers}
use Rattle.sync_model.specs.Copy.Answer.{Staged, Stored}
use Rattle.sync_model.specs.Law.{settled}
use Rattle.sync_model.specs.Message.{CookieText, SyncMessage}
use Rattle.sync_model.specs.Stream.{WalkDecision, later}
use Rattle.sync_model.specs.Stream.WalkDecision.{Sends, Names}
use Rattle.sync_model.specs.Within.{taken_within, taken_all_within, answers_within}
use Rattle.sync_model.proofs.Gather.{EachD}
use Rattle.sync_model.proofs.Taking.{refreshing, names_after, stage_after}
use Rattle.dn_names.proofs.KeyTexts.{not_empty}

-- ---- the next message

-- it is one of the part, and more follow up to the last
pub record IsMidst (part prefix : List SyncMessage) (last m : SyncMessage) (rest : List SyncMessage) : Type 0 where
  pub more : List SyncMessage
  pub among : part ≡ prefix ++ m ∷ more
  pub left : rest ≡ more ++ last ∷ []

-- it is the last
pub record IsEnd (part prefix : List SyncMessage) (last m : SyncMessage) (rest : List SyncMessage) : Type 0 where
  pub notified : prefix ≡ part
  pub message : m ≡ last
  pub none : rest ≡ []

-- the next message is one of the part or the last
abbrev pub Next : List SyncMessage → List SyncMessage → SyncMessage → SyncMessage → List SyncMessage → Type 0
Next part prefix last m rest = IsMidst part prefix last m rest ⊎ IsEnd part prefix last m rest

one_more : (part prefix : List SyncMessage) (last m : SyncMessage) (rest : List SyncMessage) (x y : SyncMessage) → x ≡ y → Next part prefix last m rest → Next (y ∷ part) (x ∷ prefix) last m rest
one_more part prefix last m rest x y same (inl is) =
    inl (record { more = is.more; among = (λ i. sym same i ∷ is.among i); left = is.left })
one_more part prefix last m rest x y same (inr is) =
    inr (record { notified = (λ i. same i ∷ is.notified i); message = is.message; none = is.none })

-- a message after a prefix of the part and the last one is one of these
pub next_is : (prefix part rest : List SyncMessage) (last m : SyncMessage) → prefix ++ m ∷ rest ≡ part ++ last ∷ [] → Next part prefix last m rest
next_is [] [] rest last m same =
    let message : m ≡ last = cc in
    let none : rest ≡ [] = cc in
    inr (record { notified = refl; message = message; none = none })
next_is [] (x ∷ part) rest last m same =
    let message : m ≡ x = cc in
    let left : rest ≡ part ++ last ∷ [] = cc in
    inl (record { more = part; among = ap (λ y. y ∷ part) (sym message); left = left })
next_is (x ∷ prefix) [] rest last m same =
    let none : prefix ++ m ∷ rest ≡ [] = cc in
    absurd (not_empty prefix rest m none)
next_is (x ∷ prefix) (y ∷ part) rest last m same =
    let first : x ≡ y = cc in
    let others : prefix ++ m ∷ rest ≡ part ++ last ∷ [] = cc in
    one_more part prefix last m rest x y first (next_is prefix part rest last m others)

-- nothing is asked of a decision
pub any_decision : (decisions : List WalkDecision) → EachD (λ e. Unit {0}) (λ u. Unit {0}) decisions
any_decision [] = tt
any_decision (Sends entry ∷ decisions) = (tt, any_decision decisions)
any_decision (Names uuid ∷ decisions) = (tt, any_decision decisions)

-- ---- the last of some messages

-- a copy that takes some messages within limits and one more is what it makes of this one after the others
pub within-last : (messages : List SyncMessage) (m : SyncMessage) (id : ℕ) (copy : Copy)
    → taken_all_within id copy (messages ++ m ∷ []) ≡ (taken_within id (taken_all_within id copy messages) m).0
within-last [] m id copy = refl
within-last (x ∷ messages) m id copy = within-last messages m id (taken_within id copy x).0

-- the answers to some messages and one more are those to the messages, and then that to this one
pub answers-last : (messages : List SyncMessage) (m : SyncMessage) (id : ℕ) (copy : Copy)
    → answers id copy (messages ++ m ∷ []) ≡ answers id copy messages ++ (taken id (taken_all id copy messages) m).1 ∷ []
answers-last [] m id copy = refl
answers-last (x ∷ messages) m id copy = ap (λ notified. (taken id copy x).1 ∷ notified) (answers-last messages m id (taken id copy x).0)

-- and so they are within limits
pub answers_within-last : (messages : List SyncMessage) (m : SyncMessage) (id : ℕ) (copy : Copy)
    → answers_within id copy (messages ++ m ∷ []) ≡ answers_within id copy messages ++ (taken_within id (taken_all_within id copy messages) m).1 ∷ []
answers_within-last [] m id copy = refl
answers_within-last (x ∷ messages) m id copy = ap (λ notified. (taken_within id copy x).1 ∷ notified) (answers_within-last messages m id (taken_within id copy x).0)

-- ---- a copy in the refresh

-- none
abbrev pub no_messages : List SyncMessage
no_messages = []

-- one with these entries and this cookie, which took these messages of a search that goes on after its refresh or not
abbrev pub staging : Bool → List Entry → Option CookieText → List SyncMessage → Copy
staging persists held cookie taken = refreshing 1 held cookie persists false (names_after [] taken) (stage_after [] taken)

-- a message is staged, and those held stay
pub record IsStaged (persists : Bool) (held : List Entry) (cookie : Option CookieText) (taken : List SyncMessage) (outcome : Copy × Answer) : Type 0 where
  pub answer : outcome.1 ≡ Staged
  pub copy : outcome.0 ≡ staging persists held cookie taken

-- and at the end the content is held, with its cookie, and the search goes on or is over
pub record IsStored (persists : Bool) (held content : List Entry) (cookie : CookieText) (outcome : Copy × Answer) : Type 0 where
  pub commit : Commit
  pub answer : outcome.1 ≡ Stored commit
  pub text : commit.cookie ≡ Some cookie
  pub staged : committed held commit.puts commit.drops ≡ content
  pub ended : Bool
  pub copy : outcome.0 ≡ settled 1 persists ended content (Some cookie)

-- ---- a search that goes on

-- there are some messages
pub record HasNext (messages : List SyncMessage) : Type 0 where
  pub next : SyncMessage
  pub later : List SyncMessage
  pub same : messages ≡ next ∷ later

-- where a prefix has messages, all have
pub prefix_some : (prefix back : List SyncMessage) → HasNext prefix → HasNext (prefix ++ back)
prefix_some prefix back some = record { next = some.next; later = some.later ++ back; same = ap (λ ms. ms ++ back) some.same }

-- without later writes nothing is reported of them
pub none_later : (persists : Bool) → cond persists [] [] ≡ no_messages
none_later true = refl
none_later false = refl

-- a list that ends with a message has messages
pub some_next : (more : List SyncMessage) (m : SyncMessage) → HasNext (more ++ m ∷ [])
some_next [] m = record { next = m; later = []; same = refl }
some_next (x ∷ more) m = record { next = x; later = more ++ m ∷ []; same = refl }
