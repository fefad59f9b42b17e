-- Seats, one of which changes, and the accounts of the links.
use Rattle.std.proofs.Common.{◌≡◌, ℕ, zero, suc, ◌+◌, ◌<◌, ◌≤◌, true, false, List, [], ◌∷◌, ◌++◌, length, get_or, set, Option, Some, None, Result, refl, sym, ap, ◌∙◌, subst, arith, append_assoc, length-append, add_assoc, add-zero}
use Rattle.std.proofs.lemmas.List.{get_or-set_same, set-set, length-set}
use Rattle.std.proofs.lemmas.Slice.Zip.{all_zipped_more}
use Rattle.std.specs.Prelude.{IfSome, IsSome, option_map}
use Rattle.atomic_table.specs.Seated.{TableId}
use Rattle.turn_cell.proofs.Each.{every-append}
use Rattle.turn_cell.specs.Journals.{Every, IsNumber}
use Rattle.sync_io.specs.Links.{HasNoFaults, IsUnused}
use Rattle.sync_io.specs.Net.{Served, accepts, releases}
use Rattle.sync_io.specs.declared.dial.NetFault.{NetFault}
use Rattle.sync_provider.specs.Ports.{PortState}
use Rattle.shared_directory.specs.Passes.{DirectoryView, IsUpToDate, port_of}
use Rattle.ldap_session.specs.declared.access.Access.{Access}
use Rattle.ldap_listener.specs.Seats.{AcceptsLinks, AccountsForMore, AllCounted, AllFree, AllSeated, AreAccountedFor, AreInOrder, CountsFaults, HasRoom, IsCounted, IsFreeAt, IsReported, IsSeated, IsServed, KeepsAccounts, KeepsSeats, ConnectionSeat, busy, busy_count, counts, free, vacant}
use Rattle.ldap_listener.specs.Sessions.{Chain, HasServed, IsFresh, LinkView, ServedSession, sessions_of}
use Rattle.ldap_listener.proofs.Chains.{chain-more, sessions-else, sessions-own}

-- ---- seats

-- as many seats have numbers where one of them changes
numbered-set : {L : Type 0} (seats : List (ConnectionSeat L)) (i : ℕ) (s : ConnectionSeat L) (sessions : List (ℕ × ServedSession))
    → Every (λ (t : ℕ × ServedSession). IsNumber (length seats) t.0) sessions → Every (λ (t : ℕ × ServedSession). IsNumber (length (set seats i s)) t.0) sessions
numbered-set seats i s sessions all = subst (λ n. Every (λ (t : ℕ × ServedSession). IsNumber n t.0) sessions) (sym (length-set seats i s)) all

module _ {L : Type 0} where
  -- how many seats are busy after one of them changes
  pub busy-set : (seats : List (ConnectionSeat L)) (i : ℕ) (s d : ConnectionSeat L) → i < length seats
      → busy_count (set seats i s) + counts (get_or seats i d) ≡ busy_count seats + counts s
  busy-set [] i s d low = absurd (omega (arith, low))
  busy-set (t ∷ ts) zero s d low = omega arith
  busy-set (t ∷ ts) (suc i) s d low = let more = busy-set ts i s d (omega (arith, low)) in omega (arith, more)

  busy-some : (seats : List (ConnectionSeat L)) (i : ℕ) (d : ConnectionSeat L) → i < length seats → counts (get_or seats i d) ≤ busy_count seats
  busy-some [] i d low = absurd (omega (arith, low))
  busy-some (t ∷ ts) zero d low = omega arith
  busy-some (t ∷ ts) (suc i) d low = let more = busy-some ts i d (omega (arith, low)) in omega (arith, more)

  -- no connection is served where all seats are free
  pub busy-free : (seats : List (ConnectionSeat L)) → AllFree seats → busy_count seats ≡ 0
  busy-free [] all = refl
  busy-free (free c view ∷ ts) all = let rest = busy-free ts all.1 in omega (arith, rest)
  busy-free (busy c view access link ∷ ts) all = absurd (let wrong : false ≡ true = all.0 in cc)
  busy-free (vacant ∷ ts) all = absurd (let wrong : false ≡ true = all.0 in cc)

  -- each seat has a pass of the directory
  pub seated-at : (cell : TableId) (seats : List (ConnectionSeat L)) (i : ℕ) (d : ConnectionSeat L) → i < length seats → AllSeated cell seats → IsSeated cell (get_or seats i d)
  seated-at cell [] i d low all = absurd (omega (arith, low))
  seated-at cell (t ∷ ts) zero d low all = all.0
  seated-at cell (t ∷ ts) (suc i) d low all = seated-at cell ts i d (omega (arith, low)) all.1

  -- so it has after one of them changes
  pub seated-set : (cell : TableId) (seats : List (ConnectionSeat L)) (i : ℕ) (s : ConnectionSeat L) → AllSeated cell seats → IsSeated cell s → AllSeated cell (set seats i s)
  seated-set cell [] i s all one = all
  seated-set cell (t ∷ ts) zero s all one = (one, all.1)
  seated-set cell (t ∷ ts) (suc i) s all one = (all.0, seated-set cell ts i s all.1 one)

  -- a seat that was freed is free
  pub free-here : (seats : List (ConnectionSeat L)) (i : ℕ) (c : TableId) (view : DirectoryView) → i < length seats → IsFreeAt (set seats i (free c view)) i
  free-here seats i c view low = rw (get_or-set_same seats i (free c view) vacant low) refl

  -- and those that were free stay so
  pub free-kept : (seats : List (ConnectionSeat L)) (i k : ℕ) (c : TableId) (view : DirectoryView) → IsFreeAt seats k → IsFreeAt (set seats i (free c view)) k
  free-kept [] i k c view at = at
  free-kept (t ∷ ts) zero zero c view at = refl
  free-kept (t ∷ ts) zero (suc k) c view at = at
  free-kept (t ∷ ts) (suc i) zero c view at = at
  free-kept (t ∷ ts) (suc i) (suc k) c view at = free-kept ts i k c view at

  -- where the seat at each place is free, all are
  pub all-free : (seats : List (ConnectionSeat L)) → ((k : ℕ) → k < length seats → IsFreeAt seats k) → AllFree seats
  all-free [] each = tt
  all-free (t ∷ ts) each = (each 0 (omega arith), all-free ts (λ k low. each (suc k) (omega (arith, low))))

-- ---- the seat at a place

pub record IsBusyAt {L : Type 0} (seats : List (ConnectionSeat L)) (i : ℕ) (c : TableId) (view : DirectoryView) (access : Access) (link : L) : Type 0 where
  pub low : i < length seats
  pub other : ConnectionSeat L
  pub at : get_or seats i other ≡ busy c view access link

pub record HasFree {L : Type 0} (seats : List (ConnectionSeat L)) (i : ℕ) (c : TableId) (view : DirectoryView) : Type 0 where
  pub low : i < length seats
  pub other : ConnectionSeat L
  pub at : get_or seats i other ≡ free c view

module _ {L : Type 0} where
  -- the pass of a busy seat is one of the directory, and up to date
  pub busy-seated : (cell : TableId) (seats : List (ConnectionSeat L)) (i : ℕ) (c : TableId) (view : DirectoryView) (access : Access) (link : L)
      → IsBusyAt seats i c view access link → AllSeated cell seats → (c ≡ cell) × IsUpToDate view
  busy-seated cell seats i c view access link there seated = subst (IsSeated cell) there.at (seated-at cell seats i there.other there.low seated)

  -- so is that of a free seat
  pub free-seated : (cell : TableId) (seats : List (ConnectionSeat L)) (i : ℕ) (c : TableId) (view : DirectoryView)
      → HasFree seats i c view → AllSeated cell seats → (c ≡ cell) × IsUpToDate view
  free-seated cell seats i c view there seated = subst (IsSeated cell) there.at (seated-at cell seats i there.other there.low seated)

module _ {L C M : Type 0} where
  -- there is room for the link of a connection that is served
  pub room-release : (net : Option (Served L C M)) (seats : List (ConnectionSeat L)) (i : ℕ) (c : TableId) (view : DirectoryView) (access : Access) (link : L)
      → IsBusyAt seats i c view access link → HasRoom net seats → IfSome net (λ s. length s.released < s.accepted)
  room-release None seats i c view access link there room = tt
  room-release (Some s) seats i c view access link there room =
      let some = busy-some seats i there.other there.low in
      let one : counts (get_or seats i there.other) ≡ 1 = ap counts there.at in
      omega (arith, some, one, room)

  -- after a link is released, and its seat is free, as many can be released as connections are
  -- served
  pub room-freed : (net : Option (Served L C M)) (seats : List (ConnectionSeat L)) (i : ℕ) (c c' : TableId) (view view' : DirectoryView) (access : Access) (link link' : L)
      → IsBusyAt seats i c view access link → HasRoom net seats → HasRoom (option_map (releases link') net) (set seats i (free c' view'))
  room-freed None seats i c c' view view' access link link' there room = tt
  room-freed (Some s) seats i c c' view view' access link link' there room =
      let moved = busy-set seats i (free c' view') there.other there.low in
      let one : counts (get_or seats i there.other) ≡ 1 = ap counts there.at in
      omega (arith, length-append s.released (link' ∷ []), moved, one, room)

  -- so they can after one is accepted, and has a seat
  pub room-taken : (net : Option (Served L C M)) (seats : List (ConnectionSeat L)) (i : ℕ) (c : TableId) (view : DirectoryView) (access : Access) (link : L)
      → HasFree seats i c view → HasRoom net seats → HasRoom (option_map (accepts true) net) (set seats i (busy c view access link))
  room-taken None seats i c view access link there room = tt
  room-taken (Some s) seats i c view access link there room =
      let moved = busy-set seats i (busy c view access link) there.other there.low in
      let none : counts (get_or seats i there.other) ≡ 0 = ap counts there.at in
      omega (arith, moved, none, room)

-- ---- what became of the links

module _ {L : Type 0} (v : LinkView L) (access : Access) (Reports : Type 0) (first : ℕ → PortState) where
  counted-at : (sessions : List (ℕ × ServedSession)) (number : ℕ) (seats : List (ConnectionSeat L)) (i : ℕ) (d : ConnectionSeat L) → i < length seats
      → AllCounted v access Reports first sessions number seats
      → IsCounted v access Reports (first (number + i)) (sessions_of (number + i) sessions) (get_or seats i d)
  counted-at sessions number [] i d low all = absurd (omega (arith, low))
  counted-at sessions number (t ∷ ts) zero d low all =
      let P : ℕ → Type 0 = λ n. IsCounted v access Reports (first n) (sessions_of n sessions) t in
      subst P (sym (add-zero number)) all.0
  counted-at sessions number (t ∷ ts) (suc i) d low all =
      let P : ℕ → Type 0 = λ n. IsCounted v access Reports (first n) (sessions_of n sessions) (get_or ts i d) in
      subst P (omega arith) (counted-at sessions (suc number) ts i d (omega (arith, low)) all.1)

  counted-set : (sessions : List (ℕ × ServedSession)) (number : ℕ) (seats : List (ConnectionSeat L)) (i : ℕ) (s : ConnectionSeat L)
      → AllCounted v access Reports first sessions number seats → IsCounted v access Reports (first (number + i)) (sessions_of (number + i) sessions) s
      → AllCounted v access Reports first sessions number (set seats i s)
  counted-set sessions number [] i s all one = all
  counted-set sessions number (t ∷ ts) zero s all one =
      let P : ℕ → Type 0 = λ n. IsCounted v access Reports (first n) (sessions_of n sessions) s in
      (subst P (add-zero number) one, all.1)
  counted-set sessions number (t ∷ ts) (suc i) s all one =
      let P : ℕ → Type 0 = λ n. IsCounted v access Reports (first n) (sessions_of n sessions) s in
      (all.0, counted-set sessions (suc number) ts i s all.1 (subst P (omega arith) one))

  -- a session of another number changes nothing of a seat
  counted-else : (sessions : List (ℕ × ServedSession)) (s : ServedSession) (other number : ℕ) (seats : List (ConnectionSeat L)) → other < number
      → AllCounted v access Reports first sessions number seats → AllCounted v access Reports first (sessions ++ (other, s) ∷ []) number seats
  counted-else sessions s other number [] low all = all
  counted-else sessions s other number (t ∷ ts) low all = (
    subst (λ xs. IsCounted v access Reports (first number) xs t) (sym (sessions-else number other sessions s (λ same. omega (arith, low, same)))) all.0,
    counted-else sessions s other (suc number) ts (omega (arith, low)) all.1,
  )

  -- the session of the seat at place i, which changes
  counted-step : (sessions : List (ℕ × ServedSession)) (s : ServedSession) (number : ℕ) (seats : List (ConnectionSeat L)) (i : ℕ) (new : ConnectionSeat L)
      → AllCounted v access Reports first sessions number seats
      → IsCounted v access Reports (first (number + i)) (sessions_of (number + i) (sessions ++ (number + i, s) ∷ [])) new
      → AllCounted v access Reports first (sessions ++ (number + i, s) ∷ []) number (set seats i new)
  counted-step sessions s number [] i new all one = all
  counted-step sessions s number (t ∷ ts) zero new all one =
      let P : ℕ → Type 0 = λ n. IsCounted v access Reports (first number) (sessions_of number (sessions ++ (n, s) ∷ [])) new in
      let Q : ℕ → Type 0 = λ n. IsCounted v access Reports (first n) (sessions_of n (sessions ++ (n, s) ∷ [])) new in
      let R : ℕ → Type 0 = λ n. AllCounted v access Reports first (sessions ++ (n, s) ∷ []) (suc number) ts in (
        subst P (sym (add-zero number)) (subst Q (add-zero number) one),
        subst R (sym (add-zero number)) (counted-else sessions s number (suc number) ts (omega arith) all.1),
      )
  counted-step sessions s number (t ∷ ts) (suc i) new all one =
      let at : suc number + i ≡ number + suc i = omega arith in
      let Q : ℕ → Type 0 = λ n. IsCounted v access Reports (first n) (sessions_of n (sessions ++ (n, s) ∷ [])) new in
      let R : ℕ → Type 0 = λ n. AllCounted v access Reports first (sessions ++ (n, s) ∷ []) (suc number) (set ts i new) in (
        subst (λ xs. IsCounted v access Reports (first number) xs t)
            (sym (sessions-else number (number + suc i) sessions s (λ same. omega (arith, same)))) all.0,
        subst R at (counted-step sessions s (suc number) ts i new all.1 (subst Q (sym at) one)),
      )

module _ {L C M : Type 0} (v : LinkView L) (access : Access) where
  reported-more : (before : Option (Served L C M)) (n : ℕ) (now : Option (Served L C M)) (links : List L) (link : L)
      → IsReported before n now links → IsReported before n (option_map (releases link) now) (links ++ link ∷ [])
  reported-more None n now links link r = ap (λ (s : Option (Served L C M)). option_map (releases link) s) r
  reported-more (Some b) n None links link r = absurd r
  reported-more (Some b) n (Some now) links link r = (r.0, r.1, ap (λ xs. xs ++ link ∷ []) r.2 ∙ append_assoc b.released links (link ∷ []), record { callers = r.3.callers; retired = r.3.retired; gone = r.3.gone; to_come = r.3.to_come })

  reported-taken : (before : Option (Served L C M)) (n : ℕ) (now : Option (Served L C M)) (links : List L)
      → IsReported before n now links → IsReported before (n + 1) (option_map (accepts true) now) links
  reported-taken None n now links r = ap (λ (s : Option (Served L C M)). option_map (accepts true) s) r
  reported-taken (Some b) n None links r = absurd r
  reported-taken (Some b) n (Some now) links r = (r.0, ap (λ a. a + 1) r.1 ∙ add_assoc b.accepted n 1, r.2, record { callers = r.3.callers; retired = r.3.retired; gone = r.3.gone; to_come = r.3.to_come })

  -- a connection is over: its seat becomes free, and its link is released
  frees-own : (net : Option (Served L C M)) (seats : List (ConnectionSeat L)) (i : ℕ) (c c' : TableId) (view view' : DirectoryView) (link link' : L)
      → IsBusyAt seats i c view access link → HasServed v access (port_of view) link (port_of view') link'
      → AccountsForMore v access 0 net seats (option_map (releases link') net) (set seats i (free c' view'))
  frees-own net seats i c c' view view' link link' there (s, serving) first before n accounts =
      let was : IsCounted v access (IsSome before) (first (1 + i)) (sessions_of (1 + i) accounts.sessions) (busy c view access link) =
      subst (IsCounted v access (IsSome before) (first (1 + i)) (sessions_of (1 + i) accounts.sessions)) there.at
      (counted-at v access (IsSome before) first accounts.sessions 1 seats i there.other there.low accounts.counted) in
      let chain : Chain (first (1 + i)) (sessions_of (1 + i) (accounts.sessions ++ (1 + i, s) ∷ [])) (port_of view') =
      subst (λ xs. Chain (first (1 + i)) xs (port_of view')) (sym (sessions-own (1 + i) accounts.sessions s))
      (subst (λ p. Chain (first (1 + i)) (sessions_of (1 + i) accounts.sessions ++ s ∷ []) p) serving.after_is
      (chain-more (first (1 + i)) (sessions_of (1 + i) accounts.sessions) (port_of view) s was.0 serving.before_is)) in
      let moved = busy-set seats i (free c' view') there.other there.low in
      let one : counts (get_or seats i there.other) ≡ 1 = ap counts there.at in
      let P : ℕ → Type 0 = λ k. IsReported before k (option_map (releases link') net) (accounts.links ++ link' ∷ []) in
      record {
        links = accounts.links ++ link' ∷ [];
        sessions = accounts.sessions ++ (1 + i, s) ∷ [];
        reported = subst P (sym (add-zero n)) (reported-more before n net accounts.links link' accounts.reported);
        served = all_zipped_more (IsServed v access (IsSome before)) accounts.links accounts.sessions link' (1 + i, s) accounts.served
            (serving.session, λ reports. serving.reported (was.2 reports));
        numbered = numbered-set seats i (free c' view') (accounts.sessions ++ (1 + i, s) ∷ [])
            (every-append (λ (t : ℕ × ServedSession). IsNumber (length seats) t.0) accounts.sessions ((1 + i, s) ∷ []) accounts.numbered
            ((omega arith, omega (arith, there.low)), tt));
        count = omega (arith, length-append accounts.links (link' ∷ []), accounts.count, moved, one);
        counted = counted-step v access (IsSome before) first accounts.sessions s 1 seats i (free c' view') accounts.counted chain;
      }

  -- the same where the seat says who may write, as the accounts do
  pub frees : (net : Option (Served L C M)) (seats : List (ConnectionSeat L)) (i : ℕ) (c c' : TableId) (view view' : DirectoryView) (given : Access) (link link' : L)
      → IsBusyAt seats i c view given link → HasServed v given (port_of view) link (port_of view') link'
      → AccountsForMore v access 0 net seats (option_map (releases link') net) (set seats i (free c' view'))
  frees net seats i c c' view view' given link link' there served first before n accounts =
      let was : IsCounted v access (IsSome before) (first (1 + i)) (sessions_of (1 + i) accounts.sessions) (busy c view given link) =
      subst (IsCounted v access (IsSome before) (first (1 + i)) (sessions_of (1 + i) accounts.sessions)) there.at
      (counted-at v access (IsSome before) first accounts.sessions 1 seats i there.other there.low accounts.counted) in
      frees-own net seats i c c' view view' link link' (subst (λ a. IsBusyAt seats i c view a link) was.1 there)
      (subst (λ a. HasServed v a (port_of view) link (port_of view') link') was.1 served) first before n accounts

  -- a link is accepted: a seat that was free is taken
  pub takes : (net : Option (Served L C M)) (seats : List (ConnectionSeat L)) (i : ℕ) (c : TableId) (view : DirectoryView) (link : L)
      → HasFree seats i c view → IfSome net (λ _. IsFresh v link)
      → AccountsForMore v access 1 net seats (option_map (accepts true) net) (set seats i (busy c view access link))
  takes net seats i c view link there fresh first before n accounts =
      let was : IsCounted v access (IsSome before) (first (1 + i)) (sessions_of (1 + i) accounts.sessions) (free c view) =
      subst (IsCounted v access (IsSome before) (first (1 + i)) (sessions_of (1 + i) accounts.sessions)) there.at
      (counted-at v access (IsSome before) first accounts.sessions 1 seats i there.other there.low accounts.counted) in
      let moved = busy-set seats i (busy c view access link) there.other there.low in
      let none : counts (get_or seats i there.other) ≡ 0 = ap counts there.at in
      record {
        links = accounts.links;
        sessions = accounts.sessions;
        reported = reported-taken before n net accounts.links accounts.reported;
        served = accounts.served;
        numbered = numbered-set seats i (busy c view access link) accounts.sessions accounts.numbered;
        count = omega (arith, accounts.count, moved, none);
        counted = counted-set v access (IsSome before) first accounts.sessions 1 seats i (busy c view access link) accounts.counted
            (was, refl, fresh-where before n net accounts.links accounts.reported fresh);
      }
    where
      -- a net that reported before reports now
      fresh-where : (before : Option (Served L C M)) (n : ℕ) (now : Option (Served L C M)) (links : List L)
          → IsReported before n now links → IfSome now (λ _. IsFresh v link) → IsSome before → IsFresh v link
      fresh-where None n now links r f some = absurd cc
      fresh-where (Some b) n None links r f some = absurd r
      fresh-where (Some b) n (Some now) links r f some = f

  -- two steps in a row, and none
  pub accounts-then : (k m : ℕ) (a b c : Option (Served L C M)) (s t u : List (ConnectionSeat L))
      → AccountsForMore v access k a s b t → AccountsForMore v access m b t c u → AccountsForMore v access (k + m) a s c u
  accounts-then k m a b c s t u one later first before n accounts =
      let P : ℕ → Type 0 = λ x. AreAccountedFor v access first before x c u in
      subst P (add_assoc n k m) (later first before (n + k) (one first before n accounts))

  -- where nothing happens, no link has to be accounted for
  pub accounts-none : (a : Option (Served L C M)) (s : List (ConnectionSeat L)) → AccountsForMore v access 0 a s a s
  accounts-none a s first before n accounts =
      let P : ℕ → Type 0 = λ x. AreAccountedFor v access first before x a s in
      subst P (sym (add-zero n)) accounts

-- what holds of what there is holds beside a fact that holds anyway
pub both-some : {A : Type 0} (o : Option A) (P Q : Type 0) → IfSome o (λ _. P) → Q → IfSome o (λ _. P × Q)
both-some None P Q p q = tt
both-some (Some a) P Q p q = (p, q)

-- a new link is fresh
pub fresh_is : {L A : Type 0} (v : LinkView L) (link : L) (o : Option A) (parts : IfSome o (λ _. IsUnused (v.read link) (v.held link) × HasNoFaults (v.read_faults link) (v.write_faults link)))
    → IfSome o (λ _. IsFresh v link)
fresh_is v link None parts = tt
fresh_is v link (Some a) parts = record { unused = parts.0; sound = parts.1 }

-- a call by which no link came leaves the net as it was
pub accepts-none : {L C M : Type 0} (net : Option (Served L C M)) → option_map (accepts false) net ≡ net
accepts-none None = refl
accepts-none (Some s) = refl

-- ---- net and seats in order

module _ {L C M : Type 0} (v : LinkView L) (access : Access) (cell : TableId) where
  -- no link was accepted
  pub keeps-none : (net : Option (Served L C M)) (seats : List (ConnectionSeat L))
      → AreInOrder cell net seats → KeepsAccounts v access cell 0 net seats net seats
  keeps-none net seats order = record { order = order; accounts = accounts-none v access net seats }

  -- two steps in a row
  pub keeps-then : (k m : ℕ) (a b c : Option (Served L C M)) (s t u : List (ConnectionSeat L))
      → KeepsAccounts v access cell k a s b t → KeepsAccounts v access cell m b t c u → KeepsAccounts v access cell (k + m) a s c u
  keeps-then k m a b c s t u one later = record {
    order = later.order;
    accounts = accounts-then v access k m a b c s t u one.accounts later.accounts;
  }

  -- in the second step no link was accepted
  pub keeps-still : (k : ℕ) (a b c : Option (Served L C M)) (s t u : List (ConnectionSeat L))
      → KeepsAccounts v access cell k a s b t → KeepsAccounts v access cell 0 b t c u → KeepsAccounts v access cell k a s c u
  keeps-still k a b c s t u one later =
      subst (λ n. KeepsAccounts v access cell n a s c u) (add-zero k) (keeps-then k 0 a b c s t u one later)

  -- nothing happens to the seats
  pub seats-none : (net : Option (Served L C M)) (seats : List (ConnectionSeat L)) (x : ℕ) → AreInOrder cell net seats → KeepsSeats v access cell net seats x net seats x
  seats-none net seats x order = record { accounts = keeps-none net seats order; faults = refl }

  -- seats are freed twice in a row
  pub seats-then : (a b c : Option (Served L C M)) (s t u : List (ConnectionSeat L)) (x y z : ℕ)
      → KeepsSeats v access cell a s x b t y → KeepsSeats v access cell b t y c u z → KeepsSeats v access cell a s x c u z
  seats-then a b c s t u x y z one later = record { accounts = keeps-still 0 a b c s t u one.accounts later.accounts; faults = later.faults ∙ one.faults }

  -- the same of a number of links of which something is known, and of the faults
  pub accepts-still : (answer : Result Unit NetFault) (IsKnown : ℕ → Type 0) (a b c : Option (Served L C M)) (s t u : List (ConnectionSeat L)) (x y z : ℕ)
      → AcceptsLinks v access cell answer IsKnown a s x b t y → KeepsSeats v access cell b t y c u z → AcceptsLinks v access cell answer IsKnown a s x c u z
  accepts-still answer IsKnown a b c s t u x y z one later = record {
    count = one.count;
    known = one.known;
    keeps = keeps-still one.count a b c s t u one.keeps later.accounts;
    faults = subst (λ n. CountsFaults answer x n) (sym later.faults) one.faults;
  }

  -- a connection is over: its seat becomes free, and its link is released
  pub keeps-freed : (net : Option (Served L C M)) (seats : List (ConnectionSeat L)) (i : ℕ) (c c' : TableId) (view view' : DirectoryView) (given : Access) (link link' : L)
      → IsBusyAt seats i c view given link → AreInOrder cell net seats → (c' ≡ c) × IsUpToDate view' → HasServed v given (port_of view) link (port_of view') link'
      → KeepsAccounts v access cell 0 net seats (option_map (releases link') net) (set seats i (free c' view'))
  keeps-freed net seats i c c' view view' given link link' there order same served =
      let here = busy-seated cell seats i c view given link there order.seated in
      record {
        order = record {
          seated = seated-set cell seats i (free c' view') order.seated (same.0 ∙ here.0, same.1);
          room = room-freed net seats i c c' view view' given link link' there order.room;
        };
        accounts = frees v access net seats i c c' view view' given link link' there served;
      }

  -- a link is accepted: a seat that was free is taken
  pub keeps-taken : (net : Option (Served L C M)) (seats : List (ConnectionSeat L)) (i : ℕ) (c : TableId) (view : DirectoryView) (link : L)
      → HasFree seats i c view → AreInOrder cell net seats → IfSome net (λ _. IsFresh v link)
      → KeepsAccounts v access cell 1 net seats (option_map (accepts true) net) (set seats i (busy c view access link))
  keeps-taken net seats i c view link there order fresh =
      let here = free-seated cell seats i c view there order.seated in
      record {
        order = record {
          seated = seated-set cell seats i (busy c view access link) order.seated here;
          room = room-taken net seats i c view access link there order.room;
        };
        accounts = takes v access net seats i c view link there fresh;
      }

  -- the acceptor serves a link itself: its seat is taken and becomes free
  pub keeps-served : (net : Option (Served L C M)) (seats : List (ConnectionSeat L)) (i : ℕ) (c c' : TableId) (view view' : DirectoryView) (link link' : L)
      → HasFree seats i c view → AreInOrder cell net seats → IfSome net (λ _. IsFresh v link) → (c' ≡ c) × IsUpToDate view'
      → HasServed v access (port_of view) link (port_of view') link'
      → KeepsAccounts v access cell 1 net seats (option_map (releases link') (option_map (accepts true) net)) (set seats i (free c' view'))
  keeps-served net seats i c c' view view' link link' there order fresh same served =
      let mid : List (ConnectionSeat L) = set seats i (busy c view access link) in
      let twice : set mid i (free c' view') ≡ set seats i (free c' view') = set-set seats i (busy c view access link) (free c' view') in
      let taken : IsBusyAt mid i c view access link = record {
        low = omega (arith, length-set seats i (busy c view access link), there.low);
        other = vacant;
        at = get_or-set_same seats i (busy c view access link) vacant there.low;
      } in
      let one = keeps-taken net seats i c view link there order fresh in
      let over = keeps-freed (option_map (accepts true) net) mid i c c' view view' access link link' taken one.order same served in
      rw (← twice) (keeps-still 1 net (option_map (accepts true) net) _ seats mid _ one over)
