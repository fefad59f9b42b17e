-- Rounds of a replica, one after another.
use Rattle.std.proofs.Common.{◌≡◌, ◌<◌, ◌≤◌, ◌+◌, ℕ, Bool, true, false, List, [], ◌∷◌, ◌++◌, length, map, Option, Some, None, inl, inr, refl, sym, ap, subst, ◌∙◌, append_assoc, arith}
use Rattle.std.specs.List.{flat_map}
use Rattle.std.specs.Prelude.{All, IfSome, option_map}
use Rattle.std.proofs.lemmas.List.{append-nil, length-append, map-append}
use Rattle.std.proofs.lemmas.List.Concat.{flat_map-append}
use Rattle.std.proofs.lemmas.List.Elements.{All-nil, All-push}
use Rattle.ldap_client.proofs.Given.{all_read, given_none}
use Rattle.ldap_client.specs.Clients.{ClientState, fresh}
use Rattle.ldap_client.specs.Links.{LinkState}
use Rattle.ldap_filter.specs.FilterTree.{depth}
use Rattle.ldap_messages.specs.declared.message.Message.{Message}
use Rattle.ldap_session.specs.Incoming.{incoming_in}
use Rattle.sync_consumer.specs.Taking as taking
use Rattle.sync_consumer.specs.declared.commit.Commit.{Commit}
use Rattle.sync_io.specs.Dial.{Dialled, dials, hangs_up}
use Rattle.sync_io.specs.Links.{HasNoFaults, IsUnused}
use Rattle.sync_model.specs.Copy as model
use Rattle.sync_provider.specs.Ports.{PortState}
use Rattle.sync_provider.specs.declared.writing.CommitFault.TheVariants as fault
use Rattle.replica_node.specs.Following.{EndsOver, ReplicaState, outcome_of, replica_at, round_at}
use Rattle.replica_node.specs.ReplicaRounds.{AreOver, Does, DoesAll, DoesRound, FollowsLink, IsDialled, IsReported, LinkRound, OverLink, ReplicaRound, TriesRound, Unlinked, all_commits, came, commits_of, link_of, round_outcome}
use Rattle.replica_node.specs.Replicas.{Follows, IsLimited, IsOutOfMemory}
use Rattle.replica_node.specs.Rounds.{EndedWith, Faulted, IsSeen, LinkFailed, OutOfMemory, ReadToEnd, Refused, RoundEnd, Uncommitted, Wanted, searching, wanted_by}
use Rattle.replica_node.specs.declared.end.NodeEnd.{NodeEnd}
use Rattle.replica_node.specs.declared.end.NodeEnd.TheVariants as node
use Rattle.replica_node.specs.declared.end.RoundOutcome.{RoundOutcome}
use Rattle.replica_node.specs.declared.end.RoundOutcome.TheVariants.{LimitReached, NoMemory, Over}
use Rattle.replica_node.proofs.Holding.{prefixes_last, prefixes_over}

-- the rounds that were tried so far, after each of which another one may come
pub record HasFollowed {L : Type 0}
    (seen : L → LinkState) (address : List ℕ) (wanted : Wanted) (port : PortState) (before : Option (Dialled L)) (rounds tried : ℕ) (replica : ReplicaState) (after : Option (Dialled L))
    : Type 0 where
  pub done : List (ReplicaRound L)
  pub does : DoesAll wanted taking.nothing port done replica.copy replica.port
  pub dialled : IsDialled address done before after
  pub reported : All (IsReported seen wanted before) done
  pub over : AreOver done
  pub counted : replica.stored ≡ all_commits done
  pub number : 0 < rounds → (tried ≡ length done) × (tried ≤ rounds)

-- what one round more does to them
pub record FollowsMore {L : Type 0}
    (seen : L → LinkState) (address : List ℕ) (wanted : Wanted) (port : PortState) (before : Option (Dialled L)) (done : List (ReplicaRound L)) (round : ReplicaRound L) (replica : ReplicaState)
    (after : Option (Dialled L)) : Type 0 where
  pub does : DoesAll wanted taking.nothing port (done ++ round ∷ []) replica.copy replica.port
  pub dialled : IsDialled address (done ++ round ∷ []) before after
  pub reported : All (IsReported seen wanted before) (done ++ round ∷ [])
  pub counted : replica.stored ≡ all_commits (done ++ round ∷ [])

-- how a round ends by a limit
record EndsLimited {L : Type 0} (limit : ℕ) (round : ReplicaRound L) : Type 0 where
  last : LinkRound L
  is : round ≡ OverLink last
  message : Message
  commit : Commit
  end_is : last.end ≡ Uncommitted message commit (fault.LimitReached limit)

-- where what is wanted stays, the depth of its filter stays
pub filter_stays : (old new : taking.ConsumerState) → wanted_by old ≡ wanted_by new → depth old.spec.filter ≤ 32 → depth new.spec.filter ≤ 32
filter_stays old new same within = subst (λ (w : Wanted). depth w.spec.filter ≤ 32) same within

module _ {L : Type 0} where
  -- ---- the dialler

  -- a link that came can be hung up
  pub can_hang_up : (address : List ℕ) (before after : Option (Dialled L)) → IfSome before (λ (d : Dialled L). length d.hung_up ≤ d.came) → after ≡ option_map (dials address true) before
      → IfSome after (λ (d : Dialled L). length d.hung_up < d.came)
  can_hang_up address None after within is = subst (λ (a : Option (Dialled L)). IfSome a (λ (d : Dialled L). length d.hung_up < d.came)) (sym is) tt
  can_hang_up address (Some b) after within is = subst (λ (a : Option (Dialled L)). IfSome a (λ (d : Dialled L). length d.hung_up < d.came)) (sym is) (omega (arith, within))

  -- no link came
  pub unlinked_dialled : (address : List ℕ) (before after : Option (Dialled L)) → after ≡ option_map (dials address false) before → IsDialled address (Unlinked ∷ []) before after
  unlinked_dialled address None after is = is
  unlinked_dialled address (Some b) after is =
      subst (λ (a : Option (Dialled L)). IsDialled address (Unlinked ∷ []) (Some b) a) (sym is) (refl, omega arith, sym (append-nil b.hung_up))

  -- a link came, and was hung up
  pub linked_dialled : (address : List ℕ) (round : LinkRound L) (before after : Option (Dialled L)) → after ≡ option_map (hangs_up round.link) (option_map (dials address true) before)
      → IsDialled address (OverLink round ∷ []) before after
  linked_dialled address round None after is = is
  linked_dialled address round (Some b) after is =
      subst (λ (a : Option (Dialled L)). IsDialled address (OverLink round ∷ []) (Some b) a) (sym is) (refl, omega arith, refl)

  came_more : (done : List (ReplicaRound L)) (round : ReplicaRound L) → length (flat_map link_of (done ++ round ∷ [])) ≡ length (flat_map link_of done) + length (flat_map link_of (round ∷ []))
  came_more done round = ap length (flat_map-append link_of done (round ∷ [])) ∙ length-append (flat_map link_of done) (flat_map link_of (round ∷ []))

  -- one round more
  pub dialled_more : (address : List ℕ) (done : List (ReplicaRound L)) (round : ReplicaRound L) (before mid after : Option (Dialled L)) → IsDialled address done before mid
      → IsDialled address (round ∷ []) mid after → IsDialled address (done ++ round ∷ []) before after
  dialled_more address done round None mid after so_far more =
      subst (λ (m : Option (Dialled L)). IsDialled address (round ∷ []) m after → IsDialled address (done ++ round ∷ []) None after) (sym so_far) (λ is. is) more
  dialled_more address done round (Some b) None after so_far more = absurd so_far
  dialled_more address done round (Some b) (Some m) None so_far more = absurd more
  dialled_more address done round (Some b) (Some m) (Some a) so_far more =
      let asks : ReplicaRound L → List ℕ × Bool = λ r. (address, came r) in
      let count = came_more done round in (
        more.0
            ∙ ap (λ asked. asked ++ map asks (round ∷ [])) so_far.0
            ∙ append_assoc b.asked (map asks done) (map asks (round ∷ []))
            ∙ ap (λ asked. b.asked ++ asked) (sym (map-append asks done (round ∷ []))),
        omega (arith, more.1, so_far.1, count),
        more.2
            ∙ ap (λ links. links ++ flat_map link_of (round ∷ [])) so_far.2
            ∙ append_assoc b.hung_up (flat_map link_of done) (flat_map link_of (round ∷ []))
            ∙ ap (λ links. b.hung_up ++ links) (sym (flat_map-append link_of done (round ∷ []))),
      )

  -- a dialler that reports what it does goes on doing so
  unused_since : (address : List ℕ) (done : List (ReplicaRound L)) (before mid : Option (Dialled L)) (P : Type 0) → IsDialled address done before mid → IfSome mid (λ _. P) → IfSome before (λ _. P)
  unused_since address done None mid P so_far known = tt
  unused_since address done (Some b) None P so_far known = absurd so_far
  unused_since address done (Some b) (Some m) P so_far known = known

  -- the rounds before one more are reported still
  pub reported_since : (seen : L → LinkState) (wanted : Wanted) (address : List ℕ) (done : List (ReplicaRound L)) (before mid : Option (Dialled L)) (round : ReplicaRound L)
      → IsDialled address done before mid → IsReported seen wanted mid round → IsReported seen wanted before round
  reported_since seen wanted address done before mid Unlinked so_far reported = tt
  reported_since seen wanted address done before mid (OverLink round) so_far reported =
      (reported.0, unused_since address done before mid (IsUnused round.first.read round.first.held) so_far reported.1, reported.2)

  -- ---- one round

  -- no link came
  pub round_unlinked : (seen : L → LinkState) (wanted : Wanted) (address : List ℕ) (before after : Option (Dialled L)) (replica : ReplicaState) → after ≡ option_map (dials address false) before
      → DoesRound seen wanted address before replica Over after replica
  round_unlinked seen wanted address before after replica is = record {
    round = Unlinked;
    does = (refl, refl);
    dialled = unlinked_dialled address before after is;
    reported = tt;
    outcome_is = refl;
    counted = omega arith;
  }

  -- the search was followed over a link that came
  pub round_linked : (seen : L → LinkState) (wanted : Wanted) (address : List ℕ) (before mid after : Option (Dialled L)) (old new : ReplicaState) (outcome : RoundOutcome) (link : L)
      → mid ≡ option_map (dials address true) before → HasNoFaults (seen link).read_faults (seen link).write_faults → IfSome before (λ _. IsUnused (seen link).read (seen link).held)
      → FollowsLink seen wanted link mid old outcome after new → DoesRound seen wanted address before old outcome after new
  round_linked seen wanted address before mid after old new outcome link is sound unused follows =
      let round : LinkRound L = record { first = seen link; link = follows.back; copy = old.copy; steps = follows.steps; end = follows.end } in
      record {
        round = OverLink round;
        does = (refl, follows.follows);
        dialled = linked_dialled address round before after (follows.dialled ∙ ap (option_map (hangs_up follows.back)) is);
        reported = (sound, unused, follows.seen_is);
        outcome_is = follows.outcome_is;
        counted = follows.counted;
      }

  -- memory ran out before anything was done over a link that came
  pub link_unused : (seen : L → LinkState) (wanted : Wanted) (link : L) (before after : Option (Dialled L)) (old : ReplicaState) (copy : model.Copy) → copy ≡ taking.without_search old.copy
      → after ≡ option_map (hangs_up link) before → FollowsLink seen wanted link before old NoMemory after (record old { copy = copy })
  link_unused seen wanted link before after old copy cut hung = record {
    back = link;
    steps = [];
    end = OutOfMemory;
    follows = record {
      between = searching old.copy;
      between_port = old.port;
      after = searching old.copy;
      takes = (refl, refl);
      ends = (refl, refl);
      cut = cut;
    };
    seen_is = record {
      written = inr (refl, inr (refl, refl));
      read = (incoming_in [], all_read (seen link) [] (fresh (seen link)) (given_none (seen link)));
      failed = λ is. absurd (let wrong : OutOfMemory ≡ LinkFailed = is in cc);
    };
    dialled = hung;
    outcome_is = refl;
    counted = omega arith;
  }

  -- the client of the link gives it back, and it is hung up
  pub link_followed : (seen : L → LinkState) (wanted : Wanted) (link back now : L) (first client : ClientState) (before after : Option (Dialled L)) (old new : ReplicaState) (outcome : RoundOutcome)
      → first ≡ fresh (seen link) → back ≡ now → client.link ≡ seen now → EndsOver (record { wanted = wanted; replica = old; link = first.link }) (round_at client new) outcome
      → after ≡ option_map (hangs_up back) before → FollowsLink seen wanted link before old outcome after new
  link_followed seen wanted link back now first client before after old new outcome begun same given ends hung =
      let first_link : first.link ≡ seen link = ap (λ (s : ClientState). s.link) begun in
      let ends' = subst (λ (l : LinkState). EndsOver (record { wanted = wanted; replica = old; link = l }) (round_at client new) outcome) first_link ends in
      record {
        back = back;
        steps = ends'.steps;
        end = ends'.end;
        follows = ends'.follows;
        seen_is = subst (λ (l : LinkState). IsSeen wanted old.copy (seen link) l ends'.steps ends'.end) (given ∙ ap seen (sym same)) ends'.seen;
        dialled = hung;
        outcome_is = ends'.outcome_is;
        counted = ends'.counted;
      }

  -- one connection was tried
  pub round_tried : (seen : L → LinkState) (wanted : Wanted) (address : List ℕ) (before after : Option (Dialled L)) (old new : ReplicaState) (outcome : RoundOutcome)
      → DoesRound seen wanted address before old outcome after new → TriesRound seen wanted address before old outcome after new
  round_tried seen wanted address before after old new NoMemory does = inl does
  round_tried seen wanted address before after old new Over does = does
  round_tried seen wanted address before after old new (LimitReached limit) does = does

  -- ---- one after another

  does_more : (wanted : Wanted) (done : List (ReplicaRound L)) (round : ReplicaRound L) (copy mid copy' : model.Copy) (port mid_port port' : PortState) → DoesAll wanted copy port done mid mid_port
      → Does wanted mid mid_port round copy' port' → DoesAll wanted copy port (done ++ round ∷ []) copy' port'
  does_more wanted [] round copy mid copy' port mid_port port' is does = (
    copy',
    port',
    subst (λ (c : model.Copy). Does wanted c port round copy' port') is.0 (subst (λ (p : PortState). Does wanted mid p round copy' port') is.1 does),
    (refl, refl),
  )
  does_more wanted (first ∷ more) round copy mid copy' port mid_port port' all does =
      (all.0, all.1, all.2, does_more wanted more round all.0 mid copy' all.1 mid_port port' all.3 does)

  commits_more : (done : List (ReplicaRound L)) (round : ReplicaRound L) → all_commits (done ++ round ∷ []) ≡ all_commits done + commits_of round
  commits_more [] round = omega arith
  commits_more (first ∷ more) round = omega (arith, commits_more more round)

  nothing_dialled : (address : List ℕ) (before : Option (Dialled L)) → IsDialled address [] before before
  nothing_dialled address None = refl
  nothing_dialled address (Some b) = (sym (append-nil b.asked), omega arith, sym (append-nil b.hung_up))

  -- at first there is no round
  pub followed_none : (seen : L → LinkState) (address : List ℕ) (wanted : Wanted) (port : PortState) (before : Option (Dialled L)) (rounds : ℕ) (copy : model.Copy) → copy ≡ taking.nothing
      → HasFollowed seen address wanted port before rounds 0 (replica_at copy port 0) before
  followed_none seen address wanted port before rounds copy empty = record {
    done = [];
    does = (empty, refl);
    dialled = nothing_dialled address before;
    reported = All-nil (IsReported seen wanted before);
    over = All-nil (λ (round : ReplicaRound L). round_outcome round ≡ Over);
    counted = refl;
    number = λ some. (refl, omega arith);
  }

  -- one round more
  pub follows_more : (seen : L → LinkState) (address : List ℕ) (wanted : Wanted) (port : PortState) (before : Option (Dialled L)) (rounds tried : ℕ) (old new : ReplicaState) (mid after : Option (Dialled L))
      (outcome : RoundOutcome) (so_far : HasFollowed seen address wanted port before rounds tried old mid) (more : DoesRound seen wanted address mid old outcome after new)
      → FollowsMore seen address wanted port before so_far.done more.round new after
  follows_more seen address wanted port before rounds tried old new mid after outcome so_far more =
      let count : all_commits (so_far.done ++ more.round ∷ []) ≡ all_commits so_far.done + commits_of more.round = commits_more so_far.done more.round in
      record {
        does = does_more wanted so_far.done more.round taking.nothing old.copy new.copy port old.port new.port so_far.does more.does;
        dialled = dialled_more address so_far.done more.round before mid after so_far.dialled more.dialled;
        reported = All-push (IsReported seen wanted before) so_far.done more.round so_far.reported
            (reported_since seen wanted address so_far.done before mid more.round so_far.dialled more.reported);
        counted = more.counted ∙ ap (λ (n : ℕ). n + commits_of more.round) so_far.counted ∙ sym count;
      }

  -- another one may come
  pub followed_more : (seen : L → LinkState) (address : List ℕ) (wanted : Wanted) (port : PortState) (before : Option (Dialled L)) (rounds tried tried' : ℕ) (old new : ReplicaState) (mid after : Option (Dialled L))
      → HasFollowed seen address wanted port before rounds tried old mid → DoesRound seen wanted address mid old Over after new → (0 < rounds → (tried' ≡ tried + 1) × (tried' ≤ rounds))
      → HasFollowed seen address wanted port before rounds tried' new after
  followed_more seen address wanted port before rounds tried tried' old new mid after so_far more number =
      let follows = follows_more seen address wanted port before rounds tried old new mid after Over so_far more in
      let longer : length (so_far.done ++ more.round ∷ []) ≡ length so_far.done + length (more.round ∷ []) = length-append so_far.done (more.round ∷ []) in
      record {
        done = so_far.done ++ more.round ∷ [];
        does = follows.does;
        dialled = follows.dialled;
        reported = follows.reported;
        over = All-push (λ (round : ReplicaRound L). round_outcome round ≡ Over) so_far.done more.round so_far.over (sym more.outcome_is);
        counted = follows.counted;
        number = λ some.
            let was = so_far.number some in
            let now = number some in
            (omega (arith, was.0, now.0, longer), now.1);
      }

  -- ---- the end

  -- as many connections were tried as were to be
  pub rounds_done : (seen : L → LinkState) (address : List ℕ) (wanted : Wanted) (port : PortState) (before : Option (Dialled L)) (rounds tried : ℕ) (replica : ReplicaState) (after : Option (Dialled L))
      → HasFollowed seen address wanted port before rounds tried replica after → 0 < rounds → tried ≡ rounds
      → Follows seen address wanted rounds port before (node.Rounds replica.stored) replica.port after
  rounds_done seen address wanted port before rounds tried replica after so_far some all = record {
    done = so_far.done;
    copy = replica.copy;
    does = so_far.does;
    dialled = so_far.dialled;
    reported = so_far.reported;
    ends = (so_far.over, sym (so_far.number some).0 ∙ all, some, so_far.counted);
    prefixes = prefixes_over wanted port replica.port so_far.done replica.copy so_far.does so_far.over;
  }

  ends_limited : (limit : ℕ) (round : ReplicaRound L) → LimitReached limit ≡ round_outcome round → EndsLimited limit round
  ends_limited limit Unlinked is = absurd (let wrong : LimitReached limit ≡ Over = is in cc)
  ends_limited limit (OverLink round) is = by round.end refl is
    where
      by : (end : RoundEnd) → round.end ≡ end → LimitReached limit ≡ outcome_of end → EndsLimited limit (OverLink round)
      by ReadToEnd at is = absurd (let wrong : LimitReached limit ≡ Over = is in cc)
      by (Refused place) at is = absurd (let wrong : LimitReached limit ≡ Over = is in cc)
      by LinkFailed at is = absurd (let wrong : LimitReached limit ≡ Over = is in cc)
      by (EndedWith message code) at is = absurd (let wrong : LimitReached limit ≡ Over = is in cc)
      by (Faulted message found) at is = absurd (let wrong : LimitReached limit ≡ Over = is in cc)
      by (Uncommitted message commit (fault.DuplicateName one other)) at is = absurd (let wrong : LimitReached limit ≡ Over = is in cc)
      by (Uncommitted message commit fault.NotAReplica) at is = absurd (let wrong : LimitReached limit ≡ Over = is in cc)
      by (Uncommitted message commit fault.NoMemory) at is = absurd (let wrong : LimitReached limit ≡ NoMemory = is in cc)
      by OutOfMemory at is = absurd (let wrong : LimitReached limit ≡ NoMemory = is in cc)
      by (Uncommitted message commit (fault.LimitReached most)) at is =
          let passed : LimitReached limit ≡ LimitReached most = is in
          let same : limit ≡ most = cc in
          record { last = round; is = refl; message = message; commit = commit; end_is = at ∙ ap (λ (n : ℕ). Uncommitted message commit (fault.LimitReached n)) (sym same) }

  -- the last commit passes a limit
  pub limited : (seen : L → LinkState) (address : List ℕ) (wanted : Wanted) (port : PortState) (before : Option (Dialled L)) (rounds tried limit : ℕ) (old new : ReplicaState) (mid after : Option (Dialled L))
      → HasFollowed seen address wanted port before rounds tried old mid → DoesRound seen wanted address mid old (LimitReached limit) after new → (0 < rounds → tried < rounds)
      → Follows seen address wanted rounds port before (node.LimitReached limit) new.port after
  limited seen address wanted port before rounds tried limit old new mid after so_far more number =
      let follows = follows_more seen address wanted port before rounds tried old new mid after (LimitReached limit) so_far more in
      let end = ends_limited limit more.round more.outcome_is in
      let done = so_far.done ++ more.round ∷ [] in
      let longer : length done ≡ length so_far.done + length (more.round ∷ []) = length-append so_far.done (more.round ∷ []) in
      let passed : IsLimited limit done =
      record {
        before = so_far.done;
        over = so_far.over;
        last = end.last;
        rounds_are = ap (λ (round : ReplicaRound L). so_far.done ++ round ∷ []) end.is;
        message = end.message;
        commit = end.commit;
        end_is = end.end_is;
      } in
      record {
        done = done;
        copy = new.copy;
        does = follows.does;
        dialled = follows.dialled;
        reported = follows.reported;
        ends = (passed, λ some. omega (arith, (so_far.number some).0, number some, longer));
        prefixes = prefixes_last wanted port new.port passed.before passed.last done new.copy passed.rounds_are follows.does passed.over;
      }

  -- memory ran out before another round
  stopped : (seen : L → LinkState) (address : List ℕ) (wanted : Wanted) (port : PortState) (before : Option (Dialled L)) (rounds tried : ℕ) (replica : ReplicaState) (after : Option (Dialled L))
      → HasFollowed seen address wanted port before rounds tried replica after → Follows seen address wanted rounds port before node.NoMemory replica.port after
  stopped seen address wanted port before rounds tried replica after so_far = record {
    done = so_far.done;
    copy = replica.copy;
    does = so_far.does;
    dialled = so_far.dialled;
    reported = so_far.reported;
    ends = (inl so_far.over, λ some. let number = so_far.number some in omega (arith, number.0, number.1));
    prefixes = prefixes_over wanted port replica.port so_far.done replica.copy so_far.does so_far.over;
  }

  -- before the first one
  pub none_followed : (seen : L → LinkState) (address : List ℕ) (wanted : Wanted) (rounds : ℕ) (port : PortState) (before : Option (Dialled L))
      → Follows seen address wanted rounds port before node.NoMemory port before
  none_followed seen address wanted rounds port before =
      stopped seen address wanted port before rounds 0 (replica_at taking.nothing port 0) before (followed_none seen address wanted port before rounds taking.nothing refl)

  -- in the last one
  stopped_in : (done : List (ReplicaRound L)) (round : ReplicaRound L) → AreOver done → NoMemory ≡ round_outcome round → IsOutOfMemory (done ++ round ∷ [])
  stopped_in done Unlinked over is = absurd (let wrong : NoMemory ≡ Over = is in cc)
  stopped_in done (OverLink round) over is = record { before = done; over = over; last = round; rounds_are = refl; out = sym is }

  -- in the last one, or before another one
  pub ran_out : (seen : L → LinkState) (address : List ℕ) (wanted : Wanted) (port : PortState) (before : Option (Dialled L)) (rounds tried : ℕ) (old new : ReplicaState) (mid after : Option (Dialled L))
      → HasFollowed seen address wanted port before rounds tried old mid → TriesRound seen wanted address mid old NoMemory after new → (0 < rounds → tried < rounds)
      → Follows seen address wanted rounds port before node.NoMemory new.port after
  ran_out seen address wanted port before rounds tried old new mid after so_far (inl more) number =
      let follows = follows_more seen address wanted port before rounds tried old new mid after NoMemory so_far more in
      let done = so_far.done ++ more.round ∷ [] in
      let out = stopped_in so_far.done more.round so_far.over more.outcome_is in
      let longer : length done ≡ length so_far.done + length (more.round ∷ []) = length-append so_far.done (more.round ∷ []) in
      record {
        done = done;
        copy = new.copy;
        does = follows.does;
        dialled = follows.dialled;
        reported = follows.reported;
        ends = (inr out, λ some. omega (arith, (so_far.number some).0, number some, longer));
        prefixes = prefixes_last wanted port new.port out.before out.last done new.copy out.rounds_are follows.does out.over;
      }
  ran_out seen address wanted port before rounds tried old new mid after so_far (inr same) number =
      subst (λ (r : ReplicaState). Follows seen address wanted rounds port before node.NoMemory r.port after) (sym same.1)
      (subst (λ (a : Option (Dialled L)). Follows seen address wanted rounds port before node.NoMemory old.port a) (sym same.0)
      (stopped seen address wanted port before rounds tried old mid so_far))

  -- ---- the same under other words

  -- a round for the same wish
  pub round_wanting : (seen : L → LinkState) (wanted wanted' : Wanted) (address : List ℕ) (before after : Option (Dialled L)) (old new : ReplicaState) (outcome : RoundOutcome) → wanted ≡ wanted'
      → TriesRound seen wanted address before old outcome after new → TriesRound seen wanted' address before old outcome after new
  round_wanting seen wanted wanted' address before after old new outcome same tries = subst (λ (w : Wanted). TriesRound seen w address before old outcome after new) same tries

  -- rounds for the same wish and address
  pub follows_wanting : (seen : L → LinkState) (address address' : List ℕ) (wanted wanted' : Wanted) (rounds : ℕ) (port port' : PortState) (before after : Option (Dialled L)) (end : NodeEnd)
      → address ≡ address' → wanted ≡ wanted' → Follows seen address wanted rounds port before end port' after → Follows seen address' wanted' rounds port before end port' after
  follows_wanting seen address address' wanted wanted' rounds port port' before after end at same follows =
      subst (λ (a : List ℕ). Follows seen a wanted' rounds port before end port' after) at
      (subst (λ (w : Wanted). Follows seen address w rounds port before end port' after) same follows)
