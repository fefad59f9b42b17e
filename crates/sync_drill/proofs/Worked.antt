-- The ports of the writers and the consumers after their threads, by what each step left.
use Rattle.std.proofs.Common.{◌≡◌, ◌+◌, ℕ, suc, List, ◌∷◌, ◌++◌, length, sym, ap, ◌∙◌, subst, arith, length-append}
use Rattle.std.specs.List.{All, AllZip}
use Rattle.std.proofs.lemmas.Slice.Zip.{AllZip-long}
use Rattle.sync_provider.specs.Ports.{PortState}
use Rattle.drill_plan.specs.declared.plan.DrillPlan.{DrillPlan}
use Rattle.sync_drill.specs.declared.following.Following.{Following}
use Rattle.sync_drill.specs.declared.writing.Writing.{Writing}
use Rattle.sync_drill.specs.Drilled.{AreFresh, EachAt, IsFreshPort}
use Rattle.sync_drill.specs.Followed.{HaveWorked}
use Rattle.sync_drill.specs.Following.{BeginsAt, FollowingGoes, IsFollowing, IsUnused}
use Rattle.sync_drill.specs.Journals.{notes_of}
use Rattle.sync_drill.specs.Writers.{AreBegunFrom, HasBegun, HasEnded, WriterGoes, writings_from}
use Rattle.sync_drill.proofs.Begun.{all_begun}
use Rattle.sync_drill.proofs.DrillLeft.{each_worked}
use Rattle.sync_drill.proofs.Finished.{each_finished, finished_count}
use Rattle.sync_drill.proofs.Lists.{each-all}
use Rattle.sync_drill.proofs.Places.{each-back, each-front}

module _ {P H : Type 0} (home : P → H) (state : P → PortState) (plan : DrillPlan) (writers consumers : List P)
    (fresh : AreFresh home state (writers ++ consumers)) (writing : length writers ≡ plan.writers) (following : length consumers ≡ plan.consumers) where
  abbrev many : ℕ
  many = plan.writers + plan.consumers

  abbrev Home : ℕ → P → Type 0
  Home place port = home port ≡ fresh.one_home

  abbrev Fresh : ℕ → P → Type 0
  Fresh number port = IsFreshPort number many (state port)

  states : EachAt Fresh 1 (writers ++ consumers)
  states = subst (λ n. EachAt (λ number port. IsFreshPort number n (state port)) 1 (writers ++ consumers)) count fresh.states
    where
      count : length (writers ++ consumers) ≡ many
      count = length-append writers consumers ∙ (λ i. writing i + following i)

  -- the consumers' ports have no search
  pub unused : All (λ port. IsUnused (state port)) consumers
  unused =
      each-all Fresh (λ port. IsUnused (state port)) (1 + length writers) consumers
      (λ n port is. record { alone = is.followed; none = ap (notes_of (state port).number) is.journal })
      (each-back Fresh 1 writers consumers states)

  module _ (first : P) (others ports : List P) (split : writers ≡ first ∷ others) (began : AreBegunFrom home state first others ports) where
    -- as many writers begin as the plan says
    pub begun_count : length ports ≡ plan.writers
    begun_count = ap length began.are ∙ ap length (sym split) ∙ writing

    each_begun : EachAt (HasBegun home state plan many fresh.one_home) 0 ports
    each_begun =
        all_begun home state plan many fresh.one_home first others ports (omega (arith, ap length split, writing))
        (subst (EachAt Home 0) split (each-front Home 0 writers consumers fresh.homes))
        (subst (EachAt Fresh 1) split (each-front Fresh 1 writers consumers states)) began

    module _ (writings ended : List (Writing P)) (after : List P) (made : writings ≡ writings_from plan 0 ports)
        (goes : AllZip (WriterGoes home state) writings ended) (done : AllZip HasEnded ended after) (begun followed : List (Following P))
        (begin : AllZip (BeginsAt home state) consumers begun) (follow : EachAt (IsFollowing state) 0 begun)
        (gone : AllZip (FollowingGoes home state) begun followed) where
      written : AllZip (WriterGoes home state) (writings_from plan 0 ports) ended
      written = subst (λ ws. AllZip (WriterGoes home state) ws ended) made goes

      -- all of them after their threads
      pub worked : HaveWorked home state plan after followed
      worked =
          let here : 0 + length writers ≡ plan.writers + 0 = omega (arith, writing) in
          let number : 1 + length writers ≡ suc (plan.writers + 0) = omega (arith, writing) in
          record {
            one = fresh.one_home;
            counts = (
              finished_count home state plan many fresh.one_home 0 ports after ended written done ∙ begun_count,
              AllZip-long (FollowingGoes home state) begun followed gone ∙ AllZip-long (BeginsAt home state) consumers begun begin ∙ following,
            );
            writing = each_finished home state plan many fresh.one_home 0 ports after ended each_begun written done;
            following =
                each_worked home state plan.writers many fresh.one_home 0 consumers begun followed (omega (arith, following))
                (subst (λ n. EachAt Home n consumers) here (each-back Home 0 writers consumers fresh.homes))
                (subst (λ n. EachAt Fresh n consumers) number (each-back Fresh 1 writers consumers states)) begin follow gone;
          }
