-- A cut leaves a consumer at rest, with its entries.
use Rattle.std.proofs.Common.{◌≡◌, ℕ, Bool, true, false, cond, Option, Some, None, List, [], ◌∷◌, length, refl, sym, ◌∙◌, inl, arith, eqb-true, subst}
use Rattle.std.proofs.lemmas.Bool.{or_parts}
use Rattle.std.specs.Prelude.{◌||◌, ◌==◌, not, is_some, Ok}
use Rattle.directory_writes.specs.Directory.{DirectoryState}
use Rattle.directory_writes.proofs.Keyed.{closed-other}
use Rattle.directory_writes.proofs.Distinct.{AreDistinct, closed-same, distinct-closed}
use Rattle.directory_writes.proofs.Promised.{IsPromised}
use Rattle.dn_names.specs.Names.{TypeAndValue, is_at_or_below}
use Rattle.sync_provider.specs.HandingOut as handing
use Rattle.sync_provider.specs.Machine.{ProviderState}
use Rattle.sync_provider.proofs.Advanced.{Searches, with_searches}
use Rattle.cascade_nodes.specs.declared.node.ConsumerNode.{ConsumerNode}
use Rattle.cascade_nodes.proofs.Fed.{IsAtRest}
use Rattle.cascade_exchange.proofs.Owns.{owns-still, owns-changed}
use Rattle.cascade_world.specs.Cookies.{held_cookie}
use Rattle.cascade_world.specs.Exchange.{Agreement, ExchangeOutcome, agreement_of, copy_of, closed, emptied, given_up, is_busy, cut, idle, name_of}
use Rattle.cascade_laws.specs.Headline.{Known}
use Rattle.cascade_world.specs.Origins.{Lineage}
use Rattle.cascade_world.specs.ReportLines.{ReportLine as reported}
use Rattle.cascade_laws.proofs.Composing.{IsKeptIn, Keeps, promises-still, kept-still, kept-reported}
use Rattle.cascade_laws.proofs.Feeding.{IsSource, IsFed, IsKept}
use Rattle.cascade_laws.proofs.Sharing.{others-none, others-changed}
use Rattle.sync_model.proofs.Refresh.{none_from_false}

abbrev Name : Type 0
Name = List (List TypeAndValue)

-- a provider with other searches is a source still
pub source-searches : (number : ℕ) (suffix : Name) (p : ProviderState) (searches : Searches) → AreDistinct searches → IsSource number suffix p → IsSource number suffix (with_searches p searches)
source-searches number suffix p searches apart source = record {
  first = source.first;
  small = source.small;
  directory = source.directory;
  rises = source.rises;
  ranged = source.ranged;
  good = source.good;
  accepted = source.accepted;
  few = source.few;
  apart = apart;
}

-- what a consumer has when it rests
pub record IsAsBefore (f g : ConsumerNode) : Type 0 where
  pub held : g.consumer.copy.held ≡ f.consumer.copy.held
  pub cookie : g.consumer.copy.cookie ≡ f.consumer.copy.cookie
  pub spec : g.consumer.spec ≡ f.consumer.spec

-- a consumer at rest is fed by any provider with the same writes
pub fed-rest : (number : ℕ) (p q : ProviderState) (f g : ConsumerNode) (known : Known) → q.directory ≡ p.directory → IsFed number p f known → IsAsBefore f g → IsAtRest g
    → IsFed number q g known
fed-rest number p q f g known same fed is rest = record {
  held = is.held ∙ fed.held;
  ascending = fed.ascending;
  cookie = is.cookie ∙ fed.cookie;
  promised =
      subst (λ (d : DirectoryState). IsPromised number g.consumer.spec d.writes known.entries (held_cookie g.consumer.copy.cookie)) (sym same)
      (subst (λ s. IsPromised number s p.directory.writes known.entries (held_cookie g.consumer.copy.cookie)) (sym is.spec)
      (subst (λ c. IsPromised number f.consumer.spec p.directory.writes known.entries (held_cookie c)) (sym is.cookie) fed.promised));
  below = (λ i. is_at_or_below (is.spec i).base (same i).suffix) ∙ fed.below;
  state = inl rest;
}

-- a consumer without a search and with an empty link is at rest
pub emptied_rests : (f : ConsumerNode) → IsAtRest (emptied f (copy_of f))
emptied_rests f = record { search = refl; session = refl; link = refl }

-- a search that is given up leaves the consumer at rest, and no line
pub given_up_kept : (lin : Lineage) (number : ℕ) (suffix : Name) (p : ProviderState) (f : ConsumerNode) (known : Known) → IsSource number suffix p → IsFed number p f known
    → IsKept number suffix (agreement_of p f lin) (given_up (agreement_of p f lin) (copy_of f)) [] known
given_up_kept lin number suffix p f known source fed = by f.search refl
  where
    after : ConsumerNode
    after = emptied f (copy_of f)

    fed_after : (q : ProviderState) → q.directory ≡ p.directory → IsFed number q after known
    fed_after q same = fed-rest number p q f after known same fed (record { held = refl; cookie = refl; spec = refl }) (emptied_rests f)

    by : (own : Option ℕ) → f.search ≡ own → IsKept number suffix (agreement_of p f lin) (agreement_of (closed p own) after lin) [] known
    by None is = record {
      source = source;
      fed = fed_after p refl;
      right = tt;
      same = refl;
      others = others-none lin number p f after is;
      owns = owns-still lin p f after (λ at mine. let bad : None ≡ Some at = sym is ∙ mine in let never : ⊥ = cc in absurd never);
      elsewhere = promises-still number f.consumer.spec known;
    }
    by (Some at) is = record {
      source = source-searches number suffix p (handing.closed p.searches at) (distinct-closed p.searches at source.apart) source;
      fed = fed_after (with_searches p (handing.closed p.searches at)) refl;
      right = tt;
      same = refl;
      others =
          others-changed lin number p (handing.closed p.searches at) f after at is (λ k far. closed-other p.searches at k far)
          (λ k mine. let never : ⊥ = cc in absurd never);
      owns =
          owns-changed lin p (handing.closed p.searches at) f after at is (λ k far. closed-other p.searches at k far)
          (λ s found. let bad : None ≡ Some s = sym (closed-same p.searches at source.apart) ∙ found in let never : ⊥ = cc in absurd never);
      elsewhere = promises-still number f.consumer.spec known;
    }

-- a busy consumer is cut, which its line reports
pub cut_kept : (number : ℕ) (suffix : Name) (pair : Agreement) (known : Known) → IsSource number suffix pair.provider → IsFed number pair.provider pair.consumer_node known
    → IsKept number suffix pair (given_up pair (copy_of pair.consumer_node)) (reported.Cut (name_of pair) ∷ []) known
cut_kept number suffix pair known source fed =
    kept-reported number suffix pair (given_up pair (copy_of pair.consumer_node)) (reported.Cut (name_of pair)) known (λ name k. refl) tt
    (given_up_kept pair.lineage number suffix pair.provider pair.consumer_node known source fed)

-- of one that is not busy nothing is cut, and the line says so
pub nothing_kept : (number : ℕ) (suffix : Name) (pair : Agreement) (name : List ℕ) (known : Known) → IsSource number suffix pair.provider → IsFed number pair.provider pair.consumer_node known
    → IsKept number suffix pair pair (reported.Nothing name ∷ []) known
nothing_kept number suffix pair name known source fed =
    kept-reported number suffix pair pair (reported.Nothing name) known (λ other k. refl) tt (kept-still number suffix pair known source fed)

-- a cut keeps what each part keeps
pub cut_keeps : (number : ℕ) (suffix : Name) → Keeps number suffix cut
cut_keeps number suffix pair known source fed room = by (is_busy pair.consumer_node)
  where
    done : ExchangeOutcome
    done = Ok (given_up pair (copy_of pair.consumer_node), reported.Cut (name_of pair) ∷ [])

    nothing : ExchangeOutcome
    nothing = Ok (pair, reported.Nothing (name_of pair) ∷ [])

    by : (busy : Bool) → IsKeptIn number suffix pair known (cond busy done nothing)
    by true = cut_kept number suffix pair known source fed
    by false = nothing_kept number suffix pair (name_of pair) known source fed

-- so does a cut that comes before another part, where the consumer is busy
pub idle_keeps : (number : ℕ) (suffix : Name) → Keeps number suffix idle
idle_keeps number suffix pair known source fed room = by (is_busy pair.consumer_node)
  where
    by : (busy : Bool) → IsKeptIn number suffix pair known (cond busy (cut pair) (Ok (pair, [])))
    by true = cut_keeps number suffix pair known source fed room
    by false = kept-still number suffix pair known source fed

-- ---- a consumer that is not busy is at rest

link_none : {X : Type 0} (link : List X) → not (length link == 0) ≡ false → link ≡ []
link_none [] h = refl
link_none (x ∷ link) h = by (length (x ∷ link) == 0) refl h
  where
    by : (b : Bool) → (length (x ∷ link) == 0) ≡ b → not b ≡ false → x ∷ link ≡ []
    by true is same = let none : length (x ∷ link) ≡ 0 = eqb-true (length (x ∷ link)) 0 is in absurd (omega (arith, none))
    by false is same = let never : ⊥ = cc in absurd never

-- it has no search and nothing in its link
pub idle_rests : (f : ConsumerNode) → is_busy f ≡ false → IsAtRest f
idle_rests f idle =
    let parts = or_parts (is_some f.search || is_some f.consumer.copy.session) (not (length f.link == 0)) idle in
    let both = or_parts (is_some f.search) (is_some f.consumer.copy.session) parts.0 in
    record { search = none_from_false f.search both.0; session = none_from_false f.consumer.copy.session both.1; link = link_none f.link parts.1 }
