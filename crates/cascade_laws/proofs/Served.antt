-- What a cookie has to do with the answer to a consumer that asks, and with where its search begins.
use Rattle.std.proofs.Common.{◌≡◌, ◌≤◌, ℕ, Bool, true, false, cond, Option, Some, None, List, length, take, refl, ap, sym, ◌∙◌, inl, inr, arith, subst, eqb-true, eq-eqb}
use Rattle.std.specs.Prelude.{◌&&◌, ◌==◌, not, is_some, nat_le, Ok}
use Rattle.std.proofs.lemmas.Bool.{and_parts, not-true, not-false}
use Rattle.std.proofs.lemmas.Bool.Decides.{nat_tests}
use Rattle.ldap_constants.specs.declared.result_codes.TheConstants.{NO_SUCH_OBJECT, E_SYNC_REFRESH_REQUIRED}
use Rattle.csn_cookie.specs.Cookie.{cookie_of_text, is_blank}
use Rattle.csn_cookie.specs.Csn.{CsnValue, start, is_upto, is_before, upto}
use Rattle.csn_cookie.specs.declared.cookie.Cookie.{Cookie}
use Rattle.csn_cookie.proofs.CookieLemmas.{cookie_of_text-spelled, spelled-cookie_of_text, is_blank-blank, blank-is_blank}
use Rattle.csn_cookie.proofs.UptoLemmas.{not_before_upto, is_upto_then, upto_more}
use Rattle.dn_names.specs.Names.{is_at_or_below}
use Rattle.entry_tree.specs.Selection.{Search}
use Rattle.entry_tree.specs.State.{ascends}
use Rattle.entry_tree.specs.declared.entry.Entry.{Entry}
use Rattle.entry_tree.specs.declared.op.Write.{Write}
use Rattle.session_log.specs.Log.{covers}
use Rattle.sync_messages.specs.declared.request.SyncRequest.{SyncRequest}
use Rattle.sync_messages.specs.declared.request.Mode.{Mode}
use Rattle.sync_model.specs.Incremental.{number_of}
use Rattle.sync_model.specs.Law.{MayBegin, IsContentWithin}
use Rattle.sync_model.specs.Stream.{SyncOperation}
use Rattle.sync_model.specs.Stream.Start.{DeletePhase, PresentPhase}
use Rattle.sync_model.proofs.Incremental.{number_of-phase}
use Rattle.directory_writes.specs.Starting.{is_ours, prefix_of, prefix_of_cookie, start_at}
use Rattle.sync_provider.specs.Accepting.{has_cookie, refused_or_opened, numbered, free_number}
use Rattle.directory_writes.specs.Directory.{DirectoryState, CsnsRise, last_csn, last_csn_of, csns}
use Rattle.sync_provider.specs.Machine.{ProviderState}
use Rattle.sync_provider.specs.Search.{session_of}
use Rattle.sync_provider.specs.declared.searches.Accepted.{Accepted}
use Rattle.sync_provider.specs.declared.searches.Accepted.TheVariants as accepted
use Rattle.directory_writes.proofs.Csns.{upto_csn}
use Rattle.directory_writes.proofs.Promised.{IsContent, IsPromised}
use Rattle.cascade_world.specs.Cookies.{held_cookie, is_of_node, is_not_before, goes_beyond}
use Rattle.cascade_laws.specs.Headline.{IsServable, IsServedCookie, IsUnserved, BeginsFrom}
use Rattle.cascade_world.specs.Opening.{answer_to_request}

not_both : (b : Bool) → not b ≡ true → b ≡ true → ⊥
not_both true n y = cc
not_both false n y = cc

-- what an opening, or a refusal, says of a cookie: a search is refused with e-syncRefreshRequired alone
abbrev pub Says : ℕ → List Write → Bool → Accepted → Option (List ℕ) → Type 0
Says number writes reload (accepted.Opened at count) cookie = IsServedCookie reload number writes cookie
Says number writes reload (accepted.Refused code) cookie = (code ≡ E_SYNC_REFRESH_REQUIRED) × IsUnserved reload number writes cookie
Says number writes reload accepted.NoMemory cookie = ⊥

-- ---- a cookie that can be served

module _ (d : DirectoryState) (number : ℕ) (sid : d.sid ≡ number) (history : d.history ≡ number) where
  last_is : last_csn_of d ≡ last_csn (start number) d.writes
  last_is = ap (λ n. last_csn (start n) d.writes) sid

  ours_servable : (text : List ℕ) (cookie : Cookie) → cookie_of_text text ≡ Some cookie → is_ours d cookie ≡ true → IsServable text number d.writes
  ours_servable text cookie read ours =
      let parts = and_parts (cookie.history == d.history) (is_upto cookie.csn (last_csn_of d)) ours in
      let spelled = cookie_of_text-spelled text cookie read in
      record {
        cookie = cookie;
        good = spelled.0;
        spells = spelled.1;
        own = eqb-true cookie.history d.history parts.0 ∙ history;
        not_greater = ap (is_upto cookie.csn) (sym last_is) ∙ parts.1;
      }

  servable_ours : (text : List ℕ) → IsServable text number d.writes → is_some (prefix_of_cookie d (Some text)) ≡ true
  servable_ours text is =
      let read : cookie_of_text text ≡ Some is.cookie = spelled-cookie_of_text text is.cookie is.good is.spells in
      let own : (is.cookie.history == d.history) ≡ true = eq-eqb is.cookie.history d.history (is.own ∙ sym history) in
      let upto' : is_upto is.cookie.csn (last_csn_of d) ≡ true = ap (is_upto is.cookie.csn) last_is ∙ is.not_greater in
      let both : is_ours d is.cookie ≡ true = ap (λ b. b && is_upto is.cookie.csn (last_csn_of d)) own ∙ upto' in
      ap (λ c. is_some (prefix_of d c)) read ∙ ap (λ b. is_some (cond b (Some (upto (csns d.writes) is.cookie.csn)) None)) both

  prefix_servable : (text : List ℕ) (found : Option ℕ) → prefix_of_cookie d (Some text) ≡ found → is_some found ≡ true → IsServable text number d.writes
  prefix_servable text found is there = by (cookie_of_text text) refl (ap is_some is ∙ there)
    where
      by_ours : (cookie : Cookie) → cookie_of_text text ≡ Some cookie → (b : Bool) → is_ours d cookie ≡ b → is_some (cond b (Some (upto (csns d.writes) cookie.csn)) None) ≡ true → IsServable text number d.writes
      by_ours cookie read true ours there = ours_servable text cookie read ours
      by_ours cookie read false ours there = let never : ⊥ = cc in absurd never

      by : (read : Option Cookie) → cookie_of_text text ≡ read → is_some (prefix_of d read) ≡ true → IsServable text number d.writes
      by None read there = let never : ⊥ = cc in absurd never
      by (Some cookie) read there = by_ours cookie read (is_ours d cookie) refl there

  -- ---- whether it is in the way

  -- not blank, not servable, and not to be left aside
  abbrev is_lost : Option (List ℕ) → Bool → Bool
  is_lost cookie reload = has_cookie cookie && (not (is_some (prefix_of_cookie d cookie)) && not reload)

  lost_unserved : (cookie : Option (List ℕ)) (reload : Bool) → is_lost cookie reload ≡ true → IsUnserved reload number d.writes cookie
  lost_unserved None reload h = let never : ⊥ = cc in absurd never
  lost_unserved (Some text) reload h =
      let parts = and_parts (has_cookie (Some text)) (not (is_some (prefix_of_cookie d (Some text))) && not reload) h in
      let both = and_parts (not (is_some (prefix_of_cookie d (Some text)))) (not reload) parts.1 in (
        not-true reload both.1,
        λ blank. not_both (is_blank text) parts.0 (blank-is_blank text blank),
        λ serves. not_both (is_some (prefix_of_cookie d (Some text))) both.0 (servable_ours text serves),
      )

  kept_served : (cookie : Option (List ℕ)) (reload : Bool) → is_lost cookie reload ≡ false → IsServedCookie reload number d.writes cookie
  kept_served None reload h = tt
  kept_served (Some text) reload h = by (is_blank text) refl (prefix_of_cookie d (Some text)) refl reload h
    where
      by : (blank : Bool) → is_blank text ≡ blank → (found : Option ℕ) → prefix_of_cookie d (Some text) ≡ found → (r : Bool) → (not blank && (not (is_some found) && not r)) ≡ false
          → IsServedCookie r number d.writes (Some text)
      by true blank found is r h = inr (inl (is_blank-blank text blank))
      by false blank (Some n) is r h = inr (inr (prefix_servable text (Some n) is refl))
      by false blank None is true h = inl refl
      by false blank None is false h = let never : ⊥ = cc in absurd never

  -- ---- what the answer says of it

  abbrev Request : Mode → Option (List ℕ) → Bool → SyncRequest
  Request mode cookie reload = record { mode = mode; cookie = cookie; reload_hint = reload }

  numbered_says : (at : ℕ) (mode : Mode) (cookie : Option (List ℕ)) (reload : Bool) → Says number d.writes reload (numbered d (Request mode cookie reload) (Some at)) cookie
  numbered_says at mode cookie reload = by (is_lost cookie reload) refl
    where
      by : (lost : Bool) → is_lost cookie reload ≡ lost → Says number d.writes reload (refused_or_opened d at (cond lost (Some E_SYNC_REFRESH_REQUIRED) None)) cookie
      by true lost = (refl, lost_unserved cookie reload lost)
      by false lost = kept_served cookie reload lost

  -- where a number is free, and the base is at or below the suffix
  pub answer_says : (p : ProviderState) (search : Search) (mode : Mode) (cookie : Option (List ℕ)) (reload : Bool) (at : ℕ) → p.directory ≡ d → is_at_or_below search.base d.suffix ≡ true
      → free_number p.searches ≡ Some at → Says number d.writes reload (answer_to_request p search (Ok (Request mode cookie reload))) cookie
  answer_says p search mode cookie reload at same below free =
      subst (λ answer. Says number d.writes reload answer cookie) (sym is) (numbered_says at mode cookie reload)
    where
      is : answer_to_request p search (Ok (Request mode cookie reload)) ≡ numbered d (Request mode cookie reload) (Some at)
      is =
          ap (λ (x : DirectoryState). cond (is_at_or_below search.base x.suffix) (numbered x (Request mode cookie reload) (free_number p.searches)) (accepted.Refused NO_SUCH_OBJECT)) same
          ∙ ap (λ b. cond b (numbered d (Request mode cookie reload) (free_number p.searches)) (accepted.Refused NO_SUCH_OBJECT)) below
          ∙ ap (numbered d (Request mode cookie reload)) free

  -- ---- the prefix that it begins from

  from_cookie : (text : List ℕ) (cookie : Cookie) → cookie_of_text text ≡ Some cookie → (b : Bool) → is_ours d cookie ≡ b
      → prefix_of_cookie d (Some text) ≡ cond b (Some (upto (csns d.writes) cookie.csn)) None
      → BeginsFrom number d.writes (Some text) (number_of (start_at d (cond b (Some (upto (csns d.writes) cookie.csn)) None)))
  unfolding ours_servable
  from_cookie text cookie read true ours is =
      subst (BeginsFrom number d.writes (Some text)) (sym (number_of-phase (covers (upto (csns d.writes) cookie.csn) d.log) (upto (csns d.writes) cookie.csn)))
      (record { serves = ours_servable text cookie read ours; counted = refl })
  from_cookie text cookie read false ours is = λ serves. let there = servable_ours text serves in let bad : true ≡ false = sym there ∙ ap is_some is in let never : ⊥ = cc in never

  -- it is that of the cookie, where this serves
  pub start_from : (cookie : Option (List ℕ)) → BeginsFrom number d.writes cookie (number_of (start_at d (prefix_of_cookie d cookie)))
  start_from None = tt
  start_from (Some text) = by (cookie_of_text text) refl
    where
      by : (read : Option Cookie) → cookie_of_text text ≡ read → BeginsFrom number d.writes (Some text) (number_of (start_at d (prefix_of d read)))
      by None read = λ serves. let there = servable_ours text serves in let bad : true ≡ false = sym there ∙ ap (λ r. is_some (prefix_of d r)) read in let never : ⊥ = cc in never
      by (Some cookie) read = from_cookie text cookie read (is_ours d cookie) refl (ap (prefix_of d) read)

  -- ---- where the search begins

  module _ (rises : CsnsRise number d.writes) (persists : Bool) (search : Search) (entries : List Entry) (ascending : ascends entries ≡ true) where
    abbrev operation : SyncOperation
    operation = session_of persists number number search d.writes

    content_within : (csn : CsnValue) → IsContent number search d.writes entries csn → IsContentWithin operation (upto (csns d.writes) csn) (length d.writes) entries
    content_within csn is = record {
      number = is.count;
      from = omega (arith, upto_more (csns d.writes) csn (last_csn (start number) (take is.count d.writes)) is.not_below, upto_csn number d.writes rises is.count is.within);
      upto = is.within;
      same = is.same;
    }

    by_covers : (b : Bool) (least : ℕ) → IsContentWithin operation least (length d.writes) entries → MayBegin operation (cond b (DeletePhase least) (PresentPhase least)) (length d.writes) entries
    by_covers true least is = is
    by_covers false least is = is

    by_ours : (cookie : Cookie) → (cookie.history ≡ number → IsContent number search d.writes entries cookie.csn) → (b : Bool) → is_ours d cookie ≡ b
        → MayBegin operation (start_at d (cond b (Some (upto (csns d.writes) cookie.csn)) None)) (length d.writes) entries
    by_ours cookie promised true ours =
        let parts = and_parts (cookie.history == d.history) (is_upto cookie.csn (last_csn_of d)) ours in
        by_covers (covers (upto (csns d.writes) cookie.csn) d.log) (upto (csns d.writes) cookie.csn)
        (content_within cookie.csn (promised (eqb-true cookie.history d.history parts.0 ∙ history)))
    by_ours cookie promised false ours = ascending

    by_read : (read : Option Cookie) → IsPromised number search d.writes entries read → MayBegin operation (start_at d (prefix_of d read)) (length d.writes) entries
    by_read None promised = ascending
    by_read (Some cookie) promised = by_ours cookie promised (is_ours d cookie) refl

    -- what the consumer holds lets the search begin there
    pub start_begins : (cookie : Option (List ℕ)) → IsPromised number search d.writes entries (held_cookie cookie)
        → MayBegin operation (start_at d (prefix_of_cookie d cookie)) (length d.writes) entries
    start_begins None promised = ascending
    start_begins (Some text) promised = by_read (cookie_of_text text) promised

-- ---- a cookie that is given

of_node : (number : ℕ) (cookie : Cookie) → 1 ≤ number → number ≤ 16 → cookie.history ≡ number → is_of_node cookie ≡ true
of_node number cookie first small own =
    let least : nat_le 1 cookie.history ≡ true = grind (arith, nat_tests) in
    let most : nat_le cookie.history 16 ≡ true = grind (arith, nat_tests) in
    ap (λ b. b && nat_le cookie.history 16) least ∙ most

module _ (number : ℕ) (first : 1 ≤ number) (small : number ≤ 16) (search : Search) (writes : List Write) (entries : List Entry) where
  -- it promises no more than what is held, unless it is later
  pub given_promised : (held given : Option Cookie) → IsPromised number search writes entries held → goes_beyond held given ≡ false → IsPromised number search writes entries given
  given_promised held None promised h = tt
  given_promised held (Some cookie) promised h = λ own. by held promised (held_back own h) own
    where
      held_back : cookie.history ≡ number → goes_beyond held (Some cookie) ≡ false → is_not_before cookie held ≡ true
      held_back own h = not-false (is_not_before cookie held) (sym (ap (λ b. b && not (is_not_before cookie held)) (of_node number cookie first small own)) ∙ h)

      by : (held : Option Cookie) → IsPromised number search writes entries held → is_not_before cookie held ≡ true → cookie.history ≡ number → IsContent number search writes entries cookie.csn
      by None promised h own = let never : ⊥ = cc in absurd never
      by (Some other) promised h own =
          let parts = and_parts (other.history == cookie.history) (not (is_before other.csn cookie.csn)) h in
          let is = promised (eqb-true other.history cookie.history parts.0 ∙ own) in
          record {
            count = is.count;
            within = is.within;
            not_below = is_upto_then cookie.csn other.csn (last_csn (start number) (take is.count writes)) (not_before_upto other.csn cookie.csn (not-true (is_before other.csn cookie.csn) parts.1)) is.not_below;
            same = is.same;
          }
