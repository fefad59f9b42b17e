-- The value of the Sync Info message: its reading is exact, and its canonical spelling is a spelling.
use Rattle.std.proofs.Common.{◌≡◌, ◌≢◌, ℕ, suc, get_or, ◌<◌, ◌%◌, ◌^◌, Bool, true, false, List, [], ◌∷◌, ◌++◌, Option, Result, Ok, refl, sym, subst, inl, inr, arith, eq-eqb, append_assoc}
use Rattle.std.specs.Prelude.{IfOk}
use Rattle.std.specs.List.{AllByRecursion}
use Rattle.std.proofs.lemmas.Bool.{ne_eqb}
use Rattle.ldap_ber.specs.Element.{Begins}
use Rattle.ldap_ber.specs.Reader.{has_tag}
use Rattle.ldap_ber.specs.Form.{OctetString, Both, ListOf}
use Rattle.ldap_ber.specs.Canonical.{element, flag_octets}
use Rattle.ldap_ber.specs.Writer.{IsSmall}
use Rattle.ldap_ber.proofs.Steps.{chosen}
use Rattle.ldap_ber.proofs.ExactLemmas.{Exact, made_ok, both_exact, sequence_exact, list_exact, whole_found, whole_only}
use Rattle.ldap_ber.proofs.CanonicalLemmas.{Spelled, Anything, Always, Lacks, octets_spelled, both_spelled, flag_spelled, sequence_spelled, list_spelled, whole_spelled, if_written_soundly, none_next}
use Rattle.sync_messages.specs.declared.fault.SyncFault.{SyncFault}
use Rattle.sync_messages.specs.declared.fault.SyncFault.TheVariants.{Ber}
use Rattle.sync_messages.specs.declared.info.SyncInfo.{SyncInfo}
use Rattle.sync_messages.specs.declared.info.SyncInfo.TheVariants.{NewCookie, RefreshDelete, RefreshPresent, IdSet}
use Rattle.ldap_ber.specs.Gives.{Gives}
use Rattle.sync_messages.specs.Faults.{SyncFails}
use Rattle.sync_messages.specs.Parts.{CookieForm, FlagWithDefault, UuidForm, octet_string_at, uuid_at, cookie_octets, uuid_octets, refresh_octets}
use Rattle.sync_messages.specs.Info.{RefreshForm, SetForm, InfoForm, refresh_at, set_at, deletes_with, presents_with, set_with, info_at, info_of, uuids_octets, info_octets, IsInRange}
use Rattle.sync_messages.proofs.UuidLemmas.{octet_string_exact, uuid_exact, uuid_shortens, uuid_spelled}
use Rattle.sync_messages.proofs.PartLemmas.{cookie_exact, flag_exact, cookie_spelled, flag_lacks, refresh_spelled, if_found, only_this}

-- ---- read

refresh_exact : (tag : ℕ) → Exact (RefreshForm tag) (refresh_at tag)
refresh_exact tag = sequence_exact Ber tag _ _ (both_exact _ _ _ _ cookie_exact (flag_exact true))

set_exact : Exact SetForm set_at
set_exact = sequence_exact Ber 163 _ _ (both_exact _ _ _ _ cookie_exact (both_exact _ _ _ _ (flag_exact false) (list_exact Ber 49 UuidForm uuid_at uuid_exact uuid_shortens)))

of_this : (bytes : List ℕ) (x y : SyncInfo) (rest : List ℕ) → x ≡ y → InfoForm bytes x rest → InfoForm bytes y rest
of_this bytes x y rest e h = subst (λ (z : SyncInfo). InfoForm bytes z rest) e h

there : (stop : ℕ) (bytes : List ℕ) (info : SyncInfo) (rest : List ℕ) → info_at stop bytes ≡ Ok (info, rest) → InfoForm bytes info rest
unfolding InfoForm
there stop bytes info rest h = elim (chosen (has_tag 128 bytes) _ _ _ h) [
  | inl s ↦
      let m = made_ok NewCookie (octet_string_at 128) stop bytes info rest s.1 in
      of_this bytes (NewCookie m.0) info rest m.2 ((octet_string_exact 128).found stop bytes m.0 rest m.1)
  | inr s ↦ elim (chosen (has_tag 161 bytes) _ _ _ s.1) [
    | inl t ↦
        let m = made_ok deletes_with (refresh_at 161) stop bytes info rest t.1 in
        of_this bytes (deletes_with m.0) info rest m.2 ((refresh_exact 161).found stop bytes m.0 rest m.1)
    | inr t ↦ elim (chosen (has_tag 162 bytes) _ _ _ t.1) [
      | inl u ↦
          let m = made_ok presents_with (refresh_at 162) stop bytes info rest u.1 in
          of_this bytes (presents_with m.0) info rest m.2 ((refresh_exact 162).found stop bytes m.0 rest m.1)
      | inr u ↦
          let m = made_ok set_with set_at stop bytes info rest u.1 in
          of_this bytes (set_with m.0) info rest m.2 (set_exact.found stop bytes m.0 rest m.1)
    ]
  ]
]

its_tag : (tag : ℕ) (bytes body rest : List ℕ) → Begins bytes tag body rest → has_tag tag bytes ≡ true
its_tag tag bytes body rest h = rw h.parts (eq-eqb tag tag refl)

no_other_tag : (other tag : ℕ) (bytes body rest : List ℕ) → Begins bytes tag body rest → tag ≢ other → has_tag other bytes ≡ false
no_other_tag other tag bytes body rest h ne = rw h.parts (ne_eqb tag other ne)

back : (stop : ℕ) (bytes : List ℕ) (info : SyncInfo) (rest : List ℕ) → InfoForm bytes info rest → info_at stop bytes ≡ Ok (info, rest)
unfolding InfoForm
back stop bytes (NewCookie c) rest h =
    rw (its_tag 128 bytes c rest h, (octet_string_exact 128).only stop bytes c rest h) refl
back stop bytes (RefreshDelete c b) rest h =
    rw (no_other_tag 128 161 bytes h.0 rest h.2 (omega arith), its_tag 161 bytes h.0 rest h.2, (refresh_exact 161).only stop bytes (c, b) rest h) refl
back stop bytes (RefreshPresent c b) rest h =
    rw (no_other_tag 128 162 bytes h.0 rest h.2 (omega arith), no_other_tag 161 162 bytes h.0 rest h.2 (omega arith), its_tag 162 bytes h.0 rest h.2, (refresh_exact 162).only stop bytes (c, b) rest h) refl
back stop bytes (IdSet c b ids) rest h =
    rw (no_other_tag 128 163 bytes h.0 rest h.2 (omega arith), no_other_tag 161 163 bytes h.0 rest h.2 (omega arith), no_other_tag 162 163 bytes h.0 rest h.2 (omega arith), set_exact.only stop bytes (c, (b, ids)) rest h) refl

info_exact : Exact InfoForm info_at
info_exact = record { found = there; only = back }

info_read : (bytes : List ℕ) (info : SyncInfo) → InfoForm bytes info [] → info_of bytes ≡ Ok info
unfolding info_of
info_read bytes info h = whole_only Ber InfoForm info_at info_exact bytes info h

-- bytes that were read spell the value
pub info_found : (result : Result SyncInfo SyncFault) (bytes : List ℕ) → Gives SyncFails (λ x. Ok x) result (info_of bytes) → IfOk result (λ info. InfoForm bytes info [])
unfolding info_of
info_found result bytes g = if_found InfoForm bytes result (info_of bytes) g (λ info h. whole_found Ber InfoForm info_at info_exact bytes info h)

-- bytes that spell a value are read as it
pub info_only : (result : Result SyncInfo SyncFault) (bytes : List ℕ) (info : SyncInfo) → Gives SyncFails (λ x. Ok x) result (info_of bytes) → InfoForm bytes info [] → Gives SyncFails (λ x. Ok x) result (Ok info)
info_only result bytes info g h = only_this result (info_of bytes) info g (info_read bytes info h)

-- ---- written

abbrev set_body : Option (List ℕ) × (Bool × List ℕ) → List ℕ
set_body parts = cookie_octets parts.0 ++ (flag_octets 1 false parts.1.0 ++ uuids_octets parts.1.1)

abbrev AreInRange : List ℕ → Type 0
AreInRange ids = AllByRecursion (λ id. id < 2 ^ 128) ids

-- a set does not look like a cookie or a flag
uuids_lack : (tag : ℕ) (ids rest : List ℕ) → 49 ≢ tag → Lacks tag (uuids_octets ids ++ rest)
unfolding element
uuids_lack tag ids rest ne e = ne cc

set_body_spelled : Spelled (Both CookieForm (Both (FlagWithDefault false) (ListOf 49 UuidForm))) set_body (λ parts. Unit {0} × (Unit {0} × AreInRange parts.1.1)) Anything
set_body_spelled =
    both_spelled CookieForm (Both (FlagWithDefault false) (ListOf 49 UuidForm)) cookie_octets (λ parts. flag_octets 1 false parts.0 ++ uuids_octets parts.1) (Always {X = Option (List ℕ)}) (λ parts. Unit {0} × AreInRange parts.1) (Lacks 4) Anything
    cookie_spelled
    (both_spelled (FlagWithDefault false) (ListOf 49 UuidForm) (flag_octets 1 false) uuids_octets (Always {X = Bool}) AreInRange (Lacks 1) Anything
    (flag_spelled 1 (omega arith) false)
    (list_spelled 49 UuidForm uuid_octets (λ id. id < 2 ^ 128) (omega arith) uuid_spelled)
    (λ ids rest sound after. uuids_lack 1 ids rest (omega arith)))
    (λ parts rest sound after. subst (λ (z : List ℕ). Lacks 4 z) (sym (append_assoc (flag_octets 1 false parts.0) (uuids_octets parts.1) rest)) (flag_lacks false parts.0 (uuids_octets parts.1 ++ rest) (uuids_lack 4 parts.1 rest (omega arith))))

refresh_whole : (tag : ℕ) → tag % 32 ≢ 31 → (parts : Option (List ℕ) × Bool) → IsSmall (element tag (refresh_octets true parts)) → RefreshForm tag (element tag (refresh_octets true parts)) parts []
refresh_whole tag low parts small =
    whole_spelled (RefreshForm tag) (λ x. element tag (refresh_octets true x)) _ Anything
    (sequence_spelled tag (Both CookieForm (FlagWithDefault true)) (refresh_octets true) _ _ low (refresh_spelled true) (none_next 1, none_next 4))
    tt parts (tt, tt) small

canonical : (info : SyncInfo) → IsInRange info → IsSmall (info_octets info) → InfoForm (info_octets info) info []
unfolding InfoForm info_octets
canonical (NewCookie c) in_range small = whole_spelled (OctetString 128) (element 128) _ Anything (octets_spelled 128 (omega arith)) tt c tt small
canonical (RefreshDelete c b) in_range small = refresh_whole 161 (omega arith) (c, b) small
canonical (RefreshPresent c b) in_range small = refresh_whole 162 (omega arith) (c, b) small
canonical (IdSet c b ids) in_range small =
    whole_spelled SetForm (λ x. element 163 (set_body x)) _ Anything
    (sequence_spelled 163 (Both CookieForm (Both (FlagWithDefault false) (ListOf 49 UuidForm))) set_body _ _ (omega arith) set_body_spelled tt)
    tt (c, (b, ids)) (tt, (tt, in_range)) small

-- the canonical octets of a value spell it
pub info_spelled : {E : Type 0} (result : Result (List ℕ) E) (info : SyncInfo) → IfOk result (λ o. o ≡ info_octets info) → IfOk result IsSmall → IfOk result (λ o. IsInRange info) → IfOk result (λ o. InfoForm o info [])
info_spelled result info is small in_range = if_written_soundly result (info_octets info) (IsInRange info) (λ o. InfoForm o info []) is small in_range (canonical info)

-- what is written of a Sync Info value is read again as the value
pub info_read_again : {E : Type 0} (result : Result (List ℕ) E) (info : SyncInfo) → IfOk result (λ o. o ≡ info_octets info) → IfOk result IsSmall → IfOk result (λ o. IsInRange info) → IfOk result (λ o. info_of o ≡ Ok info)
info_read_again result info is small in_range = if_written_soundly result (info_octets info) (IsInRange info) (λ o. info_of o ≡ Ok info) is small in_range (λ r s. info_read (info_octets info) info (canonical info r s))

-- what a slice of such numbers has
pub each_in_range : (ids : List ℕ) → ((k : ℕ) → get_or ids k 0 < 2 ^ 128) → AllByRecursion (λ id. id < 2 ^ 128) ids
each_in_range [] h = tt
each_in_range (id ∷ ids) h = (h 0, each_in_range ids (λ k. h (suc k)))
