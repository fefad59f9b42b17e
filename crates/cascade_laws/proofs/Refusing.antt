-- The end of a search that is refused is taken at once: the search is over, and the entries stay.
use Rattle.std.proofs.Common.{◌≡◌, ℕ, Bool, true, false, cond, None, refl, ap, sym, ◌∙◌, eqb-true, subst}
use Rattle.std.specs.Prelude.{pos, not, ◌==◌}
use Rattle.std.specs.Ordering.{int_eq}
use Rattle.ldap_constants.specs.declared.result_codes.TheConstants.{SUCCESS, E_SYNC_REFRESH_REQUIRED}
use Rattle.sync_model.specs.Copy.{Copy, Answer, over, refused}
use Rattle.sync_model.specs.Copy.Fault.{OutOfPlace}
use Rattle.sync_model.specs.Within.{limit_fault, refused_by}
use Rattle.sync_model.proofs.ResultCodes.{same_codes}
use Rattle.cascade_world.specs.Exchange.{asking, refused_copy}

-- the entries are those of before, no search runs, and the cookie is lost where it was refused
pub record IsOver (before : Copy) (lost : Bool) (copy : Copy) : Type 0 where
  pub held : copy.held ≡ before.held
  pub session : copy.session ≡ None
  pub cookie : copy.cookie ≡ cond lost None before.cookie

-- where the search would have persisted, each end is that of the search
stay_over : (copy : Copy) (code : ℕ) → IsOver copy (code == E_SYNC_REFRESH_REQUIRED) (refused_copy (asking true copy) code)
stay_over copy code = record { held = refl; session = refl; cookie = ap (λ b. cond b None copy.cookie) (same_codes code E_SYNC_REFRESH_REQUIRED) }

once_over : (copy : Copy) (code : ℕ) → IsOver copy (code == E_SYNC_REFRESH_REQUIRED) (refused_copy (asking false copy) code)
once_over copy code = by (code == SUCCESS) refl (same_codes code SUCCESS) (same_codes code E_SYNC_REFRESH_REQUIRED)
  where
    outcome : Bool → Copy × Answer
    outcome fails = cond fails (over (asking false copy) (pos code)) (refused (asking false copy) OutOfPlace)

    ends : Bool → Copy
    ends fails = (refused_by (limit_fault false (outcome fails).0 (outcome fails).1) (asking false copy) (outcome fails)).0

    is_none : (zero' : Bool) → (code == SUCCESS) ≡ zero' → zero' ≡ true → (code == E_SYNC_REFRESH_REQUIRED) ≡ false
    is_none zero' is hit = let none : code ≡ SUCCESS = eqb-true code SUCCESS (is ∙ hit) in ap (λ n. n == E_SYNC_REFRESH_REQUIRED) none

    over_is : (lost : Bool) → int_eq (pos code) (pos E_SYNC_REFRESH_REQUIRED) ≡ lost → IsOver copy lost (ends true)
    over_is lost is = record { held = refl; session = refl; cookie = ap (λ b. cond b None copy.cookie) is }

    refused_is : (lost : Bool) → lost ≡ false → IsOver copy lost (ends false)
    refused_is lost is = record { held = refl; session = refl; cookie = ap (λ b. cond b None copy.cookie) (sym is) }

    by : (zero' : Bool) → (code == SUCCESS) ≡ zero' → int_eq (pos code) (pos SUCCESS) ≡ (code == SUCCESS) → int_eq (pos code) (pos E_SYNC_REFRESH_REQUIRED) ≡ (code == E_SYNC_REFRESH_REQUIRED)
        → IsOver copy (code == E_SYNC_REFRESH_REQUIRED) (ends (not (int_eq (pos code) (pos SUCCESS))))
    by true is first last = subst (λ b. IsOver copy (code == E_SYNC_REFRESH_REQUIRED) (ends (not b))) (sym (first ∙ is)) (refused_is (code == E_SYNC_REFRESH_REQUIRED) (is_none true is refl))
    by false is first last = subst (λ b. IsOver copy (code == E_SYNC_REFRESH_REQUIRED) (ends (not b))) (sym (first ∙ is)) (over_is (code == E_SYNC_REFRESH_REQUIRED) last)

-- the copy has no session then, and its cookie is lost with 4096 alone
pub refused_over : (persists : Bool) (copy : Copy) (code : ℕ) → IsOver copy (code == E_SYNC_REFRESH_REQUIRED) (refused_copy (asking persists copy) code)
refused_over true copy code = stay_over copy code
refused_over false copy code = once_over copy code
