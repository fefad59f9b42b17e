-- Result codes that are compared as integers.
use Rattle.std.proofs.Common.{◌≡◌, ℕ, Bool, true, false, refl, ap, sym, ◌∙◌, eq-eqb, eqb-true}
use Rattle.std.specs.Prelude.{pos, ◌==◌}
use Rattle.std.specs.Ordering.{int_eq}
use Rattle.std.proofs.lemmas.Bool.Decides.{Decides-int_eq}

-- as integers they are equal exactly where they are as numbers
pub same_codes : (code number : ℕ) → int_eq (pos code) (pos number) ≡ (code == number)
same_codes code number = by (code == number) refl (int_eq (pos code) (pos number)) refl
  where
    by : (b : Bool) → (code == number) ≡ b → (c : Bool) → int_eq (pos code) (pos number) ≡ c → c ≡ b
    by true hit true is = refl
    by false miss false is = refl
    by true hit false is =
        let yes' : int_eq (pos code) (pos number) ≡ true = (Decides-int_eq (pos code) (pos number)).1 (ap pos (eqb-true code number hit)) in
        let never : false ≡ true = sym is ∙ yes' in
        cc
    by false miss true is =
        let same : pos code ≡ pos number = (Decides-int_eq (pos code) (pos number)).0 is in
        let equal : code ≡ number = cc in
        let never : false ≡ true = sym miss ∙ eq-eqb code number equal in
        cc
