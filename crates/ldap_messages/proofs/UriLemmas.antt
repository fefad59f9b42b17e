-- Lists of URIs: their reading is exact, and their canonical spelling is a spelling.
use Rattle.std.proofs.Common.{◌≡◌, ◌≢◌, ℕ, eqb, ◌%◌, List, length, Ok, refl, subst}
use Rattle.std.proofs.lemmas.Bool.{eqb-false, ne_eqb}
use Rattle.ldap_ber.proofs.Steps.{guard_ok, ok_is}
use Rattle.ldap_ber.proofs.ExactLemmas.{Exact, meaning_exact}
use Rattle.ldap_ber.proofs.CanonicalLemmas.{Spelled, Anything, Always, meaning_spelled}
use Rattle.ldap_parts.specs.Components.{StringsForm, strings_at, strings_octets}
use Rattle.ldap_parts.proofs.StringLemmas.{strings_exact, strings_spelled}
use Rattle.ldap_messages.specs.Uris.{HaveOne, AreUris, UrisForm, uris_among, uris_at, uris_octets}

uris_there : (place : ℕ) (strings uris : List (List ℕ)) → uris_among place strings ≡ Ok uris → AreUris strings uris
uris_there place strings uris h =
    let g = guard_ok (eqb (length strings) 0) place (Ok strings) uris h in
    let e : strings ≡ uris = ok_is {E = ℕ} strings uris g.1 in
    (e, subst HaveOne e (eqb-false (length strings) 0 g.0))

uris_back : (place : ℕ) (strings uris : List (List ℕ)) → AreUris strings uris → uris_among place strings ≡ Ok uris
uris_back place strings uris h = rw (h.0, ne_eqb (length uris) 0 h.1) refl

-- what is read is what the form says
pub uris_exact : (tag : ℕ) → Exact (UrisForm tag) (uris_at tag)
unfolding uris_at
uris_exact tag = meaning_exact AreUris uris_among (StringsForm tag) (strings_at tag) uris_there uris_back (strings_exact tag)

-- the canonical octets of a list with a URI spell it
pub uris_spelled : (tag : ℕ) → tag % 32 ≢ 31 → Spelled (UrisForm tag) (uris_octets tag) HaveOne Anything
uris_spelled tag low =
    meaning_spelled AreUris (StringsForm tag) (strings_octets tag) (Always {X = List (List ℕ)}) Anything (λ (uris : List (List ℕ)). uris) HaveOne
    (λ uris some. ((refl, some), tt)) (strings_spelled tag low)
