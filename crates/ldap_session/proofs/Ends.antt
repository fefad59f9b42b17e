-- Acts before and after the one that ends a session.
use Rattle.std.proofs.Common.{◌≡◌, List, [], ◌∷◌, ◌++◌, Option, Some, None, refl, ap}
use Rattle.std.specs.Prelude.{is_some, if◌then◌else◌}
use Rattle.ldap_session.specs.declared.ended.Ended.{Ended}
use Rattle.ldap_session.specs.declared.ended.Ended.TheVariants.{EndOfInput}
use Rattle.ldap_session.specs.Acts.{Act, HandsOut, Leaves, end_of, or_later, until_end, end_among}

-- after an end nothing more is done
pub until-over : (xs ys : List Act) (ended : Ended) → end_among xs ≡ Some ended → until_end (xs ++ ys) ≡ until_end xs
until-over [] ys ended is = absurd cc
until-over (x ∷ xs) ys ended is = step (end_of x) (until-over xs ys ended) is
  where
    step : (end : Option Ended) → (end_among xs ≡ Some ended → until_end (xs ++ ys) ≡ until_end xs) → or_later end (end_among xs) ≡ Some ended
        → x ∷ (if is_some end then [] else until_end (xs ++ ys)) ≡ x ∷ (if is_some end then [] else until_end xs)
    step None later is = ap (λ (acts : List Act). x ∷ acts) (later is)
    step (Some first) later is = refl

-- without an end all is done
pub until-on : (xs ys : List Act) → end_among xs ≡ None → until_end (xs ++ ys) ≡ until_end xs ++ until_end ys
until-on [] ys none = refl
until-on (x ∷ xs) ys none = step (end_of x) (until-on xs ys) none
  where
    step : (end : Option Ended) → (end_among xs ≡ None → until_end (xs ++ ys) ≡ until_end xs ++ until_end ys) → or_later end (end_among xs) ≡ None
        → x ∷ (if is_some end then [] else until_end (xs ++ ys)) ≡ (x ∷ (if is_some end then [] else until_end xs)) ++ until_end ys
    step None later none = ap (λ (acts : List Act). x ∷ acts) (later none)
    step (Some first) later none = absurd cc

-- the first end stands, whatever is done after it
pub end-over : (xs ys : List Act) (ended : Ended) → end_among xs ≡ Some ended → end_among (xs ++ ys) ≡ Some ended
end-over [] ys ended is = absurd cc
end-over (x ∷ xs) ys ended is = step (end_of x) (end-over xs ys ended) is
  where
    step : (end : Option Ended) → (end_among xs ≡ Some ended → end_among (xs ++ ys) ≡ Some ended) → or_later end (end_among xs) ≡ Some ended → or_later end (end_among (xs ++ ys)) ≡ Some ended
    step None later is = later is
    step (Some first) later is = is

-- acts without an end leave it to those after them
pub end-on : (xs ys : List Act) → end_among xs ≡ None → end_among (xs ++ ys) ≡ end_among ys
end-on [] ys none = refl
end-on (x ∷ xs) ys none = step (end_of x) (end-on xs ys) none
  where
    step : (end : Option Ended) → (end_among xs ≡ None → end_among (xs ++ ys) ≡ end_among ys) → or_later end (end_among xs) ≡ None → or_later end (end_among (xs ++ ys)) ≡ end_among ys
    step None later none = later none
    step (Some first) later none = absurd cc

-- to hand out ends nothing
pub hands_on : end_of HandsOut ≡ None
unfolding end_of
hands_on = refl

-- who leaves ends the session, as at the end of the input
pub leaves_end : end_of Leaves ≡ Some EndOfInput
unfolding end_of
leaves_end = refl
