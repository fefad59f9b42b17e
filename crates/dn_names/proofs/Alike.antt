-- No name distinguishes names that match: equality of names goes through and back, and nothing is below one and not below the other.
use Rattle.std.proofs.Common.{◌≡◌, Bool, true, false, ◌&&◌, nat_le, List, [], ◌∷◌, length, refl, ap, sym, ◌∙◌}
use Rattle.dn_names.specs.Names.{TypeAndValue, same_name, suffix_of, is_at_or_below, is_child_of}
use Rattle.dn_names.proofs.EqualNames.{AreEqual-same_name, length-AreEqual, name_sym, name_trans}

-- two tests of which each passes where the other does are one
pub both_or_none : (one other : Bool) → (one ≡ true → other ≡ true) → (other ≡ true → one ≡ true) → one ≡ other
both_or_none true other there back = sym (there refl)
both_or_none false true there back = back refl
both_or_none false false there back = refl

-- ---- names

-- the RDNs of a name
abbrev pub Name : Type 0
Name = List (List TypeAndValue)

-- a name matches one of two names that match where it matches the other
pub name_as : (name one other : Name) → same_name one other ≡ true → same_name name one ≡ same_name name other
name_as name one other same =
    both_or_none (same_name name one) (same_name name other) (λ h. name_trans name one other h same) (λ h. name_trans name other one h (name_sym one other same))

-- a name is at or below one of two names that match where it is at or below the other
pub below_as : (name one other : Name) → same_name one other ≡ true → is_at_or_below name one ≡ is_at_or_below name other
below_as name one other same =
    let long = length-AreEqual one other (AreEqual-same_name one other same) in
    ap (λ n. nat_le n (length name) && same_name (suffix_of n name) one) long
    ∙ ap (λ b. nat_le (length other) (length name) && b) (name_as (suffix_of (length other) name) one other same)

-- a name is a child of one of two names that match where it is of the other
pub child_as : (name one other : Name) → same_name one other ≡ true → is_child_of name one ≡ is_child_of name other
child_as [] one other same = refl
child_as (rdn ∷ above) one other same = name_as above one other same
