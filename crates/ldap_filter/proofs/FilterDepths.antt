-- How deep the filters that are read stand in one another (RFC 4515, section 3): in no more levels
-- than they were read in.
use Rattle.std.proofs.Common.{◌≡◌, ◌≤◌, ℕ, zero, suc, Bool, true, false, List, [], ◌∷◌, length, Result, Ok, Err, subst, arith}
use Rattle.std.specs.Prelude.{◌-◌, ◌==◌, ◌&&◌, if◌then◌else◌, take, drop}
use Rattle.std.specs.List.{slice_index_or}
use Rattle.std.specs.Str.Lossy.{utf8_valid_len}
use Rattle.ldap_filter.specs.FilterTree.{FilterTree, all_of, any_of, negated, equal, substrings, at_least, at_most, present, approx, trees, depth, deepest}
use Rattle.ldap_filter.specs.Grammar.{begins_with}
use Rattle.ldap_filter.specs.Reading.{◌>>=◌, Reading, asserted, compared_at, component_at, enclosed_at, equal_at, filled, filter_in, filters_at, item_at, item_of, made, many_at, many_in, past, pieced, read_filter, refused, refused_at, stars_at, type_at, value_at, whole_at}
use Rattle.ldap_filter.specs.declared.fault.FilterFault.{FilterFault}
use Rattle.ldap_filter.specs.declared.fault.FilterFault.TheVariants.{TooDeep}

-- the filter that is read, if one is, stands in at most n levels
abbrev Within : ℕ → Result (FilterTree × List ℕ) FilterFault → Type 0
Within n (Ok read) = depth read.0 ≤ n
Within n (Err fault) = Unit {0}

-- and those of a list
abbrev AllWithin : ℕ → Result (List FilterTree × List ℕ) FilterFault → Type 0
AllWithin n (Ok read) = deepest (trees read.0) ≤ n
AllWithin n (Err fault) = Unit {0}

-- ---- how readings are put together

if_within : (n : ℕ) (b : Bool) (one other : Result (FilterTree × List ℕ) FilterFault) → Within n one → Within n other → Within n (if b then one else other)
if_within n true one other first second = first
if_within n false one other first second = second

all_if : (n : ℕ) (b : Bool) (one other : Result (List FilterTree × List ℕ) FilterFault) → AllWithin n one → AllWithin n other → AllWithin n (if b then one else other)
all_if n true one other first second = first
all_if n false one other first second = second

-- after anything
after_any : {A : Type 0} (n : ℕ) (read : Result A FilterFault) (f : A → Result (FilterTree × List ℕ) FilterFault) → ((x : A) → Within n (f x)) → Within n (read >>= f)
after_any n (Ok x) f each = each x
after_any n (Err fault) f each = tt

-- after a filter
after_one : (n : ℕ) (read : Result (FilterTree × List ℕ) FilterFault) (f : FilterTree × List ℕ → Result (FilterTree × List ℕ) FilterFault) → Within n read
    → ((x : FilterTree × List ℕ) → depth x.0 ≤ n → Within n (f x)) → Within n (read >>= f)
after_one n (Ok x) f within each = each x within
after_one n (Err fault) f within each = tt

-- the first filter of a list
after_first : (n : ℕ) (read : Result (FilterTree × List ℕ) FilterFault) (f : FilterTree × List ℕ → Result (List FilterTree × List ℕ) FilterFault) → Within n read
    → ((x : FilterTree × List ℕ) → depth x.0 ≤ n → AllWithin n (f x)) → AllWithin n (read >>= f)
after_first n (Ok x) f within each = each x within
after_first n (Err fault) f within each = tt

one_more : (n : ℕ) (t : FilterTree) (read : Result (List FilterTree × List ℕ) FilterFault) → depth t ≤ n → AllWithin n read → AllWithin n (read >>= λ ts. Ok (t ∷ ts.0, ts.1))
one_more n t (Ok ts) first all = omega (arith, first, all)
one_more n t (Err fault) first all = tt

-- ---- lists

many_within : (f : Reading FilterTree) (n : ℕ) → ((stop : ℕ) (bytes : List ℕ) → Within n (f stop bytes)) → (most stop : ℕ) (bytes : List ℕ)
    → AllWithin n (many_in (begins_with 40) f most stop bytes)
many_within f n each zero stop bytes = omega arith
many_within f n each (suc most) stop bytes =
    all_if n (begins_with 40 bytes) (f stop bytes >>= λ x. many_in (begins_with 40) f most stop x.1 >>= λ xs. Ok (x.0 ∷ xs.0, xs.1)) (Ok ([], bytes))
    (after_first n (f stop bytes) (λ x. many_in (begins_with 40) f most stop x.1 >>= λ xs. Ok (x.0 ∷ xs.0, xs.1)) (each stop bytes)
    (λ x within. one_more n x.0 (many_in (begins_with 40) f most stop x.1) within (many_within f n each most stop x.1)))
    (omega arith)

filters_within : (f : Reading FilterTree) (n : ℕ) → ((stop : ℕ) (bytes : List ℕ) → Within n (f stop bytes)) → (stop : ℕ) (bytes : List ℕ) → AllWithin n (filters_at f stop bytes)
unfolding filters_at many_at
filters_within f n each stop bytes = many_within f n each (length bytes) stop bytes

made_all : (n : ℕ) (read : Result (List FilterTree × List ℕ) FilterFault) → AllWithin n read → Within (suc n) (made (λ ts. all_of (trees ts)) read)
made_all n (Ok ts) all = omega (arith, all)
made_all n (Err fault) all = tt

made_any : (n : ℕ) (read : Result (List FilterTree × List ℕ) FilterFault) → AllWithin n read → Within (suc n) (made (λ ts. any_of (trees ts)) read)
made_any n (Ok ts) all = omega (arith, all)
made_any n (Err fault) all = tt

made_not : (n : ℕ) (read : Result (FilterTree × List ℕ) FilterFault) → Within n read → Within (suc n) (made negated read)
made_not n (Ok t) within = omega (arith, within)
made_not n (Err fault) within = tt

-- ---- items

flat_if : (n : ℕ) (b : Bool) (one other : FilterTree) → depth one ≤ n → depth other ≤ n → depth (if b then one else other) ≤ n
flat_if n true one other first second = first
flat_if n false one other first second = second

pieced_flat : (name first : List ℕ) (middle : List (List ℕ)) (last : List ℕ) (n : ℕ) → depth (pieced name first middle last) ≤ suc n
pieced_flat name first middle last n =
    flat_if (suc n) (length middle == 0 && (length first == 0 && length last == 0)) (present name) (substrings name (filled first) middle (filled last)) (omega arith) (omega arith)

asserted_flat : (name first : List ℕ) (beyond : List (List ℕ)) (n : ℕ) → depth (asserted name first beyond) ≤ suc n
asserted_flat name first beyond n =
    flat_if (suc n) (length beyond == 0) (equal name first) (pieced name first (take (length beyond - 1) beyond) (slice_index_or beyond (length beyond - 1) []))
    (omega arith) (pieced_flat name first (take (length beyond - 1) beyond) (slice_index_or beyond (length beyond - 1) []) n)

equal_within : (name : List ℕ) (stop : ℕ) (bytes : List ℕ) (n : ℕ) → Within (suc n) (equal_at name stop bytes)
unfolding equal_at
equal_within name stop bytes n =
    after_any (suc n) (value_at stop bytes) (λ first. stars_at stop first.1 >>= λ beyond. Ok (asserted name first.0 beyond.0, beyond.1))
    (λ first. after_any (suc n) (stars_at stop first.1) (λ beyond. Ok (asserted name first.0 beyond.0, beyond.1)) (λ beyond. asserted_flat name first.0 beyond.0 n))

made_item : (n : ℕ) (item : List ℕ → FilterTree) (read : Result (List ℕ × List ℕ) FilterFault) → ((value : List ℕ) → depth (item value) ≤ n) → Within n (made item read)
made_item n item (Ok x) each = each x.0
made_item n item (Err fault) each = tt

compared_within : (name : List ℕ) (stop : ℕ) (bytes : List ℕ) (n : ℕ) → Within (suc n) (item_of name stop bytes)
compared_within name stop bytes n =
    let left = drop 1 bytes in
    if_within (suc n) (begins_with 61 bytes) (equal_at name stop left)
    (if begins_with 126 bytes then made (approx name) (compared_at stop left)
    else if begins_with 62 bytes then made (at_least name) (compared_at stop left)
    else if begins_with 60 bytes then made (at_most name) (compared_at stop left)
    else refused stop bytes)
    (equal_within name stop left n)
    (if_within (suc n) (begins_with 126 bytes) (made (approx name) (compared_at stop left))
    (if begins_with 62 bytes then made (at_least name) (compared_at stop left)
    else if begins_with 60 bytes then made (at_most name) (compared_at stop left)
    else refused stop bytes)
    (made_item (suc n) (approx name) (compared_at stop left) (λ value. omega arith))
    (if_within (suc n) (begins_with 62 bytes) (made (at_least name) (compared_at stop left))
    (if begins_with 60 bytes then made (at_most name) (compared_at stop left) else refused stop bytes)
    (made_item (suc n) (at_least name) (compared_at stop left) (λ value. omega arith))
    (if_within (suc n) (begins_with 60 bytes) (made (at_most name) (compared_at stop left)) (refused stop bytes)
    (made_item (suc n) (at_most name) (compared_at stop left) (λ value. omega arith)) tt)))

item_within : (stop : ℕ) (bytes : List ℕ) (n : ℕ) → Within (suc n) (item_at stop bytes)
unfolding item_at
item_within stop bytes n = after_any (suc n) (type_at stop bytes) (λ name. item_of name.0 stop name.1) (λ name. compared_within name.0 stop name.1 n)

-- ---- filters

component_within : (f : Reading FilterTree) (n : ℕ) → ((stop : ℕ) (bytes : List ℕ) → Within n (f stop bytes)) → (stop : ℕ) (bytes : List ℕ) → Within (suc n) (component_at f stop bytes)
component_within f n each stop bytes =
    let left = drop 1 bytes in
    if_within (suc n) (begins_with 38 bytes) (made (λ ts. all_of (trees ts)) (filters_at f stop left))
    (if begins_with 124 bytes then made (λ ts. any_of (trees ts)) (filters_at f stop left)
    else if begins_with 33 bytes then made negated (f stop left)
    else item_at stop bytes)
    (made_all n (filters_at f stop left) (filters_within f n each stop left))
    (if_within (suc n) (begins_with 124 bytes) (made (λ ts. any_of (trees ts)) (filters_at f stop left))
    (if begins_with 33 bytes then made negated (f stop left) else item_at stop bytes)
    (made_any n (filters_at f stop left) (filters_within f n each stop left))
    (if_within (suc n) (begins_with 33 bytes) (made negated (f stop left)) (item_at stop bytes)
    (made_not n (f stop left) (each stop left)) (item_within stop bytes n)))

enclosed_within : (f : Reading FilterTree) (n : ℕ) → ((stop : ℕ) (bytes : List ℕ) → Within n (f stop bytes)) → (stop : ℕ) (bytes : List ℕ) → Within (suc n) (enclosed_at f stop bytes)
enclosed_within f n each stop bytes =
    after_any (suc n) (past 40 stop bytes) (λ inner. component_at f stop inner >>= λ t. past 41 stop t.1 >>= λ rest. Ok (t.0, rest))
    (λ inner. after_one (suc n) (component_at f stop inner) (λ t. past 41 stop t.1 >>= λ rest. Ok (t.0, rest)) (component_within f n each stop inner)
    (λ t within. after_any (suc n) (past 41 stop t.1) (λ rest. Ok (t.0, rest)) (λ rest. within)))

filter_within : (levels stop : ℕ) (bytes : List ℕ) → Within levels (filter_in levels stop bytes)
unfolding filter_in
filter_within zero stop bytes = if_within zero (begins_with 40 bytes) (Err TooDeep) (refused stop bytes) tt tt
filter_within (suc levels) stop bytes = enclosed_within (filter_in levels) levels (λ s b. filter_within levels s b) stop bytes

-- ---- a whole text

abbrev IsWithin : Result FilterTree FilterFault → Type 0
IsWithin (Ok t) = depth t ≤ 32
IsWithin (Err fault) = Unit {0}

whole_if : (b : Bool) (one other : Result FilterTree FilterFault) → IsWithin one → IsWithin other → IsWithin (if b then one else other)
whole_if true one other first second = first
whole_if false one other first second = second

whole_after : (read : Result (FilterTree × List ℕ) FilterFault) (f : FilterTree × List ℕ → Result FilterTree FilterFault) → Within 32 read
    → ((x : FilterTree × List ℕ) → depth x.0 ≤ 32 → IsWithin (f x)) → IsWithin (read >>= f)
whole_after (Ok x) f within each = each x within
whole_after (Err fault) f within each = tt

whole_within : (bytes : List ℕ) → IsWithin (whole_at bytes)
unfolding whole_at
whole_within bytes =
    whole_after (filter_in 32 (length bytes) bytes) (λ t. if length t.1 == 0 then Ok t.0 else refused (length bytes) t.1) (filter_within 32 (length bytes) bytes)
    (λ t within. whole_if (length t.1 == 0) (Ok t.0) (refused (length bytes) t.1) within tt)

refused_within : (place : ℕ) (read : Result FilterTree FilterFault) → IsWithin (refused_at place read)
refused_within place (Ok t) = tt
refused_within place (Err fault) = tt

read_within : (text : List ℕ) → IsWithin (read_filter text)
unfolding read_filter
read_within text =
    let valid = utf8_valid_len text in
    whole_if (valid == length text) (whole_at text) (refused_at valid (whole_at (take valid text))) (whole_within text) (refused_within valid (whole_at (take valid text)))

-- a filter that a text is read as stands in at most 32 levels
pub depth_of_read : (text : List ℕ) (t : FilterTree) → read_filter text ≡ Ok t → depth t ≤ 32
depth_of_read text t read = subst IsWithin read (read_within text)
