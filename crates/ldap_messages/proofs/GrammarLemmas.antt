-- What has a spelling is of the grammar.
use Rattle.std.proofs.Common.{ℕ, zero, suc, ◌≤◌, List, [], Option, Some, None, Result, Ok, Err, arith}
use Rattle.std.specs.Prelude.{IfOk, IfSome}
use Rattle.ldap_ber.specs.Form.{Many}
use Rattle.ldap_filter.specs.FilterTree.{FilterTree, Trees, all_of, any_of, negated, equal, substrings, at_least, at_most, present, approx, extensible, no_trees, more_trees, depth, deepest, listed}
use Rattle.ldap_parts.specs.Components.{IsInRange, RangeForm}
use Rattle.ldap_parts.specs.Filters.{FilterIn}
use Rattle.ldap_messages.specs.declared.fault.MessageFault.{MessageFault}
use Rattle.ldap_messages.specs.declared.message.Message.{Message}
use Rattle.ldap_messages.specs.Search.{SearchBounds, SearchBoundsForm}
use Rattle.ldap_messages.specs.Operation.{Operation, bind, unbind, search, modify, add, delete, rename, compare, abandon, extended, bind_response, entry, search_done, reference, modify_response, add_response, delete_response, rename_response, compare_response, extended_response, intermediate, OperationForm, IsOfGrammar}
use Rattle.ldap_messages.specs.Whole.{MessageValue, message_value, MessageForm, HasSpelling}
use Rattle.ldap_messages.specs.Frame.{HasMeaning, read_of}
use Rattle.ldap_messages.proofs.LdapResultLemmas.{ldap_result_is, response_is}
use Rattle.ldap_messages.proofs.FrameLemmas.{read_found}

each_depth : (d : ℕ) → ((bytes : List ℕ) (t : FilterTree) (rest : List ℕ) → FilterIn d bytes t rest → depth t ≤ d) → (bytes : List ℕ) (ts : Trees) → Many (FilterIn d) bytes (listed ts) → deepest ts ≤ d
each_depth d p bytes no_trees h = omega arith
each_depth d p bytes (more_trees t ts) h =
    let one : depth t ≤ d = p bytes t h.0 h.1 in
    let others : deepest ts ≤ d = each_depth d p h.0 ts h.2 in
    omega arith

filter_depth : (levels : ℕ) (bytes : List ℕ) (t : FilterTree) (rest : List ℕ) → FilterIn levels bytes t rest → depth t ≤ levels
unfolding FilterIn
filter_depth zero bytes t rest h = absurd h
filter_depth (suc d) bytes (all_of ts) rest h = let e : deepest ts ≤ d = each_depth d (filter_depth d) h.0 ts h.2 in omega arith
filter_depth (suc d) bytes (any_of ts) rest h = let e : deepest ts ≤ d = each_depth d (filter_depth d) h.0 ts h.2 in omega arith
filter_depth (suc d) bytes (negated t) rest h = let e : depth t ≤ d = filter_depth d h.0 t [] h.2 in omega arith
filter_depth (suc d) bytes (equal n v) rest h = omega arith
filter_depth (suc d) bytes (substrings n i m l) rest h = omega arith
filter_depth (suc d) bytes (at_least n v) rest h = omega arith
filter_depth (suc d) bytes (at_most n v) rest h = omega arith
filter_depth (suc d) bytes (present n) rest h = omega arith
filter_depth (suc d) bytes (approx n v) rest h = omega arith
filter_depth (suc d) bytes (extensible v) rest h = omega arith

range_bounds : (least most tag : ℕ) (bytes : List ℕ) (value : ℕ) (rest : List ℕ) → RangeForm least most tag bytes value rest → (least ≤ value) × (value ≤ most)
range_bounds least most tag bytes value rest h = let w : IsInRange least most h.0 value = h.2 in (w.1, w.2)

search_bounds_is : (search_bounds : SearchBounds) (bytes rest : List ℕ) → SearchBoundsForm bytes search_bounds rest → (search_bounds.1.1.0 ≤ 3) × (search_bounds.1.1.1.0 ≤ 2147483647) × (search_bounds.1.1.1.1.0 ≤ 2147483647)
search_bounds_is search_bounds bytes rest h =
    let beyond = h.2.2 in
    let deref = range_bounds 0 3 10 _ search_bounds.1.1.0 _ beyond.1 in
    let limits = beyond.2 in
    let size = range_bounds 0 2147483647 2 _ search_bounds.1.1.1.0 _ limits.1 in
    let time = range_bounds 0 2147483647 2 _ search_bounds.1.1.1.1.0 _ limits.2.1 in
    (deref.1, size.1, time.1)

operation_is : (op : Operation) (bytes rest : List ℕ) → OperationForm bytes op rest → IsOfGrammar op
operation_is (bind x) bytes rest h = range_bounds 1 127 2 h.0 x.0 _ h.3.1
operation_is (unbind x) bytes rest h = tt
operation_is (search x) bytes rest h =
    let search_bounds = search_bounds_is x.0 h.0 h.3.0 h.3.1 in
    (search_bounds.0, search_bounds.1, search_bounds.2, filter_depth 32 _ x.1.0 _ h.3.2.1)
operation_is (modify x) bytes rest h = tt
operation_is (add x) bytes rest h = tt
operation_is (delete x) bytes rest h = tt
operation_is (rename x) bytes rest h = tt
operation_is (compare x) bytes rest h = tt
operation_is (abandon x) bytes rest h = tt
operation_is (extended x) bytes rest h = tt
operation_is (bind_response x) bytes rest h = ldap_result_is h.0 x.0 _ h.3.1
operation_is (entry x) bytes rest h = tt
operation_is (search_done x) bytes rest h = response_is 101 bytes x rest h
operation_is (reference uris) bytes rest h = h.2.1
operation_is (modify_response x) bytes rest h = response_is 103 bytes x rest h
operation_is (add_response x) bytes rest h = response_is 105 bytes x rest h
operation_is (delete_response x) bytes rest h = response_is 107 bytes x rest h
operation_is (rename_response x) bytes rest h = response_is 109 bytes x rest h
operation_is (compare_response x) bytes rest h = response_is 111 bytes x rest h
operation_is (extended_response x) bytes rest h = ldap_result_is h.0 x.0 _ h.3.1
operation_is (intermediate x) bytes rest h = tt

message_is : (bytes rest : List ℕ) (whole : MessageValue) → MessageForm bytes whole rest → HasSpelling whole
unfolding MessageForm
message_is bytes rest whole h =
    let id = range_bounds 0 2147483647 2 h.0 whole.0 _ h.3.1 in
    let beyond = h.3.2 in
    (id.1, operation_is whole.1.0 _ _ beyond.1)

-- a message that was read is of the grammar
pub grammar_meaning : (result : Result (Option (Message × ℕ)) MessageFault) (bytes : List ℕ) → HasMeaning result (read_of bytes) → IfOk result (λ o. IfSome o (λ x. HasSpelling (message_value x.0)))
grammar_meaning (Ok None) bytes h = tt
grammar_meaning (Ok (Some x)) bytes h = message_is _ [] (message_value x.0) (read_found bytes (message_value x.0) x.1 h).0
grammar_meaning (Err e) bytes h = tt
