-- The examples, by computing them.
use Rattle.std.proofs.Common.{◌≡◌, pos, Bool, true, false, cond, nat_eq, [], ◌∷◌, ◌++◌, map, refl, ap, ◌∙◌, Some, None, Option}
use Rattle.std.specs.Prelude.{not, filter}
use Rattle.std.proofs.lemmas.Bool.{eq-eqb}
use Rattle.ldap_constants.specs.declared.result_codes.TheConstants.{SUCCESS}
use Rattle.entry_tree.proofs.Order.{at_head}
use Rattle.entry_tree.specs.declared.entry.Entry.{Entry}
use Rattle.entry_tree.specs.declared.touched.EntryChange.{EntryChange}
use Rattle.entry_tree.specs.State.{entry_at}
use Rattle.entry_tree.specs.Selection.{Search, is_selected, select}
use Rattle.entry_tree.specs.Touched.{is_change, joined}
use Rattle.entry_tree.specs.History.{differing_over}
use Rattle.sync_model.specs.Message.{CookieText}
use Rattle.sync_model.specs.Message.SyncMessage.{Done}
use Rattle.sync_model.specs.Stream.{decided, gathered}
use Rattle.sync_model.specs.Copy.{Copy}
use Rattle.sync_model.specs.Examples.{EmptyIsEnded, AddedIsSent, DeletedIsNamed, DeletedIsWalked, KeptIsNamed, MessagesAreAnswered, empty_copy}

found_selected : (selection : Search) (entry : Entry) → is_selected selection entry ≡ true → entry_at (select selection (entry ∷ [])) entry.uuid ≡ Some entry
found_selected selection entry h = ap (λ b. entry_at (cond b (entry ∷ []) []) entry.uuid) h ∙ at_head entry []

-- an empty directory sends the end alone
pub empty_is_ended : EmptyIsEnded
unfolding differing_over
empty_is_ended = λ selection cookies. refl

-- without a cookie a selected entry is sent
pub added_is_sent : AddedIsSent
unfolding differing_over
added_is_sent = λ selection cookies entry h.
    ap (λ found. gathered false ((decided false true entry.uuid found ++ []) ++ []) ++ Done (pos SUCCESS) (Some (false, Some (cookies 1))) ∷ []) (found_selected selection entry h)

-- a delete after a cookie that the log covers is named in a delete phase
pub deleted_is_named : DeletedIsNamed
unfolding differing_over
deleted_is_named = λ selection cookies entry. refl

-- the identity of a deleted entry is all that the walk goes through
pub deleted_is_walked : DeletedIsWalked
unfolding differing_over
deleted_is_walked = λ selection cookies entry.
    ap (λ found. let t : EntryChange = record { uuid = entry.uuid; before = found; after = None } in joined [] (map (λ entry_change. entry_change.uuid) (filter is_change (t ∷ [])))) (at_head entry [])

-- an entry that was not touched is named as present where the log does not cover the cookie
pub kept_is_named : KeptIsNamed
unfolding differing_over
kept_is_named = λ selection cookies entry h.
    ap (λ found. gathered false ((decided false false entry.uuid found ++ []) ++ []) ++ Done (pos SUCCESS) (Some (false, Some (cookies 1))) ∷ []) (found_selected selection entry h)

dropped_alone : (entry : Entry) (cookie : Option CookieText) (b : Bool) → b ≡ true → (let it : Copy = record { held = filter (λ (e : Entry). not b) (entry ∷ []); cookie = cookie; session = None } in it) ≡ empty_copy cookie
dropped_alone entry cookie b h = ap (λ (c : Bool). let it : Copy = record { held = filter (λ (e : Entry). not c) (entry ∷ []); cookie = cookie; session = None } in it) h

-- what a copy answers to single messages, worked out by hand
pub messages_are_answered : MessagesAreAnswered
messages_are_answered = record {
  no_search = refl;
  other_id = refl;
  passed = refl;
  unknown = refl;
  ended_twice = refl;
  done_in_once = refl;
  no_control = refl;
  unwilling = refl;
  early_cookie = λ cookie. refl;
  later_cookie = λ first second. refl;
  stays_over = λ cookie. refl;
  refresh_required = λ cookie. refl;
  busy = λ cookie. refl;
  copied = λ cookie. refl;
  old_cookie = λ cookie. refl;
  present_drops = λ entry cookie. dropped_alone entry (Some cookie) (nat_eq entry.uuid entry.uuid) (eq-eqb entry.uuid entry.uuid refl);
  delete_keeps = λ entry cookie. refl;
}
