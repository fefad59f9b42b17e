-- What a port reports of its writes and its entries, and the text of that.
use Rattle.std.proofs.Common.{◌≡◌, ℕ, suc, ◌+◌, Bool, true, false, List, [], ◌∷◌, ◌++◌, length, if◌then◌else◌, is_some, sym, ap, ◌∙◌, subst, arith, append_assoc, append-nil}
use Rattle.entry_tree.specs.Selection.{Search, search_of, select}
use Rattle.entry_tree.specs.State.{entry_named}
use Rattle.entry_tree.specs.declared.entry.Entry.{Entry}
use Rattle.directory_writes.specs.Directory.{entries_of}
use Rattle.sync_consumer.specs.Taking.{ConsumerState}
use Rattle.sync_provider.specs.Ports.{IsReplied, PortState, SearchReplies, WritesReplies}
use Rattle.sync_provider.specs.Searching.{limited, reply_to}
use Rattle.sync_provider.specs.declared.searching.PlainSearch.{PlainSearch}
use Rattle.sync_provider.specs.declared.searching.SearchReply.{SearchReply}
use Rattle.sync_provider.specs.declared.searching.SearchReply.TheVariants as found
use Rattle.drill_plan.specs.Ending.{whole}
use Rattle.drill_plan.specs.Plain.{plain_of_each}
use Rattle.drill_plan.specs.Summary.{consumer_line, writes_line}
use Rattle.sync_drill.specs.Going.{OthersCameIn}
use Rattle.sync_drill.specs.Summing.{HasCountedWrites, IsWholeLine, copies_text}
use Rattle.sync_drill.proofs.Meetings.{came-twice, later-came}

-- ---- what a port reports

-- it counted its writes
pub counted_writes : (old new : PortState) (count : ℕ) → IsReplied old (λ p. WritesReplies p count new) → HasCountedWrites old new count
counted_writes old new count replied =
    subst (λ p. HasCountedWrites old p count) (sym replied.replies.state)
    (record {
      came = later-came old replied.place replied.later;
      is = replied.replies.answer;
      accepted = replied.replies.accepted;
      formed = replied.replies.formed;
    })

-- it was asked for entries
pub searched-came : (old new : PortState) (ask : PlainSearch) (reply : SearchReply) → IsReplied old (λ p. SearchReplies p ask reply new) → OthersCameIn old new
searched-came old new ask reply replied =
    subst (OthersCameIn old) (sym replied.replies.state) (later-came old replied.place replied.later)

-- without a limit all that is selected is found
found_in : (entries : List Entry) (ask : PlainSearch) (list : List Entry) → ask.size_limit ≡ 0 → found.Found list ≡ reply_to entries ask
    → list ≡ select (search_of ask.spec) entries
found_in entries ask list none is = by (is_some (entry_named entries ask.spec.base)) is
  where
    selected : List Entry
    selected = select (search_of ask.spec) entries

    same : found.Found list ≡ found.Found selected → list ≡ selected
    same e = cc

    apart : found.Found list ≡ found.NoSuchBase → ⊥
    apart e = cc

    by : (b : Bool) → found.Found list ≡ (if b then limited ask.size_limit selected else found.NoSuchBase) → list ≡ selected
    by true e = same (e ∙ ap (λ n. limited n selected) none)
    by false e = absurd (apart e)

-- so it found all that is selected
pub found_all : (old new : PortState) (ask : PlainSearch) (list : List Entry) → ask.size_limit ≡ 0
    → IsReplied old (λ p. SearchReplies p ask (found.Found list) new) → list ≡ select (search_of ask.spec) (entries_of new.directory)
found_all old new ask list none replied =
    found_in (entries_of replied.place.directory) ask list none (replied.replies.answer filled)
    ∙ ap (λ (p : PortState). select (search_of ask.spec) (entries_of p.directory)) (sym replied.replies.state)
  where
    filled : found.Found list ≡ found.NoMemory → ⊥
    filled e = cc

-- the line of all entries
pub whole_line_is : (old mid new : PortState) (count : ℕ) (ask : PlainSearch) (list : List Entry) (line : List ℕ)
    → IsReplied old (λ p. WritesReplies p count mid) → IsReplied mid (λ p. SearchReplies p ask (found.Found list) new)
    → search_of ask.spec ≡ whole → ask.size_limit ≡ 0 → line ≡ writes_line count (plain_of_each list) → IsWholeLine old new line
whole_line_is old mid new count ask list line counts searched all none is = record {
  counted = mid;
  count = count;
  earlier = counted_writes old mid count counts;
  later = searched-came mid new ask (found.Found list) searched;
  is = is
      ∙ ap (λ entries. writes_line count (plain_of_each entries))
      (found_all mid new ask list none searched ∙ ap (λ (search : Search). select search (entries_of new.directory)) all);
}

-- entries of others came in meanwhile
pub whole-came : (old new : PortState) (line : List ℕ) → IsWholeLine old new line → OthersCameIn old new
whole-came old new line whole_is = came-twice old whole_is.counted new whole_is.earlier.came whole_is.later

-- ---- the lines of the copies

-- one copy more
pub copies_text-push : (place : ℕ) (copies : List ConsumerState) (copy : ConsumerState)
    → copies_text place (copies ++ copy ∷ []) ≡ copies_text place copies ++ consumer_line (place + length copies) (plain_of_each copy.copy.held)
copies_text-push place [] copy =
    let same : place ≡ place + 0 = omega arith in
    append-nil (consumer_line place (plain_of_each copy.copy.held)) ∙ ap (λ n. consumer_line n (plain_of_each copy.copy.held)) same
copies_text-push place (first ∷ copies) copy =
    let same : suc place + length copies ≡ place + suc (length copies) = omega arith in
    ap (λ text. consumer_line place (plain_of_each first.copy.held) ++ text)
    (copies_text-push (suc place) copies copy
    ∙ ap (λ n. copies_text (suc place) copies ++ consumer_line n (plain_of_each copy.copy.held)) same)
    ∙ sym (append_assoc (consumer_line place (plain_of_each first.copy.held)) (copies_text (suc place) copies)
    (consumer_line (place + suc (length copies)) (plain_of_each copy.copy.held)))
