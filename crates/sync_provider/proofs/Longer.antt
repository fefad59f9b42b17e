-- A search over one more write: what it sent so far is the same.
use Rattle.std.proofs.Common.{◌≡◌, ℕ, zero, suc, ◌+◌, ◌≤◌, Bool, true, false, cond, List, [], ◌∷◌, ◌++◌, length, refl, ap, sym, ◌∙◌, inl, inr, arith, append_assoc, append-nil}
use Rattle.std.specs.Prelude.{◌⊎◌}
use Rattle.entry_tree.specs.History.{state_of}
use Rattle.entry_tree.specs.Selection.{Search, select}
use Rattle.entry_tree.specs.Touched.{touched}
use Rattle.entry_tree.specs.declared.entry.Entry.{Entry}
use Rattle.entry_tree.specs.declared.op.Write.{Write}
use Rattle.sync_model.specs.Copy.{Copy}
use Rattle.sync_model.specs.Law.{MarksRise, IsCut, MayBegin, IsContentWithin}
use Rattle.sync_model.specs.Message.{SyncMessage}
use Rattle.sync_model.specs.Stream.{SyncOperation, Start, RefreshPiece, content_after, walk, last_mark, refresh, notified_all, group, later, stream}
use Rattle.sync_model.specs.Stream.Start.{InitialContent, DeletePhase, PresentPhase}
use Rattle.sync_model.proofs.Refresh.{marks-last}
use Rattle.directory_writes.proofs.Notified.{agree-longer}
use Rattle.sync_provider.specs.Search.{cookie_after, session_of}
use Rattle.sync_provider.proofs.Agreeing.{walks_by, refresh_agrees}
use Rattle.sync_provider.proofs.Histories.{cookie-longer, group-longer}
use Rattle.sync_provider.proofs.Whereabouts.{InRefresh, AtWhole, InGroup, IsWhere}

abbrev one_more : List Write → Write → List Write
one_more writes w = writes ++ w ∷ []

module _ (number : ℕ) (persists : Bool) (search : Search) (writes : List Write) (w : Write) where
  abbrev pub old : SyncOperation
  old = session_of persists number number search writes

  -- the search over one more write
  abbrev pub new : SyncOperation
  new = session_of persists number number search (one_more writes w)

  -- the contents up to the last write but one
  pub content_same : (n : ℕ) → n ≤ length writes → content_after new n ≡ content_after old n
  content_same n low = ap (select search) (agree-longer number writes (w ∷ []) n low)

  cookie_same : (n : ℕ) → n ≤ length writes → new.cookies n ≡ old.cookies n
  cookie_same n low = cookie-longer number number writes (w ∷ []) n low

  group_same : (n : ℕ) → n + 1 ≤ length writes → group new n ≡ group old n
  group_same n low = group-longer persists number number search writes (w ∷ []) (one_more writes w) n refl low

  later_same : (count from : ℕ) → from + count ≤ length writes → later new from count ≡ later old from count
  later_same zero from low = refl
  later_same (suc count) from low =
      let prefix : later new from count ≡ later old from count = later_same count from (omega (arith, low)) in
      let last : group new (from + count) ≡ group old (from + count) = group_same (from + count) (omega (arith, low)) in
      λ i. prefix i ++ last i

  walk_same : (first : Start) (opened : ℕ) → opened ≤ length writes → walk new first opened ≡ walk old first opened
  walk_same first opened low =
      walks_by persists search (state_of number (one_more writes w)) (state_of number writes) (cookie_after number number (one_more writes w)) (cookie_after number number writes) first opened 0 (length writes) low
      (λ n least. agree-longer number writes (w ∷ []) n least) cookie_same first

  refresh_same : (first : Start) (opened : ℕ) (pieces : List RefreshPiece) → opened ≤ length writes → MarksRise opened pieces → last_mark opened pieces ≤ length writes
      → refresh new first opened pieces ≡ refresh old first opened pieces
  refresh_same first opened pieces low rises last =
      refresh_agrees persists search (state_of number (one_more writes w)) (state_of number writes) (cookie_after number number (one_more writes w)) (cookie_after number number writes) first opened 0 (length writes) low
      (λ n least. agree-longer number writes (w ∷ []) n least) cookie_same pieces rises last

  -- the walk is cut by the same pieces
  pub cut_same : (first : Start) (opened : ℕ) (pieces : List RefreshPiece) → opened ≤ length writes → IsCut old first opened pieces → IsCut new first opened pieces
  cut_same first opened pieces low cut = record { cut = cut.cut ∙ sym (walk_same first opened low); rises = cut.rises }

  -- its messages up to n of the writes are those over the writes before
  pub stream_same : (first : Start) (opened : ℕ) (pieces : List RefreshPiece) (count : ℕ) → opened ≤ length writes → MarksRise opened pieces → last_mark opened pieces + count ≤ length writes
      → stream new first opened pieces count ≡ stream old first opened pieces count
  stream_same first opened pieces count low rises last =
      let prefix : refresh new first opened pieces ≡ refresh old first opened pieces = refresh_same first opened pieces low rises (omega (arith, last)) in
      λ i. prefix i ++ cond persists (later_same count (last_mark opened pieces) last i) []

  begins_same : (first : Start) (opened : ℕ) (held : List Entry) → opened ≤ length writes → MayBegin old first opened held → MayBegin new first opened held
  begins_same first opened held low begins = by first begins
    where
      content : (least : ℕ) → IsContentWithin old least opened held → IsContentWithin new least opened held
      content least is = record { number = is.number; from = is.from; upto = is.upto; same = is.same ∙ sym (content_same is.number (omega (arith, is.upto, low))) }

      by : (s : Start) → MayBegin old s opened held → MayBegin new s opened held
      by InitialContent is = is
      by (DeletePhase n) is = content n is
      by (PresentPhase n) is = content n is

  -- ---- where a search is

  module _ (first : Start) (opened : ℕ) (pieces : List RefreshPiece) (rises : MarksRise opened pieces) (count : ℕ) (low : last_mark opened pieces + count ≤ length writes) (entries : List Entry) (held : Copy) (taken ahead : List SyncMessage) where
    -- the number of writes at the last piece
    abbrev mark : ℕ
    mark = last_mark opened pieces

    refresh_longer : InRefresh old first opened pieces count entries held taken ahead → InRefresh new first opened pieces count entries held taken ahead
    refresh_longer is =
        let before : opened ≤ mark = marks-last pieces opened rises in
        record {
          begins = begins_same first opened entries (omega (arith, before, low)) is.begins;
          rest = is.rest;
          some = is.some;
          whole = is.whole ∙ sym (refresh_same first opened pieces (omega (arith, before, low)) rises (omega (arith, low)));
          beyond = is.beyond ∙ ap (λ ms. is.rest ++ cond persists ms []) (sym (later_same count mark low));
          copy = is.copy;
          met = is.met;
        }

    whole_longer : AtWhole old mark count entries held ahead → AtWhole new mark count entries held ahead
    whole_longer is = record {
      number = is.number;
      more = is.more;
      from = is.from;
      sum = is.sum;
      content = is.content ∙ sym (content_same is.number (omega (arith, is.sum, low)));
      beyond = is.beyond ∙ sym (later_same is.more is.number (omega (arith, is.sum, low)));
      ended = is.ended;
      copy = is.copy;
    }

    group_longer : InGroup old mark count entries held ahead → InGroup new mark count entries held ahead
    group_longer is =
        let one : content_after new is.number ≡ content_after old is.number = content_same is.number (omega (arith, is.sum, low)) in
        let two : content_after new (is.number + 1) ≡ content_after old (is.number + 1) = content_same (is.number + 1) (omega (arith, is.sum, low)) in
        let text : new.cookies (is.number + 1) ≡ old.cookies (is.number + 1) = cookie_same (is.number + 1) (omega (arith, is.sum, low)) in
        let more : later new (is.number + 1) is.more ≡ later old (is.number + 1) is.more = later_same is.more (is.number + 1) (omega (arith, is.sum, low)) in
        record {
          number = is.number;
          more = is.more;
          from = is.from;
          sum = is.sum;
          content = is.content ∙ sym one;
          before = is.before;
          entry_change = is.entry_change;
          after = is.after;
          at = (λ i. touched (one i) (two i)) ∙ is.at;
          beyond = is.beyond ∙ (λ i. notified_all (sym text i) (is.entry_change ∷ is.after) ++ sym more i);
          ended = is.ended;
          copy = is.copy;
        }

    -- a copy that stands somewhere in its messages stands there over one more write
    pub place_longer : IsWhere old first opened pieces count entries held taken ahead → IsWhere new first opened pieces count entries held taken ahead
    place_longer (inl is) = inl (refresh_longer is)
    place_longer (inr is) = inr (is.0, past is.1)
      where
        past : AtWhole old mark count entries held ahead ⊎ InGroup old mark count entries held ahead → AtWhole new mark count entries held ahead ⊎ InGroup new mark count entries held ahead
        past (inl at) = inl (whole_longer at)
        past (inr at) = inr (group_longer at)

-- ---- the messages of one more write are to come

module _ (operation : SyncOperation) (first : Start) (opened : ℕ) (pieces : List RefreshPiece) (count : ℕ) (entries : List Entry) (held : Copy) (taken ahead : List SyncMessage) where
  abbrev Last : ℕ
  Last = last_mark opened pieces

  abbrev Group : List SyncMessage
  Group = group operation (Last + count)

  -- what the write sends
  abbrev pub More : List SyncMessage
  More = cond operation.persists Group []

  refresh_grows : InRefresh operation first opened pieces count entries held taken ahead → InRefresh operation first opened pieces (suc count) entries held taken (ahead ++ More)
  refresh_grows is = record {
    begins = is.begins;
    rest = is.rest;
    some = is.some;
    whole = is.whole;
    beyond = ap (λ ms. ms ++ More) is.beyond ∙ by operation.persists;
    copy = is.copy;
    met = is.met;
  }
    where
      by : (b : Bool) → (is.rest ++ cond b (later operation Last count) []) ++ cond b Group [] ≡ is.rest ++ cond b (later operation Last count ++ Group) []
      by true = append_assoc is.rest (later operation Last count) Group
      by false = append-nil (is.rest ++ [])

  whole_grows : operation.persists ≡ true → AtWhole operation Last count entries held ahead → AtWhole operation Last (suc count) entries held (ahead ++ More)
  whole_grows goes is = record {
    number = is.number;
    more = suc is.more;
    from = is.from;
    sum = omega (arith, is.sum);
    content = is.content;
    beyond = (λ i. is.beyond i ++ cond (goes i) (group operation (sym is.sum i)) []);
    ended = is.ended;
    copy = is.copy;
  }

  group_grows : operation.persists ≡ true → InGroup operation Last count entries held ahead → InGroup operation Last (suc count) entries held (ahead ++ More)
  group_grows goes is = record {
    number = is.number;
    more = suc is.more;
    from = is.from;
    sum = omega (arith, is.sum);
    content = is.content;
    before = is.before;
    entry_change = is.entry_change;
    after = is.after;
    at = is.at;
    beyond =
        (λ i. is.beyond i ++ cond (goes i) (group operation (sym is.sum i)) [])
        ∙ append_assoc (notified_all (operation.cookies (is.number + 1)) (is.entry_change ∷ is.after)) (later operation (is.number + 1) is.more) (group operation (is.number + 1 + is.more));
    ended = is.ended;
    copy = is.copy;
  }

  -- and with the messages of that write to come
  pub place_grows : IsWhere operation first opened pieces count entries held taken ahead → IsWhere operation first opened pieces (suc count) entries held taken (ahead ++ More)
  place_grows (inl is) = inl (refresh_grows is)
  place_grows (inr is) = inr (is.0, past is.1)
    where
      past : AtWhole operation Last count entries held ahead ⊎ InGroup operation Last count entries held ahead
          → AtWhole operation Last (suc count) entries held (ahead ++ More) ⊎ InGroup operation Last (suc count) entries held (ahead ++ More)
      past (inl at) = inl (whole_grows is.0 at)
      past (inr at) = inr (group_grows is.0 at)
