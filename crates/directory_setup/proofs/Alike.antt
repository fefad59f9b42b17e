-- Directories that the same adds filled: what one judges of an add, the other does too.
use Rattle.std.proofs.Common.{◌≡◌, ◌≢◌, ℕ, ◌+◌, ◌<◌, ◌≤◌, Bool, true, false, not, ◌&&◌, ◌||◌, nat_lt, nat_le, min, cond, if◌then◌else◌, List, [], ◌∷◌, ◌++◌, map, length, Option, Some, None, Result, Err, refl, sym, ap, subst, ◌∙◌, arith}
use Rattle.std.specs.List.{list_all, list_any}
use Rattle.std.specs.Option.{option_or}
use Rattle.std.proofs.lemmas.Bool.{and_parts, and_from, false≢true, ltb-true, lt-ltb}
use Rattle.std.proofs.lemmas.List.{length-map, length_push, map-append}
use Rattle.std.proofs.lemmas.List.Folds.{fold-map, list_all-append}
use Rattle.csn_cookie.specs.Csn.{CsnValue, start, greatest_micros}
use Rattle.csn_cookie.specs.CsnMaker.{csn_from, greatest_count, next_csn}
use Rattle.dn_names.specs.Names.{is_at_or_below, is_child_of, same_name}
use Rattle.ldap_constants.specs.declared.result_codes.TheConstants.{ADMIN_LIMIT_EXCEEDED, ENTRY_ALREADY_EXISTS, NO_SUCH_OBJECT, OTHER, UNWILLING_TO_PERFORM}
use Rattle.schema_rules.specs.Attributes.{entry_code, weight_of}
use Rattle.schema_rules.specs.declared.attributes.Attribute.{Attribute}
use Rattle.entry_tree.specs.Codes.{add_code, code_of, naming_code, weight_code}
use Rattle.entry_tree.proofs.IdentityNumbers.{identity_rises}
use Rattle.entry_tree.specs.History.{identity}
use Rattle.entry_tree.specs.State.{has_name, has_parent, is_named, most_entries, put, total_weight}
use Rattle.entry_tree.specs.declared.entry.Entry.{Entry}
use Rattle.entry_tree.specs.declared.op.Op.{Op}
use Rattle.entry_tree.specs.declared.op.Op.TheVariants.{Add}
use Rattle.entry_tree.specs.declared.op.Write.{Write}
use Rattle.entry_tree.proofs.Putting.{put_after}
use Rattle.directory_writes.specs.Directory.{DirectoryState, code_of_judged, csn_of_next_write, entries_after, entries_of, has_room, judged, judged_at, judged_code, last_csn, last_csn_of, most_writes, most_writes_weight, with_write}
use Rattle.directory_writes.specs.Weights.{kept_weight, op_weight}
use Rattle.directory_writes.proofs.Csns.{last_csn-push}
use Rattle.directory_writes.proofs.Writes.{entries_after-none, entries_after-push, judged_good, kept_weight-push}
use Rattle.sync_config.specs.Keys.{Name}
use Rattle.sync_provider.specs.Machine.{judged_by}
use Rattle.sync_provider.specs.Ports.{PortState, WriteReplies, noted, wrote_in}
use Rattle.sync_provider.specs.declared.journal_note.JournalNote.TheVariants.{Wrote}
use Rattle.sync_provider.specs.declared.provider.Kind.{Kind}
use Rattle.sync_provider.specs.declared.provider.Kind.TheVariants.{Replica, Root}
use Rattle.sync_provider.specs.declared.writing.Reply.{Reply}

-- ---- entries without identities and CSNs

-- an entry without its identity and its CSN
abbrev pub bare : Entry → Entry
bare e = record { uuid = 0; csn = start 0; dn = e.dn; attrs = e.attrs }

any_bare : (test : Entry → Bool) → ((e : Entry) → test (bare e) ≡ test e) → (entries : List Entry)
    → list_any test (map bare entries) ≡ list_any test entries
any_bare test same [] = refl
any_bare test same (e ∷ entries) =
    ap (λ b. b || list_any test (map bare entries)) (same e) ∙ ap (λ b. test e || b) (any_bare test same entries)

-- the code of an add, by whether its parent and its name have an entry, and by the number and the weight of the entries
abbrev add_code_by : Name → Name → List Attribute → (parent named : Bool) → (count total : ℕ) → Option ℕ
add_code_by suffix name attrs parent named count total =
    option_or
    (if not (is_at_or_below name suffix) || (not (same_name name suffix) && not parent) then Some NO_SUCH_OBJECT
    else if named then Some ENTRY_ALREADY_EXISTS else None)
    (option_or (entry_code attrs)
    (option_or (naming_code name attrs)
    (if nat_le most_entries count then Some ADMIN_LIMIT_EXCEEDED else weight_code (weight_of attrs) (total + weight_of attrs))))

-- it depends on the names and attributes alone
add_bare : (suffix : Name) (entries : List Entry) (name : Name) (attrs : List Attribute)
    → add_code suffix (map bare entries) name attrs ≡ add_code suffix entries name attrs
add_bare suffix entries name attrs =
    let others = map bare entries in
    ap (λ b. add_code_by suffix name attrs b (has_name others name) (length others) (total_weight others))
    (any_bare (λ (e : Entry). is_child_of name e.dn) (λ e. refl) entries)
    ∙ ap (λ b. add_code_by suffix name attrs (has_parent entries name) b (length others) (total_weight others))
    (any_bare (is_named name) (λ e. refl) entries)
    ∙ ap (λ n. add_code_by suffix name attrs (has_parent entries name) (has_name entries name) n (total_weight others))
    (length-map entries bare)
    ∙ ap (λ n. add_code_by suffix name attrs (has_parent entries name) (has_name entries name) (length entries) n)
    (fold-map (λ total (e : Entry). total + weight_of e.attrs) bare 0 entries)

-- ---- a directory that was filled by adds alone

-- each identity is below this one
abbrev pub all_below : ℕ → List Entry → Bool
all_below uuid entries = list_all (λ (e : Entry). nat_lt e.uuid uuid) entries

-- the identity of the next write is above all, and CSNs are left for more writes than a directory keeps
pub record IsFilled (d : DirectoryState) : Type 0 where
  pub low : all_below (identity d.history (length d.writes + 1)) (entries_of d) ≡ true
  pub counted : (last_csn_of d).count ≤ length d.writes
  pub few : length d.writes ≤ most_writes

filled_first : (d : DirectoryState) → d.writes ≡ [] → IsFilled d
filled_first d empty = record {
  low = ap (λ (writes : List Write). all_below (identity d.history (length d.writes + 1)) (entries_after d.history writes)) empty
      ∙ ap (all_below (identity d.history (length d.writes + 1))) (entries_after-none d.history);
  counted =
      let none : (last_csn_of d).count ≡ 0 = ap (λ (writes : List Write). (last_csn (start d.sid) writes).count) empty in
      omega (arith, none);
  few = let none : length d.writes ≡ 0 = ap length empty in omega (arith, none);
}

below_higher : (u v : ℕ) (entries : List Entry) → u < v → all_below u entries ≡ true → all_below v entries ≡ true
below_higher u v [] less low = refl
below_higher u v (e ∷ entries) less low =
    let both = and_parts (nat_lt e.uuid u) (all_below u entries) low in
    let under : e.uuid < u = ltb-true e.uuid u both.0 in
    and_from (nat_lt e.uuid v) (all_below v entries) (lt-ltb e.uuid v (omega (arith, less, under))) (below_higher u v entries less both.1)

-- an entry whose identity is above all is put last
put_last : (e : Entry) (entries : List Entry) → all_below e.uuid entries ≡ true → put e entries ≡ entries ++ e ∷ []
put_last e [] low = refl
put_last e (x ∷ entries) low =
    let both = and_parts (nat_lt x.uuid e.uuid) (all_below e.uuid entries) low in
    put_after e x entries (ltb-true x.uuid e.uuid both.0) ∙ ap (λ es. x ∷ es) (put_last e entries both.1)

-- ---- one add more

abbrev add_of : Name → List Attribute → CsnValue → Write
add_of name attrs csn = record { csn = csn; op = Add name attrs }

abbrev added : DirectoryState → Name → List Attribute → CsnValue → Entry
added d name attrs csn = record { uuid = identity d.history (length d.writes + 1); csn = csn; dn = name; attrs = attrs }

entries_added : (d : DirectoryState) (name : Name) (attrs : List Attribute) (csn : CsnValue) → IsFilled d
    → entries_of (with_write d (add_of name attrs csn)) ≡ entries_of d ++ added d name attrs csn ∷ []
entries_added d name attrs csn filled =
    entries_after-push d.history d.writes (add_of name attrs csn) ∙ put_last (added d name attrs csn) (entries_of d) filled.low

bare_added : (d : DirectoryState) (name : Name) (attrs : List Attribute) (csn : CsnValue) → IsFilled d
    → map bare (entries_of (with_write d (add_of name attrs csn)))
    ≡ map bare (entries_of d) ++ record { uuid = 0; csn = start 0; dn = name; attrs = attrs } ∷ []
bare_added d name attrs csn filled =
    ap (map bare) (entries_added d name attrs csn filled) ∙ map-append bare (entries_of d) (added d name attrs csn ∷ [])

low_after : (d : DirectoryState) (name : Name) (attrs : List Attribute) (csn : CsnValue) → IsFilled d → length d.writes < most_writes
    → all_below (identity d.history (length (d.writes ++ add_of name attrs csn ∷ []) + 1)) (entries_of (with_write d (add_of name attrs csn))) ≡ true
low_after d name attrs csn filled room =
    let here = identity d.history (length d.writes + 1) in
    let next = identity d.history (length d.writes + 1 + 1) in
    let rises : here < next = identity_rises d.history (length d.writes + 1) (omega (arith, room)) in
    ap (λ n. all_below (identity d.history (n + 1)) (entries_of (with_write d (add_of name attrs csn)))) (length_push d.writes (add_of name attrs csn))
    ∙ ap (all_below next) (entries_added d name attrs csn filled)
    ∙ list_all-append (λ (e : Entry). nat_lt e.uuid next) (entries_of d) (added d name attrs csn ∷ [])
    ∙ and_from (all_below next (entries_of d)) (all_below next (added d name attrs csn ∷ []))
    (below_higher here next (entries_of d) rises filled.low)
    (and_from (nat_lt here next) true (lt-ltb here next rises) refl)

filled_after : (d : DirectoryState) (name : Name) (attrs : List Attribute) (csn : CsnValue) → IsFilled d → length d.writes < most_writes
    → csn.count ≤ (last_csn_of d).count + 1 → IsFilled (with_write d (add_of name attrs csn))
filled_after d name attrs csn filled room low = record {
  low = low_after d name attrs csn filled room;
  counted =
      let last : (last_csn_of (with_write d (add_of name attrs csn))).count ≡ csn.count =
      ap (λ (c : CsnValue). c.count) (last_csn-push (start d.sid) d.writes (add_of name attrs csn)) in
      omega (arith, last, length_push d.writes (add_of name attrs csn), filled.counted, low);
  few = omega (arith, length_push d.writes (add_of name attrs csn), room);
}

-- ---- what rejects an operation

-- the code that rejects it, where a CSN is left
abbrev code_in : DirectoryState → Op → Option ℕ
code_in d op = cond (has_room d.writes op) (code_of d.suffix (entries_of d) op) (Some ADMIN_LIMIT_EXCEEDED)

abbrev code_by : Kind → DirectoryState → Op → Option ℕ
code_by Root d op = code_in d op
code_by Replica d op = Some UNWILLING_TO_PERFORM

-- a CSN is left, whose count is at most one above the last one's
record IsNextIn (last : CsnValue) (next : Option CsnValue) : Type 0 where
  pub csn : CsnValue
  pub low : csn.count ≤ last.count + 1
  pub is : next ≡ Some csn

next_in : (now : ℕ) (last : CsnValue) → last.count < greatest_count → IsNextIn last (next_csn now last)
next_in now last few =
    by (nat_lt last.micros (min now greatest_micros)) (nat_lt last.count greatest_count) (lt-ltb last.count greatest_count few)
    (nat_lt last.micros greatest_micros)
  where
    spent : Option CsnValue
    spent = None

    by : (a b : Bool) → b ≡ true → (c : Bool)
        → IsNextIn last (cond a (Some (csn_from last.sid (min now greatest_micros) 0))
        (cond b (Some (csn_from last.sid last.micros (last.count + 1))) (cond c (Some (csn_from last.sid (last.micros + 1) 0)) spent)))
    by true b few c = record { csn = csn_from last.sid (min now greatest_micros) 0; low = omega arith; is = refl }
    by false true few c = record { csn = csn_from last.sid last.micros (last.count + 1); low = omega arith; is = refl }
    by false false few c = absurd (false≢true few)

-- an operation is judged by this code
pub record IsJudgedBy (d : DirectoryState) (op : Op) (code : Option ℕ) (outcome : Result Write ℕ) : Type 0 where
  pub csn : CsnValue
  pub low : csn.count ≤ (last_csn_of d).count + 1
  pub room : code ≡ None → length d.writes < most_writes
  pub is : outcome ≡ judged_code op csn code

some_rejects : (code : ℕ) → ◌≡◌ {A = Option ℕ} (Some code) None → ⊥
some_rejects code is = cc

judged_in : (d : DirectoryState) (op : Op) (now : ℕ) → IsFilled d → IsJudgedBy d op (code_in d op) (judged d op now)
judged_in d op now filled = by (has_room d.writes op) refl
  where
    next : IsNextIn (last_csn_of d) (csn_of_next_write d now)
    next = next_in now (last_csn_of d) (omega (arith, filled.counted, filled.few))

    by : (room : Bool) → has_room d.writes op ≡ room
        → IsJudgedBy d op (cond room (code_of d.suffix (entries_of d) op) (Some ADMIN_LIMIT_EXCEEDED)) (judged d op now)
    by true room = record {
      csn = next.csn;
      low = next.low;
      room = λ none. ltb-true (length d.writes) most_writes
          (and_parts (nat_lt (length d.writes) most_writes) (nat_le (kept_weight d.writes + op_weight op) most_writes_weight) room).0;
      is = judged_good d op now next.csn (code_of d.suffix (entries_of d) op) room next.is refl;
    }
    by false full = record {
      csn = next.csn;
      low = next.low;
      room = λ none. absurd (some_rejects ADMIN_LIMIT_EXCEEDED none);
      is = ap (λ b. cond b (judged_at d op (csn_of_next_write d now)) (Err ADMIN_LIMIT_EXCEEDED)) full;
    }

judged_kind : (kind : Kind) (d : DirectoryState) (op : Op) (now : ℕ) → IsFilled d → IsJudgedBy d op (code_by kind d op) (judged_by kind d op now)
judged_kind Root d op now filled = judged_in d op now filled
judged_kind Replica d op now filled = record {
  csn = last_csn_of d;
  low = omega arith;
  room = λ none. absurd (some_rejects UNWILLING_TO_PERFORM none);
  is = refl;
}

-- ---- two directories that the same adds filled

-- they are of one kind and suffix, their writes are as many and as heavy, and their entries have the same names and attributes
pub record AreAlike (p q : PortState) : Type 0 where
  pub kind : p.kind ≡ q.kind
  pub suffix : p.directory.suffix ≡ q.directory.suffix
  pub count : length p.directory.writes ≡ length q.directory.writes
  pub weight : kept_weight p.directory.writes ≡ kept_weight q.directory.writes
  pub entries : map bare (entries_of p.directory) ≡ map bare (entries_of q.directory)
  pub one : IsFilled p.directory
  pub other : IsFilled q.directory

-- the other way round
pub alike_turned : (p q : PortState) → AreAlike p q → AreAlike q p
alike_turned p q alike = record {
  kind = sym alike.kind;
  suffix = sym alike.suffix;
  count = sym alike.count;
  weight = sym alike.weight;
  entries = sym alike.entries;
  one = alike.other;
  other = alike.one;
}

empty_bare : (d : DirectoryState) → d.writes ≡ [] → map bare (entries_of d) ≡ []
empty_bare d empty =
    ap (λ (writes : List Write). map bare (entries_after d.history writes)) empty ∙ ap (map bare) (entries_after-none d.history)

-- without writes they are alike where they are of one kind and suffix
pub alike_empty : (p q : PortState) → p.kind ≡ q.kind → p.directory.suffix ≡ q.directory.suffix
    → p.directory.writes ≡ [] → q.directory.writes ≡ [] → AreAlike p q
alike_empty p q kind suffix first second = record {
  kind = kind;
  suffix = suffix;
  count = ap length first ∙ sym (ap length second);
  weight = ap kept_weight first ∙ sym (ap kept_weight second);
  entries = empty_bare p.directory first ∙ sym (empty_bare q.directory second);
  one = filled_first p.directory first;
  other = filled_first q.directory second;
}

-- ---- what both judge of an add

module _ (p q : PortState) (alike : AreAlike p q) (name : Name) (attrs : List Attribute) where
  same_room : has_room p.directory.writes (Add name attrs) ≡ has_room q.directory.writes (Add name attrs)
  same_room =
      ap (λ n. nat_lt n most_writes && nat_le (kept_weight p.directory.writes + op_weight (Add name attrs)) most_writes_weight) alike.count
      ∙ ap (λ n. nat_lt (length q.directory.writes) most_writes && nat_le (n + op_weight (Add name attrs)) most_writes_weight) alike.weight

  same_add : add_code p.directory.suffix (entries_of p.directory) name attrs ≡ add_code q.directory.suffix (entries_of q.directory) name attrs
  same_add =
      sym (add_bare p.directory.suffix (entries_of p.directory) name attrs)
      ∙ ap (λ (es : List Entry). add_code p.directory.suffix es name attrs) alike.entries
      ∙ add_bare p.directory.suffix (entries_of q.directory) name attrs
      ∙ ap (λ (s : Name). add_code s (entries_of q.directory) name attrs) alike.suffix

  same_by : (kind : Kind) → code_by kind p.directory (Add name attrs) ≡ code_by kind q.directory (Add name attrs)
  same_by Root =
      ap (λ b. cond b (add_code p.directory.suffix (entries_of p.directory) name attrs) (Some ADMIN_LIMIT_EXCEEDED)) same_room
      ∙ ap (λ (code : Option ℕ). cond (has_room q.directory.writes (Add name attrs)) code (Some ADMIN_LIMIT_EXCEEDED)) same_add
  same_by Replica = refl

  same_code : code_by p.kind p.directory (Add name attrs) ≡ code_by q.kind q.directory (Add name attrs)
  same_code = ap (λ k. code_by k p.directory (Add name attrs)) alike.kind ∙ same_by q.kind

  -- both have one add more
  alike_after : (c d : CsnValue) → length p.directory.writes < most_writes → c.count ≤ (last_csn_of p.directory).count + 1
      → length q.directory.writes < most_writes → d.count ≤ (last_csn_of q.directory).count + 1
      → AreAlike (noted p (Wrote (add_of name attrs c)) p.number) (noted q (Wrote (add_of name attrs d)) q.number)
  alike_after c d room low room' low' = record {
    kind = alike.kind;
    suffix = alike.suffix;
    count = length_push p.directory.writes (add_of name attrs c) ∙ ap (λ n. n + 1) alike.count ∙ sym (length_push q.directory.writes (add_of name attrs d));
    weight = kept_weight-push p.directory.writes (add_of name attrs c) ∙ ap (λ n. n + op_weight (Add name attrs)) alike.weight
        ∙ sym (kept_weight-push q.directory.writes (add_of name attrs d));
    entries = bare_added p.directory name attrs c alike.one
        ∙ ap (λ (es : List Entry). es ++ record { uuid = 0; csn = start 0; dn = name; attrs = attrs } ∷ []) alike.entries
        ∙ sym (bare_added q.directory name attrs d alike.other);
    one = filled_after p.directory name attrs c alike.one room low;
    other = filled_after q.directory name attrs d alike.other room' low';
  }

  -- and the same entries after it, whether it is rejected or not
  alike_judged : (code : Option ℕ) (outcome outcome' : Result Write ℕ) → IsJudgedBy p.directory (Add name attrs) code outcome
      → IsJudgedBy q.directory (Add name attrs) code outcome' → AreAlike (wrote_in p outcome) (wrote_in q outcome')
  alike_judged None outcome outcome' one other =
      subst (λ (o : Result Write ℕ). AreAlike (wrote_in p o) (wrote_in q outcome')) (sym one.is)
      (subst (λ (o : Result Write ℕ). AreAlike (noted p (Wrote (add_of name attrs one.csn)) p.number) (wrote_in q o)) (sym other.is)
      (alike_after one.csn other.csn (one.room refl) one.low (other.room refl) other.low))
  alike_judged (Some code) outcome outcome' one other =
      subst (λ (o : Result Write ℕ). AreAlike (wrote_in p o) (wrote_in q outcome')) (sym one.is)
      (subst (λ (o : Result Write ℕ). AreAlike p (wrote_in q o)) (sym other.is) alike)

  same_judged : (code : Option ℕ) (outcome outcome' : Result Write ℕ) → IsJudgedBy p.directory (Add name attrs) code outcome
      → IsJudgedBy q.directory (Add name attrs) code outcome' → code_of_judged outcome ≡ code_of_judged outcome'
  same_judged None outcome outcome' one other = ap code_of_judged one.is ∙ sym (ap code_of_judged other.is)
  same_judged (Some code) outcome outcome' one other = ap code_of_judged one.is ∙ sym (ap code_of_judged other.is)

  judged_first : (now : ℕ) → IsJudgedBy p.directory (Add name attrs) (code_by q.kind q.directory (Add name attrs)) (judged_by p.kind p.directory (Add name attrs) now)
  judged_first now =
      subst (λ (code : Option ℕ). IsJudgedBy p.directory (Add name attrs) code (judged_by p.kind p.directory (Add name attrs) now)) same_code
      (judged_kind p.kind p.directory (Add name attrs) now alike.one)

  judged_second : (now : ℕ) → IsJudgedBy q.directory (Add name attrs) (code_by q.kind q.directory (Add name attrs)) (judged_by q.kind q.directory (Add name attrs) now)
  judged_second now = judged_kind q.kind q.directory (Add name attrs) now alike.other

  -- both reply with one code, where no memory is wanted
  pub same_codes : (now now' : ℕ) (reply reply' : Reply) (new new' : PortState)
      → WriteReplies p (Add name attrs) now reply new → WriteReplies q (Add name attrs) now' reply' new'
      → reply.code ≢ OTHER → reply'.code ≢ OTHER → reply.code ≡ reply'.code
  same_codes now now' reply reply' new new' replies replies' made made' =
      replies.code made
      ∙ same_judged (code_by q.kind q.directory (Add name attrs)) (judged_by p.kind p.directory (Add name attrs) now)
      (judged_by q.kind q.directory (Add name attrs) now') (judged_first now) (judged_second now')
      ∙ sym (replies'.code made')

  -- and are alike after it
  pub alike_written : (now now' : ℕ) (reply reply' : Reply) (new new' : PortState)
      → WriteReplies p (Add name attrs) now reply new → WriteReplies q (Add name attrs) now' reply' new'
      → reply.code ≢ OTHER → reply'.code ≢ OTHER → AreAlike new new'
  alike_written now now' reply reply' new new' replies replies' made made' =
      subst (λ (port : PortState). AreAlike port new') (sym (replies.state made))
      (subst (λ (port : PortState). AreAlike (wrote_in p (judged_by p.kind p.directory (Add name attrs) now)) port) (sym (replies'.state made'))
      (alike_judged (code_by q.kind q.directory (Add name attrs)) (judged_by p.kind p.directory (Add name attrs) now)
      (judged_by q.kind q.directory (Add name attrs) now') (judged_first now) (judged_second now')))
