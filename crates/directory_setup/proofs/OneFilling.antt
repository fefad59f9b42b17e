-- A text leads to one end of the filling, whatever the times at which its entries are added.
use Rattle.std.proofs.Common.{◌≡◌, ◌≢◌, ℕ, true, false, List, [], ◌∷◌, Option, Some, None, Result, Ok, Err, inl, inr, refl, sym, ap, subst, ◌∙◌, arith}
use Rattle.std.proofs.lemmas.Bool.{false≢true}
use Rattle.entry_tree.specs.Reading.{and_then, read_change, read_name}
use Rattle.entry_tree.specs.declared.op.Op.{Op}
use Rattle.entry_tree.specs.declared.op.Op.TheVariants.{Add}
use Rattle.ldap_constants.specs.declared.result_codes.TheConstants.{OTHER, SUCCESS}
use Rattle.ldif_text.specs.Reader.{Found, RecordReader, next_record}
use Rattle.ldif_text.specs.declared.fault.LdifFault.{LdifFault}
use Rattle.schema_rules.specs.Attributes.{read_attributes}
use Rattle.schema_rules.specs.declared.attributes.Attribute.{Attribute}
use Rattle.schema_rules.specs.declared.raw.Change.{Change}
use Rattle.schema_rules.specs.declared.raw.Change.TheVariants as change
use Rattle.sync_config.specs.Keys.{Name}
use Rattle.sync_provider.specs.Ports.{PortState, WriteReplies}
use Rattle.sync_provider.specs.declared.writing.Reply.{Reply}
use Rattle.directory_setup.specs.Filling.{AddedRecord, Adds, EndsFilling, Fills, FillsUp, IsRefusedAt, IsRejectedWith, cause_of, is_add, line_of}
use Rattle.directory_setup.specs.declared.filling.Filling.{Filling}
use Rattle.directory_setup.specs.declared.filling.Filling.TheVariants.{Filled, Refused}
use Rattle.directory_setup.specs.declared.refusal.LineCause.{LineCause}
use Rattle.directory_setup.specs.declared.refusal.LineCause.TheVariants as cause
use Rattle.directory_setup.proofs.Alike.{AreAlike, alike_turned, alike_written, same_codes}

-- ---- what is read of an add

record IsAddOp (op : Op) : Type 0 where
  pub name : Name
  pub attrs : List Attribute
  pub is : op ≡ Add name attrs

read_add : (change : Change) (op : Op) → is_add change ≡ true → read_change change ≡ Ok op → IsAddOp op
unfolding read_change
read_add (change.Add name raws) op add read = by (read_name name) (read_attributes raws) read
  where
    by : (found : Result Name ℕ) (attrs : Result (List Attribute) ℕ) → and_then found (λ dn. and_then attrs (λ given. Ok (Add dn given))) ≡ Ok op → IsAddOp op
    by (Ok dn) (Ok given) is = record { name = dn; attrs = given; is = let same : Add dn given ≡ op = cc in sym same }
    by (Ok dn) (Err code) is = absurd cc
    by (Err code) attrs is = absurd cc
read_add (change.Delete name) op add read = absurd cc
read_add (change.Modify name edits) op add read = absurd cc
read_add (change.Rename name rdn goes superior) op add read = absurd cc

success_made : (code : ℕ) → code ≡ SUCCESS → code ≢ OTHER
success_made code success = λ other. let wrong : ◌≡◌ {A = ℕ} SUCCESS OTHER = sym success ∙ other in omega (arith, wrong)

-- ---- two directories that the same adds filled

module _ (p q : PortState) (alike : AreAlike p q) where
  codes_by : (op : Op) → IsAddOp op → (now now' : ℕ) (reply reply' : Reply) (new new' : PortState)
      → WriteReplies p op now reply new → WriteReplies q op now' reply' new' → reply.code ≢ OTHER → reply'.code ≢ OTHER → reply.code ≡ reply'.code
  codes_by op add now now' reply reply' new new' replies replies' made made' =
      same_codes p q alike add.name add.attrs now now' reply reply' new new'
      (subst (λ o. WriteReplies p o now reply new) add.is replies) (subst (λ o. WriteReplies q o now' reply' new') add.is replies') made made'

  alike_by : (op : Op) → IsAddOp op → (now now' : ℕ) (reply reply' : Reply) (new new' : PortState)
      → WriteReplies p op now reply new → WriteReplies q op now' reply' new' → reply.code ≢ OTHER → reply'.code ≢ OTHER → AreAlike new new'
  alike_by op add now now' reply reply' new new' replies replies' made made' =
      alike_written p q alike add.name add.attrs now now' reply reply' new new'
      (subst (λ o. WriteReplies p o now reply new) add.is replies) (subst (λ o. WriteReplies q o now' reply' new') add.is replies') made made'

  -- an add that one rejects the other does not accept
  unaccepted : (change : Change) (op : Op) (code now : ℕ) (reply : Reply) (new : PortState) → is_add change ≡ true → read_change change ≡ Ok op
      → IsRejectedWith (Ok op) p code → WriteReplies q op now reply new → reply.code ≡ SUCCESS → ⊥
  unaccepted change op code now reply new add read (now', reply', new', replies', is, fails, made) replies success =
      fails (sym is ∙ codes_by op (read_add change op add read) now' now reply' reply new' new replies' replies (λ other. made (sym is ∙ other))
      (success_made reply.code success) ∙ success)

  -- both reject it with one code
  same_rejected : (change : Change) (found : Result Op ℕ) (code code' : ℕ) → is_add change ≡ true → read_change change ≡ found
      → IsRejectedWith found p code → IsRejectedWith found q code' → code ≡ code'
  same_rejected change (Err fault) code code' add read is is' = is ∙ sym is'
  same_rejected change (Ok op) code code' add read (now, reply, new, replies, is, fails, made) (now', reply', new', replies', is', fails', made') =
      sym is
      ∙ codes_by op (read_add change op add read) now now' reply reply' new new' replies replies' (λ other. made (sym is ∙ other)) (λ other. made' (sym is' ∙ other))
      ∙ is'

-- ---- one record

-- what the next record is
same_found : (r : RecordReader) (one other : Found) → next_record r ≡ Ok (Some one) → next_record r ≡ Ok (Some other) → one ≡ other
same_found r one other is is' = let same : ◌≡◌ {A = Result (Option Found) LdifFault} (Ok (Some one)) (Ok (Some other)) = sym is ∙ is' in cc

never_both : (r : RecordReader) (fault : LdifFault) (found : Option Found) → next_record r ≡ Err fault → next_record r ≡ Ok found → ⊥
never_both r fault found is is' = let same : ◌≡◌ {A = Result (Option Found) LdifFault} (Err fault) (Ok found) = sym is ∙ is' in cc

never_none : (r : RecordReader) (found : Found) → next_record r ≡ Ok None → next_record r ≡ Ok (Some found) → ⊥
never_none r found is is' = let same : ◌≡◌ {A = Result (Option Found) LdifFault} (Ok None) (Ok (Some found)) = sym is ∙ is' in cc

same_fault : (r : RecordReader) (one other : LdifFault) → next_record r ≡ Err one → next_record r ≡ Err other → one ≡ other
same_fault r one other is is' = let same : ◌≡◌ {A = Result (Option Found) LdifFault} (Err one) (Err other) = sym is ∙ is' in cc

same_op : (change other : Change) (one two : Op) → change ≡ other → read_change change ≡ Ok one → read_change other ≡ Ok two → one ≡ two
same_op change other one two same is is' =
    let read : ◌≡◌ {A = Result Op ℕ} (Ok one) (Ok two) = sym is ∙ ap read_change same ∙ is' in cc

abbrev found_of : Change → RecordReader → Found
found_of change after = record { change = change; after = after }

-- a record that is added is none that ends the filling
unended : (r : RecordReader) (p q : PortState) (x : AddedRecord) (after : RecordReader) (new : PortState) (filling : Filling)
    → AreAlike p q → EndsFilling r p filling → Adds x r q after new → ⊥
unended r p q x after new Filled alike end adds = never_none r (found_of x.change after) end adds.next
unended r p q x after new (Refused line why) alike (inl text) adds = never_both r text.fault (Some (found_of x.change after)) text.refused adds.next
unended r p q x after new (Refused line why) alike (inr (inl other)) adds =
    let same = same_found r (found_of other.change other.after) (found_of x.change after) other.next adds.next in
    false≢true (sym other.other ∙ ap (λ (f : Found). is_add f.change) same ∙ adds.add)
unended r p q x after new (Refused line why) alike (inr (inr rejected)) adds =
    let same = same_found r (found_of rejected.change rejected.after) (found_of x.change after) rejected.next adds.next in
    let change_is : rejected.change ≡ x.change = ap (λ (f : Found). f.change) same in
    let rejects : IsRejectedWith (Ok x.op) p rejected.code =
    subst (λ (found : Result Op ℕ). IsRejectedWith found p rejected.code) (ap read_change change_is ∙ adds.read) rejected.rejects in
    unaccepted p q alike x.change x.op rejected.code x.now x.reply new adds.add adds.read rejects adds.replies adds.accepted

-- two that are added are one record, and leave directories that are alike
record GoOn (after later : RecordReader) (new new' : PortState) : Type 0 where
  pub reader : after ≡ later
  pub alike : AreAlike new new'

go_on : (r : RecordReader) (p q : PortState) (x y : AddedRecord) (after later : RecordReader) (new new' : PortState)
    → AreAlike p q → Adds x r p after new → Adds y r q later new' → GoOn after later new new'
go_on r p q x y after later new new' alike adds adds' =
    let same = same_found r (found_of x.change after) (found_of y.change later) adds.next adds'.next in
    let op_is : x.op ≡ y.op = same_op x.change y.change x.op y.op (ap (λ (f : Found). f.change) same) adds.read adds'.read in
    let replies : WriteReplies q x.op y.now y.reply new' = subst (λ (op : Op). WriteReplies q op y.now y.reply new') (sym op_is) adds'.replies in
    record {
      reader = ap (λ (f : Found). f.after) same;
      alike = alike_by p q alike x.op (read_add x.change x.op adds.add adds.read) x.now y.now x.reply y.reply new new' adds.replies replies
          (success_made x.reply.code adds.accepted) (success_made y.reply.code adds'.accepted);
    }

-- ---- the end

no_more : (r : RecordReader) (p : PortState) (line : ℕ) (why : LineCause) → next_record r ≡ Ok None → IsRefusedAt r p line why → ⊥
no_more r p line why end (inl text) = never_both r text.fault None text.refused end
no_more r p line why end (inr (inl other)) = never_none r (found_of other.change other.after) end other.next
no_more r p line why end (inr (inr rejected)) = never_none r (found_of rejected.change rejected.after) end rejected.next

refused_as : (line at : ℕ) (why because : LineCause) → line ≡ at → why ≡ because → Refused line why ≡ Refused at because
refused_as line at why because same also = cc

-- the next record is refused for one cause
same_refusal : (r : RecordReader) (p q : PortState) (line at : ℕ) (why because : LineCause) → AreAlike p q
    → IsRefusedAt r p line why → IsRefusedAt r q at because → Refused line why ≡ Refused at because
same_refusal r p q line at why because alike (inl one) (inl two) =
    let same = same_fault r one.fault two.fault one.refused two.refused in
    refused_as line at why because (one.line_is ∙ ap line_of same ∙ sym two.line_is) (one.cause_is ∙ ap cause_of same ∙ sym two.cause_is)
same_refusal r p q line at why because alike (inl one) (inr (inl two)) = absurd (never_both r one.fault (Some (found_of two.change two.after)) one.refused two.next)
same_refusal r p q line at why because alike (inl one) (inr (inr two)) = absurd (never_both r one.fault (Some (found_of two.change two.after)) one.refused two.next)
same_refusal r p q line at why because alike (inr (inl one)) (inl two) = absurd (never_both r two.fault (Some (found_of one.change one.after)) two.refused one.next)
same_refusal r p q line at why because alike (inr (inr one)) (inl two) = absurd (never_both r two.fault (Some (found_of one.change one.after)) two.refused one.next)
same_refusal r p q line at why because alike (inr (inl one)) (inr (inl two)) =
    let same = same_found r (found_of one.change one.after) (found_of two.change two.after) one.next two.next in
    refused_as line at why because (one.line_is ∙ ap (λ (f : Found). f.after.line) same ∙ sym two.line_is) (one.cause_is ∙ sym two.cause_is)
same_refusal r p q line at why because alike (inr (inl one)) (inr (inr two)) =
    let same = same_found r (found_of one.change one.after) (found_of two.change two.after) one.next two.next in
    absurd (false≢true (sym one.other ∙ ap (λ (f : Found). is_add f.change) same ∙ two.add))
same_refusal r p q line at why because alike (inr (inr one)) (inr (inl two)) =
    let same = same_found r (found_of one.change one.after) (found_of two.change two.after) one.next two.next in
    absurd (false≢true (sym two.other ∙ sym (ap (λ (f : Found). is_add f.change) same) ∙ one.add))
same_refusal r p q line at why because alike (inr (inr one)) (inr (inr two)) =
    let same = same_found r (found_of one.change one.after) (found_of two.change two.after) one.next two.next in
    let change_is : two.change ≡ one.change = sym (ap (λ (f : Found). f.change) same) in
    let rejects : IsRejectedWith (read_change one.change) q two.code =
    subst (λ (given : Change). IsRejectedWith (read_change given) q two.code) change_is two.rejects in
    let codes : one.code ≡ two.code =
    same_rejected p q alike one.change (read_change one.change) one.code two.code one.add refl one.rejects rejects in
    refused_as line at why because (one.line_is ∙ ap (λ (f : Found). f.after.line) same ∙ sym two.line_is)
    (one.cause_is ∙ ap cause.Refused codes ∙ sym two.cause_is)

same_end : (r : RecordReader) (p q : PortState) (one other : Filling) → AreAlike p q → EndsFilling r p one → EndsFilling r q other → one ≡ other
same_end r p q Filled Filled alike end end' = refl
same_end r p q Filled (Refused line why) alike end refused = absurd (no_more r q line why end refused)
same_end r p q (Refused line why) Filled alike refused end = absurd (no_more r p line why end refused)
same_end r p q (Refused line why) (Refused at because) alike refused refused' = same_refusal r p q line at why because alike refused refused'

same_from : (xs ys : List AddedRecord) (r : RecordReader) (p q : PortState) (a b : RecordReader) (new new' : PortState) (one other : Filling) → AreAlike p q
    → Fills r p xs a new → EndsFilling a new one → Fills r q ys b new' → EndsFilling b new' other → one ≡ other
same_from [] [] r p q a b new new' one other alike (a_is, new_is) end (b_is, new'_is) end' =
    same_end r p q one other alike
    (subst (λ (reader : RecordReader). EndsFilling reader p one) a_is (subst (λ (port : PortState). EndsFilling a port one) new_is end))
    (subst (λ (reader : RecordReader). EndsFilling reader q other) b_is (subst (λ (port : PortState). EndsFilling b port other) new'_is end'))
same_from [] (y ∷ ys) r p q a b new new' one other alike (a_is, new_is) end (reader, between, adds, more) end' =
    absurd (unended r p q y reader between one alike
    (subst (λ (at : RecordReader). EndsFilling at p one) a_is (subst (λ (port : PortState). EndsFilling a port one) new_is end)) adds)
same_from (x ∷ xs) [] r p q a b new new' one other alike (reader, between, adds, more) end (b_is, new'_is) end' =
    absurd (unended r q p x reader between other (alike_turned p q alike)
    (subst (λ (at : RecordReader). EndsFilling at q other) b_is (subst (λ (port : PortState). EndsFilling b port other) new'_is end')) adds)
same_from (x ∷ xs) (y ∷ ys) r p q a b new new' one other alike (reader, between, adds, more) end (reader', between', adds', more') end' =
    let on = go_on r p q x y reader reader' between between' alike adds adds' in
    same_from xs ys reader between between' a b new new' one other on.alike more end
    (subst (λ (at : RecordReader). Fills at between' ys b new') (sym on.reader) more') end'

-- two directories that are alike are filled by one text to one end
pub same_filling : (r : RecordReader) (p q new new' : PortState) (one other : Filling) → AreAlike p q → FillsUp r p one new → FillsUp r q other new' → one ≡ other
same_filling r p q new new' one other alike fills fills' =
    same_from fills.added fills'.added r p q fills.after fills'.after new new' one other alike fills.fills fills.ends fills'.fills fills'.ends
