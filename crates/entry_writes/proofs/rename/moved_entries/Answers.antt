-- One more entry is moved.
use Rattle.std.proofs.Common.{◌≡◌, ◌<◌, ◌∙◌, ◌&&◌, ℕ, Bool, true, false, cond, Bor, List, [], ◌∷◌, ◌++◌, Some, None, length, map, nat_lt, get_or, take, refl, ap, sym, arith}
use Rattle.std.specs.List.{filter, list_any}
use Rattle.std.proofs.lemmas.Bool.{or_from}
use Rattle.std.proofs.lemmas.List.{get_or-map, length-map, take_all}
use Rattle.std.proofs.lemmas.List.Folds.{list_any_at, list_any_more}
use Rattle.std.proofs.lemmas.Result.{err_from_is_err_and}
use Rattle.ldap_constants.specs.declared.result_codes.TheConstants.{ADMIN_LIMIT_EXCEEDED}
use Rattle.dn_names.specs.Names.{is_at_or_below, moved_name}
use Rattle.dn_names.specs.Sound.{most_rdns}
use Rattle.entry_writes.specs.declared.entry.Entry.{Entry}
use Rattle.entry_writes.specs.Codes.{has_too_long, length_code}
use Rattle.entry_writes.specs.Effects.{moved}
use Rattle.entry_writes.specs.Fault.{HasOpCode}
use Rattle.entry_writes.specs.Touched.{is_change}
use Rattle.entry_writes.proofs.Firsts.{HasCode-same}
use Rattle.entry_writes.proofs.Identities.{change_to, stepped, stepped_more}
use Rattle.entry_writes.proofs.rename.moved_entries.Goals as goal

-- what rejects one entry rejects all
rejects_all : (is_long : Entry → Bool) (es : List Entry) (i : ℕ) (e : Entry) (code n : ℕ) → i < length es → e ≡ get_or es i e → cond (is_long e) (Some code) None ≡ Some n
    → cond (list_any is_long es) (Some code) None ≡ Some n
rejects_all is_long es i e code n low is = by (is_long e) refl
  where
    by : (b : Bool) → is_long e ≡ b → cond b (Some code) None ≡ Some n → cond (list_any is_long es) (Some code) None ≡ Some n
    by true long some = ap (λ b. cond b (Some code) None) (list_any_at is_long es i e low (ap is_long (sym is) ∙ long)) ∙ some
    by false short never = absurd (cc)

-- the entry that comes next, among the entries that are lent
next : (lent : List (Bor Entry)) (i : ℕ) (item : Bor Entry) → i < length lent → item ≡ get_or lent i item
    → (i < length (map (λ (e : Bor Entry). e.now) lent)) × (item.now ≡ get_or (map (λ (e : Bor Entry). e.now) lent) i item.now)
next lent i item low is =
    let of = λ (e : Bor Entry). e.now in
    let counted : length (map of lent) ≡ length lent = length-map lent of in
    (omega (arith, counted, low), ap of is ∙ sym (get_or-map of lent i item item.now low))

pub returns-in_err-now-clause-refused : goal.returns-in_err-now-clause-refused
returns-in_err-now-clause-refused c =
    let top = c.args.top.now in
    let name = c.args.renamed.now.name in
    let is_long = λ (e : Entry). is_at_or_below e.dn top.dn && nat_lt most_rdns (length (moved_name e.dn top.dn name)) in
    let entries : List Entry = map (λ (e : Bor Entry). e.now) c.args.entries.now in
    let i = c.loop-entry.entry-index in
    let here = next c.args.entries.now i c.entry-item.result c.loop-entry-test.true c.entry-item.is in
    let shown : HasOpCode (length_code entries top name) c.in_err-now.field-0.0 =
    HasCode-same (cond (is_long c.entry-item.result.now) (Some ADMIN_LIMIT_EXCEEDED) None) (length_code entries top name) c.in_err-now.field-0.0
    (λ n some. rejects_all is_long entries i c.entry-item.result.now ADMIN_LIMIT_EXCEEDED n here.0 here.1 some) c.in_err-now.ensures.refused
    in
    let p = err_from_is_err_and c.from_residual.result c.from_residual.ensures.1 in
    rw (p.1, p.2) shown

pub loop-entry-preserved : goal.loop-entry-preserved
loop-entry-preserved c =
    let top = c.args.top.now in
    let name = c.args.renamed.now.name in
    let step = λ (e : Entry). Some (moved top name c.args.renamed.now.attrs c.args.csn e) in
    let is_long = λ (e : Entry). is_at_or_below e.dn top.dn && nat_lt most_rdns (length (moved_name e.dn top.dn name)) in
    let entries : List Entry = map (λ (e : Bor Entry). e.now) c.args.entries.now in
    let i = c.loop-entry.entry-index in
    let entry = c.entry-item.result.now in
    let here = next c.args.entries.now i c.entry-item.result c.loop-entry-test.true c.entry-item.is in
    let so_far = filter is_change (map (stepped step) (take i entries)) in
    record {
      shown = c.in_ok-push_difference.ensures.ok
          ∙ ap (λ changes. changes ++ filter is_change (change_to entry c.in_ok-now.now ∷ [])) c.loop-entry.invariant.shown
          ∙ ap (λ now. so_far ++ filter is_change (change_to entry now ∷ [])) c.in_ok-now.ensures.value
          ∙ sym (stepped_more step entries i entry here.0 here.1);
      short = list_any_more is_long entries i entry here.0
          ∙ or_from _ _ c.loop-entry.invariant.short (ap is_long (sym here.1) ∙ c.in_ok-now.ensures.short);
    }

-- all entries are taken at the end
pub returns-clause-entry_changes : goal.returns-clause-entry_changes
returns-clause-entry_changes c =
    let of = λ (e : Bor Entry). e.now in
    let lent = c.args.entries.now in
    let step = λ (e : Entry). Some (moved c.args.top.now c.args.renamed.now.name c.args.renamed.now.attrs c.args.csn e) in
    c.loop-entry.invariant.shown
    ∙ ap (λ es. filter is_change (map (stepped step) es)) (take_all c.loop-entry.entry-index (map of lent) (omega (arith, length-map lent of, c.loop-entry-test.false)))

pub returns-clause-accepted : goal.returns-clause-accepted
returns-clause-accepted c =
    let of = λ (e : Bor Entry). e.now in
    let lent = c.args.entries.now in
    let all = take_all c.loop-entry.entry-index (map of lent) (omega (arith, length-map lent of, c.loop-entry-test.false)) in
    let short = ap (λ es. has_too_long es c.args.top.now c.args.renamed.now.name) (sym all) ∙ c.loop-entry.invariant.short in
    rw short refl
