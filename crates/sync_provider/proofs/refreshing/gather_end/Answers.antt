use Rattle.std.proofs.Common.{◌≡◌, ◌<◌, [], ◌∷◌, arith, length, ap, subst, sym, ◌∙◌}
use Rattle.std.specs.Prelude.{vec_len}
use Rattle.std.proofs.lemmas.Bool.{eqb-true, eqb-false}
use Rattle.std.proofs.lemmas.Result.{on_ok_weaker}
use Rattle.csn_cookie.specs.Cookie.{cookie_text}
use Rattle.directory_writes.specs.Directory.{DirectoryState, cookie_of}
use Rattle.entry_tree.specs.Selection.{Search, search_of}
use Rattle.sync_model.specs.Stream.{end_of}
use Rattle.sync_provider.specs.Gathering.{Adds}
use Rattle.sync_provider.proofs.Sets.{ends_plainly, ends_late}
use Rattle.sync_provider.proofs.refreshing.gather_end.Goals as goal

pub end-requires-2-clause-names : goal.end-requires-2-clause-names
end-requires-2-clause-names c = (c.in_ok-gather_late.ensures c.args.persists).names

pub returns-then-is_empty : goal.returns-then-is_empty
returns-then-is_empty c =
    let d : DirectoryState = c.args.directory.now.state in
    let wanted : Search = search_of c.args.spec.now in
    let first = c.args.gathering.now in
    let named = c.send_names.new.self in
    let last = c.end.new.self in
    let cookie : cookie_text c.cookie.result ≡ cookie_of d = ap cookie_text c.cookie.ensures.value in
    let empty : vec_len c.in_ok-late.late ≡ 0 = eqb-true (vec_len c.in_ok-late.late) 0 (sym c.is_empty.ensures ∙ c.if-is_empty.true) in
    let same = ap length c.in_ok-late.ensures.exact in
    on_ok_weaker c.end.result
    (λ (adds : Adds (end_of c.args.persists named.deletes (cookie_text c.cookie.result) ∷ []) named last).
    ends_plainly c.args.persists d wanted c.args.changed.now first named last (omega (arith, empty, same, c.in_ok-late.late.ok.0)) c.in_ok-send_names.ensures
    (subst (λ text. Adds (end_of c.args.persists named.deletes text ∷ []) named last) cookie adds))
    c.end.ensures

pub returns : goal.returns
returns c =
    let d : DirectoryState = c.args.directory.now.state in
    let wanted : Search = search_of c.args.spec.now in
    let first = c.args.gathering.now in
    let named = c.send_names.new.self in
    let said = c.gather_late.new.gathering in
    let last = c.end-2.new.self in
    let cookie : cookie_text c.cookie-2.result ≡ cookie_of d = ap cookie_text c.cookie-2.ensures.value in
    let some : 0 < vec_len c.in_ok-late.late = omega (arith, eqb-false (vec_len c.in_ok-late.late) 0 (sym c.is_empty.ensures ∙ c.if-is_empty.false)) in
    let same = ap length c.in_ok-late.ensures.exact in
    let whole : c.as_slice.result.now ≡ c.args.changed.now = c.as_slice.ensures.value ∙ c.in_ok-late.ensures.exact in
    on_ok_weaker c.end-2.result
    (λ (adds : Adds (end_of c.args.persists said.deletes (cookie_text c.cookie-2.result) ∷ []) said last).
    ends_late c.args.persists d wanted c.args.changed.now first named said last (omega (arith, some, same, c.in_ok-late.late.ok.0)) c.in_ok-send_names.ensures
    (rw whole at c.in_ok-gather_late.ensures c.args.persists)
    (subst (λ text. Adds (end_of c.args.persists said.deletes text ∷ []) said last) cookie adds))
    c.end-2.ensures
