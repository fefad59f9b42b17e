-- What a write makes of a provider.
use Rattle.std.proofs.Common.{◌≡◌, ℕ, List, [], ◌∷◌, ◌++◌, refl, ap, sym, ◌∙◌, arith}
use Rattle.std.specs.Prelude.{Result, Ok, Err, OnOk, IfOk}
use Rattle.ldap_constants.specs.declared.result_codes.TheConstants.{SUCCESS, OTHER}
use Rattle.csn_cookie.specs.Cookie.{cookie_text}
use Rattle.entry_tree.specs.declared.fault.OpFault.{OpFault}
use Rattle.entry_tree.specs.declared.fault.OpFault.TheVariants.{Code}
use Rattle.entry_tree.specs.declared.op.Op.{Op}
use Rattle.entry_tree.specs.declared.op.Write.{Write}
use Rattle.entry_tree.specs.declared.touched.EntryChange.{EntryChange}
use Rattle.entry_tree.specs.Touched.{touched}
use Rattle.directory_writes.specs.Directory.{DirectoryState, cookie_at, entries_of, entries_after, judged, with_write, code_of_judged, Refuses}
use Rattle.directory_writes.proofs.Judged.{refused_with}
use Rattle.sync_provider.specs.Machine.{ProviderState, each_search_notified, after_judged, judged_by, write_code as provider_code, wrote}
use Rattle.sync_provider.specs.declared.provider.Kind.{Kind}
use Rattle.sync_provider.specs.Queueing.{search_notified}
use Rattle.sync_provider.specs.Staging.{HeldSearch, searches_of, messages_for, staged_for, pushed_staged, each_staged, each_unstaged, each_pushed}
use Rattle.sync_provider.proofs.GoingOn.{gone_on-itself, group_search_notified}
use Rattle.sync_provider.proofs.Groups.{group_is}

-- what was staged for a write alone is what the write reports
pub delivered_searches : (d : DirectoryState) (es : List (ℕ × HeldSearch)) (limit : ℕ) (w : Write) (entry_changes : List EntryChange)
    → entry_changes ≡ touched (entries_of d) (entries_after d.history (d.writes ++ w ∷ []))
    → each_pushed limit (each_staged entry_changes (cookie_text (cookie_at d.sid d.history w.csn)) (each_unstaged es)) ≡ each_search_notified limit d w (searches_of es)
delivered_searches d [] limit w entry_changes is = refl
delivered_searches d (e ∷ es) limit w entry_changes is =
    let s = e.1.search in
    let cookie = cookie_text (cookie_at d.sid d.history w.csn) in
    let here : pushed_staged limit (staged_for s entry_changes cookie ∷ []) s ≡ search_notified limit d w s =
    group_search_notified limit d w s s entry_changes cookie (ap (λ changes. messages_for s.spec changes cookie) is ∙ group_is d s w) (gone_on-itself s) in
    λ i. (e.0, here i) ∷ delivered_searches d es limit w entry_changes is i

-- what memory running out answers is no code of a write, so what has it leaves the provider
pub unwritten_all : (p : ProviderState) (op : Op) (now : ℕ) → provider_code p op now ≡ OTHER → wrote p op now ≡ p
unwritten_all p op now = by (judged_by p.kind p.directory op now)
  where
    by : (outcome : Result Write ℕ) → code_of_judged outcome ≡ OTHER → after_judged p outcome ≡ p
    by (Ok w) h = absurd (far h)
      where
        far : ◌≡◌ {A = ℕ} SUCCESS OTHER → ⊥
        far e = omega (arith, e)
    by (Err code) h = refl

-- ---- a provider by its parts

abbrev pub view_of : Kind → DirectoryState → List (ℕ × HeldSearch) → ℕ → ProviderState
view_of kind d es limit = record { kind = kind; directory = d; searches = searches_of es; queue_limit = limit }

-- the provider after a write that was previewed: what was staged is what the write reports
pub notified_view : (kind : Kind) (d after : DirectoryState) (es staged pushed : List (ℕ × HeldSearch)) (limit : ℕ) (p : ProviderState) (w : Write) (entry_changes : List EntryChange) → view_of kind d es limit ≡ p
    → staged ≡ each_staged entry_changes (cookie_text (cookie_at d.sid d.history w.csn)) (each_unstaged es)
    → entry_changes ≡ touched (entries_of d) (entries_after d.history (d.writes ++ w ∷ [])) → after ≡ with_write d w → searches_of pushed ≡ each_pushed limit staged
    → view_of kind after pushed limit ≡ after_judged p (Ok w)
notified_view kind d after es staged pushed limit p w entry_changes view are touches is all =
    (λ i. record {
      kind = kind;
      directory = is i;
      searches = (all ∙ ap (each_pushed limit) are ∙ delivered_searches d es limit w entry_changes touches) i;
      queue_limit = limit;
    })
    ∙ ap (λ q. after_judged q (Ok w)) view

-- the provider after a write that is judged good
pub judged_good : (p after : ProviderState) (op : Op) (now : ℕ) (w : Write) → judged p.directory op now ≡ Ok w → after ≡ after_judged p (Ok w)
    → after ≡ after_judged p (judged p.directory op now)
judged_good p after op now w good is = is ∙ ap (after_judged p) (sym good)

-- a write that is refused leaves the provider
pub judged_refused : {E : Type 0} (p : ProviderState) (op : Op) (now : ℕ) (fault : OpFault) (r : Result ℕ E) → Refuses (judged p.directory op now) fault → IfOk r (λ code. fault ≡ Code code)
    → OnOk r (p ≡ after_judged p (judged p.directory op now))
judged_refused p op now fault (Ok code) refuses is = sym (ap (after_judged p) (refused_with p.directory op now code fault refuses is))
judged_refused p op now fault (Err e) refuses is = tt
