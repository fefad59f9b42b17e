-- The turn of a search that a provider follows is that of its Stream over the writes of the journal.
use Rattle.std.proofs.Common.{◌≡◌, ℕ, Bool, true, false, cond, List, [], ◌∷◌, ◌++◌, length, drop, Option, Some, None, refl, ap, sym, ◌∙◌, length-append}
use Rattle.std.specs.Prelude.{option_map}
use Rattle.std.proofs.Math.Seq.{drop-append_seam}
use Rattle.sync_model.specs.Message.{SyncMessage}
use Rattle.sync_slices.specs.Slices.{pending_now}
use Rattle.sync_slices.proofs.Streams.{stream_is}
use Rattle.directory_writes.specs.Directory.{DirectoryState}
use Rattle.sync_provider.specs.HandingOut.{search_at, turn_of_pending, turn_of_found, turn_at}
use Rattle.sync_provider.specs.Journal.{handed_at, JournalledProvider, followed_as, followed_in, IsJournalled}
use Rattle.sync_provider.specs.Law.{HasHandedOut}
use Rattle.sync_provider.specs.Ports.{stream_in, pending_in, turn_in}
use Rattle.sync_provider.specs.Search.{SearchState, sliced, busy_end, pending}
use Rattle.sync_provider.proofs.SearchNotified.{pending_open, pending_over}
use Rattle.sync_provider.proofs.Places.{begins_with_own}

-- what is left of a search after n messages, where no write was too much
left_is : (d : DirectoryState) (number : ℕ) (s : SearchState) (count : ℕ) (out : HasHandedOut d s count)
    → pending_now (sliced d s) (length d.writes) s.progress ≡ drop count (stream_in d (followed_as number count s))
left_is d number s count out =
    sym
    (ap (drop count) (sym whole)
    ∙ ap (λ n. drop n ((out.now.handed ++ out.now.handed_later) ++ ahead)) (out.counted ∙ sym (length-append out.now.handed out.now.handed_later))
    ∙ drop-append_seam (out.now.handed ++ out.now.handed_later) ahead)
  where
    ahead : List SyncMessage
    ahead = pending_now (sliced d s) (length d.writes) s.progress

    whole : (out.now.handed ++ out.now.handed_later) ++ ahead ≡ stream_in d (followed_as number count s)
    whole = stream_is (sliced d s) (length d.writes) s.progress out.now.handed out.now.handed_later (out.now.place d.writes (begins_with_own d))

pending_is : (d : DirectoryState) (number : ℕ) (s : SearchState) (count : ℕ) → (s.over ≡ false → HasHandedOut d s count)
    → pending d s ≡ pending_in d (followed_as number count s)
pending_is d number s count out = by s.over refl
  where
    by : (b : Bool) → s.over ≡ b → pending d s ≡ pending_in d (followed_as number count s)
    by true on = pending_over d s on ∙ sym (ap (λ b. cond b (busy_end ∷ []) (drop count (stream_in d (followed_as number count s)))) on)
    by false off =
        pending_open d s off ∙ left_is d number s count (out off)
        ∙ sym (ap (λ b. cond b (busy_end ∷ []) (drop count (stream_in d (followed_as number count s)))) off)

-- whichever its number is
pub turn_is : (v : JournalledProvider) → IsJournalled v → (number : ℕ) → turn_at v.state.directory v.state.searches number ≡ turn_in v.state.directory (followed_in v number)
turn_is v is number = by (search_at v.state.searches number) refl
  where
    by : (found : Option SearchState) → search_at v.state.searches number ≡ found
        → turn_of_found v.state.directory found ≡ turn_in v.state.directory (option_map (followed_as number (handed_at v.handed number)) found)
    by None none = refl
    by (Some s) found = ap (turn_of_pending s.id) (pending_is v.state.directory number s (handed_at v.handed number) (is.counted number s found))
