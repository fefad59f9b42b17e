-- A copy that took all that the searches of its consumer sent has what is selected after all writes.
use Rattle.std.proofs.Common.{◌≡◌, ◌≤◌, ◌+◌, ◌-◌, ℕ, List, [], ◌∷◌, ◌++◌, length, map, take, drop, refl, ap, sym, ◌∙◌, subst, arith}
use Rattle.std.specs.List.{AllZip}
use Rattle.std.proofs.lemmas.List.{map-append, take_all}
use Rattle.entry_tree.specs.Selection.{select}
use Rattle.ldap_messages.specs.declared.message.Message.{Message}
use Rattle.sync_model.specs.Copy.{Copy}
use Rattle.sync_model.specs.Message.{SyncMessage}
use Rattle.directory_laws.specs.Accepted.{WereAccepted}
use Rattle.directory_laws.specs.Law.{most_identities}
use Rattle.directory_writes.specs.Directory.{DirectoryState, entries_of}
use Rattle.drill_plan.specs.Ending.{followed_by}
use Rattle.sync_consumer.specs.Taking.{nothing}
use Rattle.sync_provider.specs.Opened.{SearchOpening}
use Rattle.sync_provider.specs.Search.{busy_end}
use Rattle.sync_drill.specs.Delivered.{search_id, stream_at, handed_of, EndedSearch, handed_by, delivered, encoded, IsReadFrom, WereTaken, IsMadeOf, copy_after}
use Rattle.sync_drill.specs.Handing.{IsOpening, IsSoFar, EndsBusy, AllEndBusy, count_of}
use Rattle.sync_drill.proofs.Parted.{IsParted, parted}
use Rattle.sync_drill.proofs.SearchTaken.{after-append, fit-split, ended_taken, whole_taken}
use Rattle.sync_drill.proofs.StreamTaken.{IsReadOf, IsAtRest}
use Rattle.sync_drill.proofs.Streams.{far_prefix, handed_are}

-- what is read from encodings with the message ID of a search
read_of_each : (id : ℕ) → id ≡ search_id → (ms : List SyncMessage) (messages : List Message) → AllZip IsReadFrom (map encoded (map (λ m. (id, m)) ms)) messages → AllZip IsReadOf ms messages
read_of_each id own [] [] each = tt
read_of_each id own [] (message ∷ messages) each = absurd each
read_of_each id own (m ∷ ms) [] each = absurd each
read_of_each id own (m ∷ ms) (message ∷ messages) each =
    (subst (λ n. IsReadFrom (encoded (n, m)) message) own each.0, read_of_each id own ms messages each.1)

module _ (d : DirectoryState) (accepted : WereAccepted d.suffix d.history d.writes) (few : length d.writes ≤ most_identities) (consumer : ℕ) where
  -- one search that ended with busy
  module _ (search : EndedSearch) (is : EndsBusy consumer d search) where
    abbrev stream : List SyncMessage
    stream = stream_at d search.opening search.marks

    counted : length is.ended.handed ≡ is.before
    counted = is.ended.counted ∙ ap (λ over. count_of over search.end.handed) is.over

    handed_is : handed_of search.end.over search.end.handed stream ≡ is.ended.handed ++ busy_end ∷ []
    handed_is =
        handed_are d search is.ended
        ∙ (λ i. handed_of (is.over i) (is.handed i) is.ended.handed)
        ∙ ap (λ n. take is.before is.ended.handed ++ take n (busy_end ∷ [])) (let one : is.before + 1 - is.before ≡ 1 = omega arith in one)
        ∙ ap (λ messages. messages ++ busy_end ∷ []) (take_all is.before is.ended.handed (omega (arith, counted)))

    one_ended : (copy : Copy) → IsAtRest copy → (messages : List Message) → AllZip IsReadFrom (map encoded (handed_by d search)) messages → WereTaken copy messages → IsAtRest (copy_after copy messages)
    one_ended copy rests messages each fit =
        ended_taken d accepted few search.opening is.asked.start is.asked.goes_on search.marks is.ended.handed is.ended.far copy rests is.ended.handed (drop (length is.ended.handed) stream)
        (far_prefix d search.opening search.marks is.ended.handed is.ended.far) messages
        (subst (λ ms. AllZip IsReadOf ms messages) handed_is (read_of_each search.opening.id is.asked.id (handed_of search.end.over search.end.handed stream) messages each)) fit

  -- all searches that are over
  all_ended : (searches : List EndedSearch) → AllEndBusy consumer d searches → (copy : Copy) → IsAtRest copy → (messages : List Message)
      → AllZip IsReadFrom (map encoded (delivered d searches)) messages → WereTaken copy messages → IsAtRest (copy_after copy messages)
  all_ended [] ended copy rests [] each fit = rests
  all_ended [] ended copy rests (message ∷ messages) each fit = absurd each
  all_ended (search ∷ searches) ended copy rests messages each fit =
      subst IsAtRest (sym (ap (copy_after copy) parts.is ∙ after-append parts.first parts.second copy))
      (all_ended searches ended.1 (copy_after copy parts.first) (one_ended search ended.0 copy rests parts.first parts.begins fits.0) parts.second parts.ends fits.1)
    where
      parts : IsParted IsReadFrom (map encoded (handed_by d search)) (map encoded (delivered d searches)) messages
      parts = parted IsReadFrom (map encoded (handed_by d search)) (map encoded (delivered d searches)) messages
          (subst (λ items. AllZip IsReadFrom items messages) (map-append encoded (handed_by d search) (delivered d searches)) each)

      fits : WereTaken copy parts.first × WereTaken (copy_after copy parts.first) parts.second
      fits = fit-split parts.first parts.second copy (subst (WereTaken copy) parts.is fit)

  -- after these and all messages of one more, which is open, a copy that began with nothing has what is selected after all writes
  pub made_whole : (searches : List EndedSearch) → AllEndBusy consumer d searches → (opening : SearchOpening) → IsOpening consumer opening → (marks : List ℕ) (handed : List SyncMessage) → IsSoFar d opening marks handed
      → (items : List (List ℕ)) → items ≡ map encoded (delivered d searches ++ map (λ m. (search_id, m)) (stream_at d opening marks)) → (copy : Copy) → IsMadeOf items copy
      → copy.held ≡ select (followed_by consumer) (entries_of d)
  made_whole searches ended opening asked marks handed far items offered copy made =
      ap (λ (c : Copy). c.held) (made.is ∙ ap (copy_after nothing) parts.is ∙ after-append parts.first parts.second nothing)
      ∙ whole_taken d accepted few opening asked.start asked.goes_on marks handed far (copy_after nothing parts.first)
      (all_ended searches ended nothing (record { none = refl; rises = refl }) parts.first parts.begins fits.0)
      parts.second (read_of_each search_id refl stream parts.second parts.ends) fits.1
      ∙ ap (λ search. select search (entries_of d)) asked.spec
    where
      stream : List SyncMessage
      stream = stream_at d opening marks

      parts : IsParted IsReadFrom (map encoded (delivered d searches)) (map encoded (map (λ m. (search_id, m)) stream)) made.messages
      parts = parted IsReadFrom (map encoded (delivered d searches)) (map encoded (map (λ m. (search_id, m)) stream)) made.messages
          (subst (λ list. AllZip IsReadFrom list made.messages) (offered ∙ map-append encoded (delivered d searches) (map (λ m. (search_id, m)) stream)) made.read)

      fits : WereTaken nothing parts.first × WereTaken (copy_after nothing parts.first) parts.second
      fits = fit-split parts.first parts.second nothing (subst (WereTaken nothing) parts.is made.fit)
