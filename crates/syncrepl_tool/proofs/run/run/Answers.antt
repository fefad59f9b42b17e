use Rattle.std.proofs.Common.{[], inl, inr, refl, ap}
use Rattle.std.proofs.KnownBytes.{Consumes-nil}
use Rattle.std.proofs.lemmas.Result.{IfOk-weaker, on_err_weaker}
use Rattle.syncrepl_tool.proofs.DrillEnds.{print_status, within_ranges}
use Rattle.syncrepl_tool.proofs.DrillForms.{not_cascade_drill, not_search_drill, not_serve_drill, not_two_drilled, same_plan}
use Rattle.syncrepl_tool.proofs.Ending.{prefix_of_nothing}
use Rattle.syncrepl_tool.proofs.Forms.{not_both, same_name}
use Rattle.syncrepl_tool.proofs.SearchForms.{no_form, not_cascade, not_serve, not_two, not_two_served, same_asked}
use Rattle.sync_io.proofs.Results.{holds_anyway}
use Rattle.syncrepl_tool.proofs.Statuses.{of_usage}
use Rattle.syncrepl_tool.specs.DrillWords.{DrillSide}
use Rattle.syncrepl_tool.proofs.run.run.Goals as goal

-- ---- a script

pub returns-then-is_cascade-clause-headline : goal.returns-then-is_cascade-clause-headline
returns-then-is_cascade-clause-headline g c unlike undrilled = c.run_cascade.ensures.headline

pub returns-then-is_cascade-clause-serves : goal.returns-then-is_cascade-clause-serves
returns-then-is_cascade-clause-serves g c name serve = absurd (not_both c.args.words.now name (c.is_cascade.ensures.0 c.if-is_cascade.true) serve)

pub returns-then-is_cascade-clause-apart : goal.returns-then-is_cascade-clause-apart
returns-then-is_cascade-clause-apart g c name serve = absurd (not_both c.args.words.now name (c.is_cascade.ensures.0 c.if-is_cascade.true) serve)

pub returns-then-is_cascade-clause-searches : goal.returns-then-is_cascade-clause-searches
returns-then-is_cascade-clause-searches g c asked search = absurd (not_cascade c.args.words.now asked (c.is_cascade.ensures.0 c.if-is_cascade.true) search)

pub returns-then-is_cascade-clause-unread : goal.returns-then-is_cascade-clause-unread
returns-then-is_cascade-clause-unread g c asked search = absurd (not_cascade c.args.words.now asked (c.is_cascade.ensures.0 c.if-is_cascade.true) search)

pub returns-then-is_cascade-clause-drills : goal.returns-then-is_cascade-clause-drills
returns-then-is_cascade-clause-drills g c plan drill = absurd (not_cascade_drill c.args.words.now plan (c.is_cascade.ensures.0 c.if-is_cascade.true) drill)

pub returns-then-is_cascade-clause-by_itself : goal.returns-then-is_cascade-clause-by_itself
returns-then-is_cascade-clause-by_itself g c plan drill = absurd (not_cascade_drill c.args.words.now plan (c.is_cascade.ensures.0 c.if-is_cascade.true) drill)

pub returns-then-is_cascade-clause-codes : goal.returns-then-is_cascade-clause-codes
returns-then-is_cascade-clause-codes g c =
    IfOk-weaker c.run_cascade.result _ _ (λ status is. inr (inl (c.is_cascade.ensures.0 c.if-is_cascade.true, is))) c.run_cascade.ensures.codes

-- ---- a directory that is served

pub returns-in-Some-clause-headline : goal.returns-in-Some-clause-headline
returns-in-Some-clause-headline g c unlike undrilled = prefix_of_nothing _ _ _ c.requires.fresh

pub returns-in-Some-clause-serves : goal.returns-in-Some-clause-serves
returns-in-Some-clause-serves g c name serve =
    rw (same_name c.args.words.now name _ serve c.in-Some.ensures.some) c.serve_with.ensures.serves

pub returns-in-Some-clause-alone : goal.returns-in-Some-clause-alone
returns-in-Some-clause-alone g c cascade = absurd (not_both c.args.words.now _ cascade c.in-Some.ensures.some)

pub returns-in-Some-clause-searches : goal.returns-in-Some-clause-searches
returns-in-Some-clause-searches g c asked search = absurd (not_serve c.args.words.now _ asked c.in-Some.ensures.some search)

pub returns-in-Some-clause-unread : goal.returns-in-Some-clause-unread
returns-in-Some-clause-unread g c asked search = absurd (not_serve c.args.words.now _ asked c.in-Some.ensures.some search)

pub returns-in-Some-clause-drills : goal.returns-in-Some-clause-drills
returns-in-Some-clause-drills g c plan drill = absurd (not_serve_drill c.args.words.now _ plan c.in-Some.ensures.some drill)

pub returns-in-Some-clause-by_itself : goal.returns-in-Some-clause-by_itself
returns-in-Some-clause-by_itself g c plan drill = absurd (not_serve_drill c.args.words.now _ plan c.in-Some.ensures.some drill)

pub returns-in-Some-clause-codes : goal.returns-in-Some-clause-codes
returns-in-Some-clause-codes g c =
    IfOk-weaker c.serve_with.result _ _ (λ status may. inr (inr (inl (_, c.in-Some.ensures.some, may.codes_are)))) c.serve_with.ensures.serves.with_status

pub returns-in-Some-clause-usage : goal.returns-in-Some-clause-usage
returns-in-Some-clause-usage g c =
    IfOk-weaker c.serve_with.result _ _
    (λ status may. (λ two. absurd (not_two_served status.code may.codes_are two), λ none. absurd (none (inr (inl (_, c.in-Some.ensures.some))))))
    c.serve_with.ensures.serves.with_status

pub returns-in-Some-clause-usage_reported : goal.returns-in-Some-clause-usage_reported
returns-in-Some-clause-usage_reported g c =
    IfOk-weaker c.serve_with.result _ _ (λ status may two. absurd (not_two_served status.code may.codes_are two)) c.serve_with.ensures.serves.with_status

pub returns-in-Some-clause-complete : goal.returns-in-Some-clause-complete
returns-in-Some-clause-complete g c =
    IfOk-weaker c.serve_with.result _ _ (λ status may cascade. absurd (not_both c.args.words.now _ cascade c.in-Some.ensures.some)) c.serve_with.ensures.serves.with_status

-- ---- a drill

pub run_drill-requires-clause-plan : goal.run_drill-requires-clause-plan
run_drill-requires-clause-plan g c κs within = within_ranges c.args.words.now _ c.in-Some-drill_words.ensures.some

pub returns-in-Some-drill_words-clause-headline : goal.returns-in-Some-drill_words-clause-headline
returns-in-Some-drill_words-clause-headline g c unlike undrilled = absurd (undrilled _ c.in-Some-drill_words.ensures.some)

pub returns-in-Some-drill_words-clause-answer : goal.returns-in-Some-drill_words-clause-answer
returns-in-Some-drill_words-clause-answer g c cascade = absurd (not_cascade_drill c.args.words.now _ cascade c.in-Some-drill_words.ensures.some)

pub returns-in-Some-drill_words-clause-serves : goal.returns-in-Some-drill_words-clause-serves
returns-in-Some-drill_words-clause-serves g c name serve = absurd (not_serve_drill c.args.words.now name _ serve c.in-Some-drill_words.ensures.some)

pub returns-in-Some-drill_words-clause-apart : goal.returns-in-Some-drill_words-clause-apart
returns-in-Some-drill_words-clause-apart g c name serve = absurd (not_serve_drill c.args.words.now name _ serve c.in-Some-drill_words.ensures.some)

pub returns-in-Some-drill_words-clause-searches : goal.returns-in-Some-drill_words-clause-searches
returns-in-Some-drill_words-clause-searches g c asked search = absurd (not_search_drill c.args.words.now asked _ search c.in-Some-drill_words.ensures.some)

pub returns-in-Some-drill_words-clause-unread : goal.returns-in-Some-drill_words-clause-unread
returns-in-Some-drill_words-clause-unread g c asked search = absurd (not_search_drill c.args.words.now asked _ search c.in-Some-drill_words.ensures.some)

pub returns-in-Some-drill_words-clause-drills : goal.returns-in-Some-drill_words-clause-drills
returns-in-Some-drill_words-clause-drills g c plan drill =
    rw (same_plan c.args.words.now plan _ drill c.in-Some-drill_words.ensures.some) c.run_drill.ensures.drills

pub returns-in-Some-drill_words-clause-alone : goal.returns-in-Some-drill_words-clause-alone
returns-in-Some-drill_words-clause-alone g c cascade = absurd (not_cascade_drill c.args.words.now _ cascade c.in-Some-drill_words.ensures.some)

pub returns-in-Some-drill_words-clause-usage : goal.returns-in-Some-drill_words-clause-usage
returns-in-Some-drill_words-clause-usage g c =
    IfOk-weaker c.run_drill.result _ _
    (λ status may. (λ two. absurd (not_two_drilled status.code (print_status _ _ _ status may) two), λ none. absurd (none (inr (inr (inr (_, c.in-Some-drill_words.ensures.some)))))))
    c.run_drill.ensures.drills.with_status

pub returns-in-Some-drill_words-clause-usage_reported : goal.returns-in-Some-drill_words-clause-usage_reported
returns-in-Some-drill_words-clause-usage_reported g c =
    IfOk-weaker c.run_drill.result _ _ (λ status may two. absurd (not_two_drilled status.code (print_status _ _ _ status may) two)) c.run_drill.ensures.drills.with_status

pub returns-in-Some-drill_words-clause-other : goal.returns-in-Some-drill_words-clause-other
returns-in-Some-drill_words-clause-other g c none = absurd (none (inr (inr (inr (_, c.in-Some-drill_words.ensures.some)))))

pub returns-in-Some-drill_words-clause-codes : goal.returns-in-Some-drill_words-clause-codes
returns-in-Some-drill_words-clause-codes g c =
    IfOk-weaker c.run_drill.result _ _ (λ status may. inr (inr (inr (inr (_, c.in-Some-drill_words.ensures.some, print_status _ _ _ status may))))) c.run_drill.ensures.drills.with_status

pub returns-in-Some-drill_words-clause-complete : goal.returns-in-Some-drill_words-clause-complete
returns-in-Some-drill_words-clause-complete g c =
    IfOk-weaker c.run_drill.result _ _ (λ status may cascade. absurd (not_cascade_drill c.args.words.now _ cascade c.in-Some-drill_words.ensures.some)) c.run_drill.ensures.drills.with_status

-- ---- a search

pub returns-in-Some-search_words-clause-headline : goal.returns-in-Some-search_words-clause-headline
returns-in-Some-search_words-clause-headline g c unlike undrilled = absurd (unlike _ c.in-Some-search_words.ensures.some)

pub returns-in-Some-search_words-clause-searches : goal.returns-in-Some-search_words-clause-searches
returns-in-Some-search_words-clause-searches g c asked search =
    rw (same_asked c.args.words.now asked _ search c.in-Some-search_words.ensures.some) c.search_for.ensures.searches

pub returns-in-Some-search_words-clause-serves : goal.returns-in-Some-search_words-clause-serves
returns-in-Some-search_words-clause-serves g c name serve = absurd (not_serve c.args.words.now name _ serve c.in-Some-search_words.ensures.some)

pub returns-in-Some-search_words-clause-apart : goal.returns-in-Some-search_words-clause-apart
returns-in-Some-search_words-clause-apart g c name serve = absurd (not_serve c.args.words.now name _ serve c.in-Some-search_words.ensures.some)

pub returns-in-Some-search_words-clause-drills : goal.returns-in-Some-search_words-clause-drills
returns-in-Some-search_words-clause-drills g c plan drill = absurd (not_search_drill c.args.words.now _ plan c.in-Some-search_words.ensures.some drill)

pub returns-in-Some-search_words-clause-by_itself : goal.returns-in-Some-search_words-clause-by_itself
returns-in-Some-search_words-clause-by_itself g c plan drill = absurd (not_search_drill c.args.words.now _ plan c.in-Some-search_words.ensures.some drill)

pub returns-in-Some-search_words-clause-alone : goal.returns-in-Some-search_words-clause-alone
returns-in-Some-search_words-clause-alone g c cascade = absurd (not_cascade c.args.words.now _ cascade c.in-Some-search_words.ensures.some)

pub returns-in-Some-search_words-clause-answer : goal.returns-in-Some-search_words-clause-answer
returns-in-Some-search_words-clause-answer g c cascade = absurd (not_cascade c.args.words.now _ cascade c.in-Some-search_words.ensures.some)

pub returns-in-Some-search_words-clause-codes : goal.returns-in-Some-search_words-clause-codes
returns-in-Some-search_words-clause-codes g c =
    IfOk-weaker c.search_for.result _ _ (λ status may. inr (inr (inr (inl (_, c.in-Some-search_words.ensures.some, may.codes_are))))) c.search_for.ensures.searches.with_status

pub returns-in-Some-search_words-clause-usage : goal.returns-in-Some-search_words-clause-usage
returns-in-Some-search_words-clause-usage g c =
    IfOk-weaker c.search_for.result _ _
    (λ status may. (λ two. absurd (not_two status.code may.codes_are two), λ none. absurd (none (inr (inr (inl (_, c.in-Some-search_words.ensures.some)))))))
    c.search_for.ensures.searches.with_status

pub returns-in-Some-search_words-clause-usage_reported : goal.returns-in-Some-search_words-clause-usage_reported
returns-in-Some-search_words-clause-usage_reported g c =
    IfOk-weaker c.search_for.result _ _ (λ status may two. absurd (not_two status.code may.codes_are two)) c.search_for.ensures.searches.with_status

pub returns-in-Some-search_words-clause-other : goal.returns-in-Some-search_words-clause-other
returns-in-Some-search_words-clause-other g c none = absurd (none (inr (inr (inl (_, c.in-Some-search_words.ensures.some)))))

pub returns-in-Some-search_words-clause-complete : goal.returns-in-Some-search_words-clause-complete
returns-in-Some-search_words-clause-complete g c =
    IfOk-weaker c.search_for.result _ _ (λ status may cascade. absurd (not_cascade c.args.words.now _ cascade c.in-Some-search_words.ensures.some)) c.search_for.ensures.searches.with_status

-- ---- other words

pub returns-in-None-clause-headline : goal.returns-in-None-clause-headline
returns-in-None-clause-headline g c unlike undrilled = prefix_of_nothing _ _ _ c.requires.fresh

pub returns-in-None-clause-answer : goal.returns-in-None-clause-answer
returns-in-None-clause-answer g c cascade = of_usage _ _ _ _ c.usage.ensures.code refl refl

pub returns-in-None-clause-codes : goal.returns-in-None-clause-codes
returns-in-None-clause-codes g c =
    inl (
      c.usage.ensures.code,
      no_form c.args.words.now c.is_cascade.result c.is_cascade.ensures.1 c.if-is_cascade.false c.in_default.ensures.none
          c.in_default-drill_words.ensures.none c.in-None.ensures.none,
    )

pub returns-in-None-clause-searches : goal.returns-in-None-clause-searches
returns-in-None-clause-searches g c asked search = absurd (c.in-None.ensures.none asked search)

pub returns-in-None-clause-unread : goal.returns-in-None-clause-unread
returns-in-None-clause-unread g c asked search = absurd (c.in-None.ensures.none asked search)

pub returns-in-None-clause-serves : goal.returns-in-None-clause-serves
returns-in-None-clause-serves g c name serve = absurd (c.in_default.ensures.none name serve)

pub returns-in-None-clause-apart : goal.returns-in-None-clause-apart
returns-in-None-clause-apart g c name serve = absurd (c.in_default.ensures.none name serve)

pub returns-in-None-clause-drills : goal.returns-in-None-clause-drills
returns-in-None-clause-drills g c plan drill = absurd (c.in_default-drill_words.ensures.none plan drill)

pub returns-in-None-clause-by_itself : goal.returns-in-None-clause-by_itself
returns-in-None-clause-by_itself g c plan drill = absurd (c.in_default-drill_words.ensures.none plan drill)

-- ---- where memory ran out no call failed, and the input is read from its front

pub returns-in-Some-clause-sound : goal.returns-in-Some-clause-sound
returns-in-Some-clause-sound g c = holds_anyway c.serve_with.result (refl, refl)

pub returns-in-Some-clause-taken : goal.returns-in-Some-clause-taken
returns-in-Some-clause-taken g c = ([], Consumes-nil _)

pub returns-in-Some-search_words-clause-sound : goal.returns-in-Some-search_words-clause-sound
returns-in-Some-search_words-clause-sound g c = on_err_weaker c.search_for.result (λ runs. (refl, runs.output_sound)) c.search_for.ensures.searches.without_memory

pub returns-in-Some-search_words-clause-taken : goal.returns-in-Some-search_words-clause-taken
returns-in-Some-search_words-clause-taken g c = ([], Consumes-nil _)

pub returns-in-Some-drill_words-clause-sound : goal.returns-in-Some-drill_words-clause-sound
returns-in-Some-drill_words-clause-sound g c = on_err_weaker c.run_drill.result (λ same. (refl, ap (λ (side : DrillSide). side.print_faults) same)) c.run_drill.ensures.drills.without_memory

pub returns-in-Some-drill_words-clause-taken : goal.returns-in-Some-drill_words-clause-taken
returns-in-Some-drill_words-clause-taken g c = ([], Consumes-nil _)

pub returns-in-None-clause-taken : goal.returns-in-None-clause-taken
returns-in-None-clause-taken g c = ([], Consumes-nil _)
