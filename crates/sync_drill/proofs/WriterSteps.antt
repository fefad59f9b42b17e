-- What a writer wrote and what is left are the same together, as it goes on.
use Rattle.std.proofs.Common.{◌≡◌, suc, ◌+◌, true, false, [], ◌∷◌, ◌++◌, refl, sym, ap, ◌∙◌, arith, append_assoc}
use Rattle.entry_tree.specs.declared.op.Op.{Op}
use Rattle.drill_plan.specs.Operations.{add_unit, after_operation, drawn, operation, operations}
use Rattle.sync_provider.specs.Ports.{PortState}
use Rattle.sync_drill.specs.Journals.{OpenedNone, own_operations}
use Rattle.sync_drill.specs.Going.{HasGoneOn}
use Rattle.sync_drill.specs.Writers.{WriterGoes, planned}
use Rattle.sync_drill.specs.declared.writing.Writing.{Writing}
use Rattle.sync_drill.proofs.Going.{goes-twice, stays}

module _ {P H : Type 0} (home : P → H) (state : P → PortState) where
  -- a writer that does nothing
  pub writer-stays : (w : Writing P) → WriterGoes home state w w
  writer-stays w = record { its_home = refl; goes_on = stays (state w.port); no_search = λ none. none; written = refl }

  -- two steps in a row
  pub writer-twice : (old mid new : Writing P) → WriterGoes home state old mid → WriterGoes home state mid new → WriterGoes home state old new
  writer-twice old mid new first second = record {
    its_home = second.its_home ∙ first.its_home;
    goes_on = goes-twice (state old.port) (state mid.port) (state new.port) first.goes_on second.goes_on;
    no_search = λ none. second.no_search (first.no_search none);
    written = second.written ∙ first.written;
  }

  -- nothing was written
  pub writer-same : (old new : Writing P) → home new.port ≡ home old.port → HasGoneOn (state old.port) (state new.port)
      → (OpenedNone (state old.port) → OpenedNone (state new.port)) → own_operations (state new.port) ≡ own_operations (state old.port)
      → new.needs_unit ≡ old.needs_unit → new.left ≡ old.left → new.writer ≡ old.writer → WriterGoes home state old new
  writer-same old new home_is goes no_search written unit left writer = record {
    its_home = home_is;
    goes_on = goes;
    no_search = no_search;
    written = λ i. written i ++ planned (unit i) (left i) (writer i);
  }

  -- the unit was added
  pub writer-unit : (old new : Writing P) (op : Op) → home new.port ≡ home old.port → HasGoneOn (state old.port) (state new.port)
      → (OpenedNone (state old.port) → OpenedNone (state new.port))
      → own_operations (state new.port) ≡ own_operations (state old.port) ++ op ∷ [] → op ≡ add_unit old.writer.writer
      → old.needs_unit ≡ true → new.needs_unit ≡ false → new.left ≡ old.left → new.writer ≡ old.writer → WriterGoes home state old new
  writer-unit old new op home_is goes no_search written is needed unit left writer = record {
    its_home = home_is;
    goes_on = goes;
    no_search = no_search;
    written =
        (λ i. written i ++ planned (unit i) (left i) (writer i))
        ∙ append_assoc (own_operations (state old.port)) (op ∷ []) (operations old.left old.writer)
        ∙ ap (λ o. own_operations (state old.port) ++ o ∷ operations old.left old.writer) is
        ∙ ap (λ needs. own_operations (state old.port) ++ planned needs old.left old.writer) (sym needed);
  }

  -- an operation below it was done
  pub writer-next : (old new : Writing P) (op : Op) → home new.port ≡ home old.port → HasGoneOn (state old.port) (state new.port)
      → (OpenedNone (state old.port) → OpenedNone (state new.port))
      → own_operations (state new.port) ≡ own_operations (state old.port) ++ op ∷ [] → op ≡ operation (drawn old.writer)
      → old.needs_unit ≡ false → new.needs_unit ≡ false → new.left + 1 ≡ old.left → new.writer ≡ after_operation (drawn old.writer)
      → WriterGoes home state old new
  writer-next old new op home_is goes no_search written is unneeded unit left writer =
      let one_more : suc new.left ≡ old.left = omega (arith, left) in
      record {
        its_home = home_is;
        goes_on = goes;
        no_search = no_search;
        written =
            (λ i. written i ++ planned (unit i) new.left (writer i))
            ∙ append_assoc (own_operations (state old.port)) (op ∷ []) (operations new.left (after_operation (drawn old.writer)))
            ∙ ap (λ o. own_operations (state old.port) ++ o ∷ operations new.left (after_operation (drawn old.writer))) is
            ∙ ap (λ n. own_operations (state old.port) ++ operations n old.writer) one_more
            ∙ ap (λ needs. own_operations (state old.port) ++ planned needs old.left old.writer) (sym unneeded);
      }
