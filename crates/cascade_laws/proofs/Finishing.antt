-- What holds of the nodes once an event has committed what took effect in it.
use Rattle.std.proofs.Common.{◌≡◌, ℕ, Bool, true, false, Option, Some, None, List, ◌++◌, take, refl, ap, sym, subst, ◌∙◌, inl, inr}
use Rattle.std.proofs.lemmas.Bool.{cases_Bool}
use Rattle.std.specs.Prelude.{Result, Ok, Err, is_some}
use Rattle.std.specs.Str.{bytes_eq}
use Rattle.entry_tree.specs.Selection.{Search}
use Rattle.entry_tree.proofs.NameKeys.{same_bytes}
use Rattle.sync_wire.proofs.Servable.{CanBeServed, SelectedCanBeServed}
use Rattle.directory_writes.specs.Directory.{entries_after}
use Rattle.directory_writes.proofs.Promised.{PromisesLast}
use Rattle.sync_provider.specs.declared.provider.Kind.{Kind}
use Rattle.sync_provider.specs.declared.provider.Kind.TheVariants.{Root, Replica}
use Rattle.cascade_script.specs.declared.fault.Cause.{Cause}
use Rattle.cascade_nodes.specs.declared.node.ProviderNode.{ProviderNode}
use Rattle.cascade_nodes.specs.declared.node.ConsumerNode.{ConsumerNode}
use Rattle.cascade_world.specs.Commits.{commits_all}
use Rattle.cascade_laws.specs.Headline.{known_of}
use Rattle.cascade_world.specs.ReportLines.{ReportLine, stages_of}
use Rattle.cascade_world.specs.World.{WorldState, with_provider_node, with_own, commits_in}
use Rattle.cascade_laws.proofs.Feeding.{Frame, LinesAreRightOf, CommitsAreKept}
use Rattle.cascade_world.proofs.Finding.{IsChanged, provider_nodes_by, provider_node_name, provider_node_changed, consumer_nodes_by}
use Rattle.cascade_laws.proofs.Growing.{AllBecome, become_itself, become_changed, grows_kept, feeds_changed, committers_changed}
use Rattle.cascade_laws.proofs.Noting.{IsCommitting, CommittingIn, lines_commit}
use Rattle.cascade_laws.proofs.Ordered.{AllStill, all_still, still_changed}
use Rattle.cascade_laws.proofs.Tracking.{HasCommitted, CommittedBy, AreCommitters, AreCommittersBut, IsManned, Feeds}
use Rattle.cascade_laws.proofs.Sources.{still_kept}

pub record IsFinished (said : List ReportLine) (mid done : WorldState) : Type 0 where
  pub feeds : Feeds said done
  pub commits : AreCommitters said done.provider_nodes
  pub provider_nodes : AllStill (provider_nodes_by mid.provider_nodes) (provider_nodes_by done.provider_nodes)
  pub become : AllBecome (provider_nodes_by mid.provider_nodes) (provider_nodes_by done.provider_nodes)
  pub clock : done.clock ≡ mid.clock
  pub nodes : done.nodes ≡ mid.nodes
  pub consumer_nodes : done.consumer_nodes ≡ mid.consumer_nodes

abbrev pub FinishedIn : List ReportLine → WorldState → Result WorldState Cause → Type 0
FinishedIn said mid (Ok done) = IsFinished said mid done
FinishedIn said mid (Err cause) = Unit {0}

-- what a node with a consumer is
replica_is : (kind : Kind) → IsManned kind true → kind ≡ Replica
replica_is Root h = let never : true ≡ false = h in cc
replica_is Replica h = refl

module _ (lasts : PromisesLast) (kept : CommitsAreKept) (selected : SelectedCanBeServed) (said lines : List ReportLine) (state mid : WorldState) (name : List ℕ) (f : ConsumerNode) (from : ℕ) (frame : Frame) (search : Search)
    (good : (count : ℕ) → CanBeServed (entries_after from (take count frame.writes))) (named : frame.name ≡ name) (wants : frame.spec ≡ search) (right : LinesAreRightOf from frame (known_of name said) lines)
    (e : consumer_nodes_by state.consumer_nodes name ≡ Some f) (is : Feeds said state) (commits : AreCommitters said state.provider_nodes) (clock : mid.clock ≡ state.clock) (own_is : provider_nodes_by mid.provider_nodes name ≡ provider_nodes_by state.provider_nodes name)
    (feeds : Feeds (said ++ lines) mid) (but : AreCommittersBut name (said ++ lines) mid.provider_nodes) where
  none_finished : provider_nodes_by mid.provider_nodes name ≡ None → IsFinished (said ++ lines) mid mid
  none_finished none = record {
    feeds = feeds;
    commits =
        λ n s found. elim (cases_Bool (bytes_eq n name)) [
          | inl hit ↦ let bad : None ≡ Some s = sym none ∙ ap (provider_nodes_by mid.provider_nodes) (sym (same_bytes n name hit)) ∙ found in let never : ⊥ = cc in absurd never
          | inr miss ↦ but n s found miss
        ];
    provider_nodes = all_still (provider_nodes_by mid.provider_nodes);
    become = become_itself (provider_nodes_by mid.provider_nodes);
    clock = refl;
    nodes = refl;
    consumer_nodes = refl;
  }

  own_finished : (own own' : ProviderNode) → provider_nodes_by mid.provider_nodes name ≡ Some own → own.provider.kind ≡ Replica
      → IsCommitting own.provider.directory.history own.provider.directory.suffix own.provider name (said ++ lines) own' → IsFinished (said ++ lines) mid (record mid { provider_nodes = with_provider_node own'.name own' mid.provider_nodes })
  own_finished own own' found replica done =
      let here = provider_node_name mid.provider_nodes name own found in
      let changed : IsChanged (provider_nodes_by mid.provider_nodes) (provider_nodes_by (with_provider_node own'.name own' mid.provider_nodes)) name own' =
      subst (λ n. IsChanged (provider_nodes_by mid.provider_nodes) (provider_nodes_by (with_provider_node n own' mid.provider_nodes)) name own') (sym done.named) (provider_node_changed mid.provider_nodes name own own' found done.named) in
      let grows = grows_kept own own' (done.named ∙ here) done.keeps in
      let kind : own'.provider.kind ≡ Replica = done.keeps.kind ∙ replica in
      let has : CommittedBy (said ++ lines) own' Replica =
      subst (λ n. HasCommitted n (said ++ lines) own'.name own'.notes own'.provider.directory.writes) (sym grows.history)
      (subst (λ n. HasCommitted own.provider.directory.history (said ++ lines) n own'.notes own'.provider.directory.writes) (sym done.named) done.has) in
      record {
        feeds = feeds_changed lasts (said ++ lines) mid (with_provider_node own'.name own' mid.provider_nodes) name own own' found changed (done.named ∙ here) done.keeps feeds;
        commits = committers_changed (said ++ lines) mid.provider_nodes (with_provider_node own'.name own' mid.provider_nodes) name own' changed (subst (CommittedBy (said ++ lines) own') (sym kind) has) but;
        provider_nodes =
            still_changed (provider_nodes_by mid.provider_nodes) (provider_nodes_by (with_provider_node own'.name own' mid.provider_nodes)) name own own' found changed (record {
              name = grows.name;
              kind = grows.kind;
              history = grows.history;
              suffix = grows.suffix;
              writes = λ root. let bad : Replica ≡ Root = sym replica ∙ root in let never : ⊥ = cc in absurd never;
            });
        become = become_changed (provider_nodes_by mid.provider_nodes) (provider_nodes_by (with_provider_node own'.name own' mid.provider_nodes)) name own own' found changed grows;
        clock = refl;
        nodes = refl;
        consumer_nodes = refl;
      }

  with_own_finished : (own : ProviderNode) (outcome : Result ProviderNode Cause) → provider_nodes_by mid.provider_nodes name ≡ Some own → own.provider.kind ≡ Replica
      → CommittingIn own.provider.directory.history own.provider.directory.suffix own.provider name (said ++ lines) outcome → FinishedIn (said ++ lines) mid (with_own mid outcome)
  with_own_finished own (Ok own') found replica done = own_finished own own' found replica done
  with_own_finished own (Err cause) found replica done = tt

  -- whether there is a replica of that name or not, what holds of the nodes holds after its commits
  pub finished : (found : Option ProviderNode) → provider_nodes_by mid.provider_nodes name ≡ found → FinishedIn (said ++ lines) mid (commits_in mid search (stages_of lines) found)
  finished None there = none_finished there
  finished (Some own) there =
      let was : provider_nodes_by state.provider_nodes name ≡ Some own = sym own_is ∙ there in
      let here = provider_node_name mid.provider_nodes name own there in
      let replica : own.provider.kind ≡ Replica =
      replica_is own.provider.kind (let P : Bool → Type 0 = IsManned own.provider.kind in subst P (ap is_some e) (is.manned name own was)) in
      let has : CommittedBy said own Replica = subst (CommittedBy said own) replica (commits name own was) in
      let d = own.provider.directory in
      let has' : HasCommitted d.history said name own.notes d.writes = subst (λ n. HasCommitted d.history said n own.notes d.writes) (sym here) has in
      with_own_finished own (commits_all mid.clock search own (stages_of lines)) there replica
      (lines_commit kept selected d.history d.suffix own.provider replica name mid.clock search from frame good named wants lines said own (clock ∙ is.clock) right
      (record { named = sym here; keeps = still_kept own.provider.directory.history own.provider.directory.suffix own.provider (is.sources name own was); has = has' }))
