-- A read or a write that has just begun reads the sequence of layouts at position 0.
use Rattle.std.proofs.Common.{◌≡◌, ℕ, suc, ◌<◌, false, eqb, None, refl, sym, ◌∙◌, subst}
use Rattle.layout.specs.Layout.{quorum_of}
use Rattle.bank.specs.Bank.{empty_piece}
use Rattle.bank.specs.declared.kind.Kind.TheVariants.{Next}
use Rattle.record.specs.declared.call.CallKind.{CallKind}
use Rattle.record.specs.declared.call.CallKind.TheVariants.{Read, Write}
use Rattle.record.specs.declared.call.Entry.{Entry}
use Rattle.record.specs.declared.stage.Stage.TheVariants.{ReadNext}
use Rattle.record.specs.Steps.{new_phase}
use Rattle.open_calls.specs.OpenCalls.{NodeCall}
use Rattle.soundness.proofs.ListLemmas.{all_get, all_weaker}
use Rattle.open_calls.proofs.CallsOfNodeLemmas.{differs}
use Rattle.open_calls.proofs.OpenCallLemmas.{found_last}
use Rattle.network.specs.Worlds.{ClusterFile, World, known_layout}
use Rattle.network.specs.Events.{begun_world, phase_requests}
use Rattle.network.specs.Premises.{IsUnused}
use Rattle.starts.specs.Laws.{BegunCallsRead}
use Rattle.starts.specs.Reading.{HasBegunToRead}
use Rattle.starts.proofs.AdvancedCallLemmas.{found_after}
use Rattle.starts.proofs.FinalPositionLemmas.{lawful_quorum}
use Rattle.starts.proofs.TrueReplyLemmas.{IsTrueCall, IsTruthful}
use Rattle.starts.proofs.TrueWorldLemmas.{reached_true}

module _ (world : World) (truth : IsTruthful world) (node id : ℕ) (kind : CallKind)
    (unused : IsUnused world id) where
  -- the call that begins
  abbrev new : NodeCall
  new = record {
    node = node;
    id = id;
    kind = kind;
    settled = None;
    stage = ReadNext 0 0;
    phase = new_phase id 1 Next 0 (known_layout world node 0) 0;
  }

  -- no open call has its id
  other_id : (call : NodeCall) → IsTrueCall world call → eqb call.id id ≡ false
  other_id call is = differs call.id id (λ same. all_get (λ (entry : Entry). entry.call ≡ id → ⊥) world.history is.known.0 is.known.1 unused
      is.known.2 (is.known.3 ∙ same))

  begun_reads : HasBegunToRead (begun_world (record world { now = suc world.now }) node id kind (ReadNext 0 0) Next 0) node id
  begun_reads = record {
    call = new;
    open_there = found_last world.calls new
        (all_weaker (IsTrueCall world) (λ (call : NodeCall). eqb call.id id ≡ false) other_id world.calls truth.calls);
    by_node = refl;
    first = refl;
    reads = record {
      finalized = 0;
      stage = refl;
      kind = refl;
      at = refl;
      own = refl;
      quorum = refl;
      few = subst (λ (file : ClusterFile). 0 < quorum_of file.first) (sym (truth.one node))
          (lawful_quorum (world.files 0).first truth.lawful.0);
      unended = refl;
      sent = λ place message at. found_after world.sent (phase_requests world node id 1 Next 0 empty_piece) place message at;
    };
  }

pub begun_calls_reading : BegunCallsRead
begun_calls_reading fragment world node id value reached unused =
    let truth = reached_true fragment world reached in
    (begun_reads world truth node id Read unused, begun_reads world truth node id (Write value) unused)
