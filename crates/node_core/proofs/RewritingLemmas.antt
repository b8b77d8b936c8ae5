-- A log that is written anew between two rounds of a core.
use Rattle.std.proofs.Common.{◌≡◌, ◌⊎◌, inl, inr, ℕ, true, List, Option, Some, refl, sym, ap, ◌∙◌}
use Rattle.node.specs.declared.node.Node.{Node}
use Rattle.node_store.specs.Rounds.{BetweenRounds}
use Rattle.node_store.specs.Steps.{Places}
use Rattle.node_store.specs.declared.end.LogEnd.{LogEnd}
use Rattle.processes.specs.Programs.{IsHalfRewritten}
use Rattle.processes.specs.Sessions.{IsRenewal}
use Rattle.node_core.specs.Laws.{ExchangedLogsAreRenewals, IsExchanged, between}
use Rattle.node_core.specs.Rewriting.{HasKept, IsLogAnew}
use Rattle.node_core.specs.declared.embedded.NodeCore.{NodeCore}

renewed : (old new : NodeCore) (bytes : List ℕ) (left : Option (List ℕ)) (before after : Places) →
    IsLogAnew old new bytes → IsExchanged before bytes after →
    IsRenewal (between old left before) (between new left after)
renewed old new bytes left before after is done = record {
  end = old.end;
  then = new.end;
  long = refl;
  ends = refl;
  rewritten = (Some is.entries, is.anew, (ap Some (done.kept ∙ is.those), is.ends));
  lengthened = refl;
  chained = refl;
  machine = is.node;
  left = refl;
  held = ap Some done.sent;
}

-- a program between two rounds, with this length and chain of its log, and this node
abbrev at : (length chain : ℕ) → Node → (left : Option (List ℕ)) → Places → BetweenRounds Node
at length chain machine left places = record {
  length = length;
  chain = chain;
  machine = machine;
  left = left;
  kept = Some places.kept;
  held = Some places.sent;
}

gone_back : (old new again : NodeCore) (bytes : List ℕ) (left : Option (List ℕ)) (places : Places) →
    IsLogAnew old new bytes → HasKept new again true → between again left places ≡ between old left places
gone_back old new again bytes left places is (former, node, going) =
    let ends : again.end ≡ old.end = let same : Some again.end ≡ Some old.end = sym former ∙ is.former in cc in
    let nodes : again.node ≡ old.node = node ∙ is.node in
    ap (λ (end : LogEnd). at end.length end.chain.state again.node left places) ends
    ∙ ap (λ (machine : Node). at old.end.length old.end.chain.state machine left places) nodes

half : (old new : NodeCore) (bytes : List ℕ) (before kept : List ℕ) → IsLogAnew old new bytes →
    (kept ≡ before) ⊎ (kept ≡ bytes) → IsHalfRewritten old.node (Some before) (Some kept)
half old new bytes before kept is (inl same) = (is.entries, is.anew, inl same)
half old new bytes before kept is (inr those) = (is.entries, is.anew, inr (ap Some (those ∙ is.those)))

pub renewals : ExchangedLogsAreRenewals
renewals old new bytes left before is = (
  λ after done. renewed old new bytes left before after is done,
  λ again kept. gone_back old new again bytes left before is kept,
  λ kept which. half old new bytes before.kept kept is which,
)
