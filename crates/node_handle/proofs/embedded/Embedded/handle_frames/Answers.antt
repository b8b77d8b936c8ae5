use Rattle.std.specs.List.{flat_map}
use Rattle.node_store.specs.Serving.{read_by}
use Rattle.node_handle.proofs.EmbeddedLemmas.{all_left}
use Rattle.node_handle.proofs.embedded.Embedded.handle_frames.Goals as goal

pub returns-in-Ok-clause-ended : goal.returns-in-Ok-clause-ended
returns-in-Ok-clause-ended c =
    let did = c.in-Ok.ensures.handles.handles in
    λ none. c.in-Ok.ensures.ended
    (all_left (flat_map read_by did.0) c.in-Ok.round.rest.now c.args.input.now did.2 none)
