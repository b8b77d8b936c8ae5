-- A node serves a letter, after it has heard of its layouts and its start.
use Rattle.std.proofs.Common.{◌≡◌, sym, subst}
use Rattle.network.specs.Events.{Event, world_after}
use Rattle.letter.specs.declared.letter.Letter.{Letter}
use Rattle.local_object.specs.Events.{LocalEvent, handled_here, served_here}
use Rattle.local_object.specs.KeptBanks.{kept_reply}
use Rattle.local_object.specs.Outcomes.{learnt_from}
use Rattle.refinement.specs.Laws.{IsPlainEventOfWorld}
use Rattle.refinement.specs.Refined.{IsRefined, if_replied, served_events}
use Rattle.local_object.proofs.HeardLayoutLemmas.{bank_here_heard}
use Rattle.refinement.proofs.LearntPartLemmas.{part_learnt_from}
use Rattle.refinement.proofs.ServedLetterLemmas.{request_refined}

pub serve_refined : (letter : Letter) → IsPlainEventOfWorld (LocalEvent.Serve letter)
serve_refined letter fragment world local formed part may premised =
    let next = learnt_from local letter in
    let asked = may.0.0 in
    let known = part_learnt_from world local letter formed.one part premised in
    subst (λ b. IsRefined fragment world (served_events local letter b) (served_here next letter b)
    × ((world_after fragment (served_events local letter b) world).history ≡ world.history)) (sym may.0.1)
    (subst (λ bank. IsRefined fragment world (if_replied (kept_reply bank asked) (Event.Serve letter.message))
    (handled_here next letter asked)
    × ((world_after fragment (if_replied (kept_reply bank asked) (Event.Serve letter.message)) world).history ≡ world.history))
    (bank_here_heard local letter letter.message.position letter.message.member)
    (request_refined fragment world next letter asked formed known premised may.1 may.0.1))
