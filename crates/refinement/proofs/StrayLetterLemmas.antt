-- A node hears of a letter that it neither serves nor takes, or sends it back. The world has no event then.
use Rattle.std.proofs.Common.{◌≡◌, ◌+◌, [], refl, arith}
use Rattle.record.specs.Fragments.{Code}
use Rattle.network.specs.Worlds.{World}
use Rattle.letter.specs.declared.letter.Letter.{Letter}
use Rattle.local_object.specs.Events.{LocalEvent, redirected_here}
use Rattle.local_object.specs.Local.{LocalObject, told_start}
use Rattle.local_object.specs.Outcomes.{learnt_from, silent}
use Rattle.refinement.specs.Laws.{IsPlainEventOfWorld}
use Rattle.refinement.specs.Parts.{IsPartOf, WasSentAs}
use Rattle.refinement.specs.WellFormed.{IsWellFormed}
use Rattle.refinement.proofs.LearntPartLemmas.{known_by_all, part_learnt_from}
use Rattle.refinement.proofs.PartLemmas.{refined}
use Rattle.refinement.proofs.StartLemmas.{told_is_start}
use Rattle.refinement.proofs.TakenLetterLemmas.{still_kept}

pub hear_refined : (letter : Letter) → IsPlainEventOfWorld (LocalEvent.Hear letter)
hear_refined letter fragment world local formed part may premised =
    let after = learnt_from local letter in
    refined fragment world [] world (silent after) (silent after) world.history refl refl tt
    (still_kept fragment world after formed (part_learnt_from world local letter formed.one part premised))

-- a letter that was sent was also sent with the start of a node in place of its own
sent_back : (fragment : Code) (world : World) (local : LocalObject) (letter : Letter) → IsWellFormed fragment world →
    IsPartOf world local → WasSentAs world letter → WasSentAs world (record letter { start = told_start local })
sent_back fragment world local letter formed part was = record {
  sent = was.sent;
  layout = was.layout;
  next = was.next;
  start = told_is_start world local part.start
      (λ position layout e. known_by_all world formed.one local.node position layout (part.layouts position layout e));
}

pub redirect_refined : (letter : Letter) → IsPlainEventOfWorld (LocalEvent.Redirect letter)
redirect_refined letter fragment world local formed part may premised =
    let after = redirected_here local letter in
    let none : world.now ≡ world.now + 0 = omega arith in
    refined fragment world [] world after after world.history refl refl tt
    (record {
      formed = formed;
      part = part;
      sent = (sent_back fragment world local letter formed part premised, tt);
      others = λ other apart is. is;
      kept = λ other was. was;
      files = refl;
      now = none;
      entries = refl;
    })
