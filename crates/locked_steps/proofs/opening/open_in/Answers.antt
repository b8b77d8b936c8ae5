use Rattle.std.proofs.Common.{rules, ◌≡◌, ◌+◌, ◌++◌, ◌≤◌, ◌∷◌, [], length, ap, ◌∙◌, arith, add-one}
use Rattle.register.proofs.ListLemmas.{all_weaker}
use Rattle.cluster.specs.Cluster.{Named}
use Rattle.cluster.specs.Kept.{IsPlaced}
use Rattle.locked_steps.specs.Seats.{new_seat, new_seats}
use Rattle.locked_steps.proofs.opening.open_in.Goals as goal

pub loop-number-preserved : goal.loop-number-preserved
loop-number-preserved g c =
    let n = c.loop-number.number in
    let more : new_seats (n + 1) ≡ new_seats n ++ new_seat n ∷ [] = ap new_seats (add-one n) in
    record {
      parts = omega arith;
      amount = omega arith;
      items = cc (more, c.push_reserved.ensures.items, c.empty_seat.ensures, c.loop-number.invariant.items);
      len = omega arith;
      room = omega arith;
    }

pub new-booked-requires-clause-sound : goal.new-booked-requires-clause-sound
new-booked-requires-clause-sound g c =
    let store = c.args.cluster in
    record {
      records = c.soundness.ensures.sound;
      past = all_weaker (IsPlaced (length store.servers) store.counter) (λ (o : Named). o.state.last ≤ store.counter) store.objects
          (λ o placed. placed.past) c.soundness.ensures.kept.objects;
    }

pub returns-clause-seats : goal.returns-clause-seats
returns-clause-seats g c =
    let all : c.loop-number.number ≡ c.args.seats = omega arith in c.loop-number.invariant.items ∙ ap new_seats all

pub open-book-requires-clause-name : goal.open-book-requires-clause-name
open-book-requires-clause-name g c = search rules
