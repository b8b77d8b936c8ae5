-- A later call finds what an earlier one left: the tags of answered calls never fall.
use Rattle.std.proofs.Common.{◌≡◌, ℕ, zero, suc, ◌<◌, ◌≤◌, ◌⊎◌}
use Rattle.std.proofs.Common.{Some, sym, subst, inl, inr, arith, le_refl, slice_get}
use Rattle.std.proofs.lemmas.Bool.{cases_lt}
use Rattle.tag.specs.declared.tag.Tag.{Tag}
use Rattle.record.specs.Records.{Call, Object}
use Rattle.record.specs.PhaseOrder.{after}
use Rattle.record.specs.Legal.{source_of, stage_of, IsLegal}
use Rattle.soundness.proofs.Quorums.QuorumMeetingLemmas.{Pointed, SeenFinal, pointed_later}
use Rattle.atomicity.proofs.Stages.CallFactLemmas.{call_at_end}
use Rattle.atomicity.proofs.Stages.CarriedTagLemmas.{MovedFrom, final_rests, Prior, prior_move, finished_move, carried_here}
use Rattle.atomicity.proofs.Stages.StageFactLemmas.{Found, Carried, Put, Reached, IsBased, IsLeft, IsMoveFrom}
use Rattle.atomicity.proofs.Stages.StoredTagLemmas.{Stored, stored_later}
use Rattle.record.proofs.TagOrderLemmas.{IsAtMost, at_most_trans}

-- what the move before carried, and when
record Before (object : Object) (position step : ℕ) : Type 0 where
  prior : Prior object position step
  tag : Tag
  now : ℕ
  until : now < step
  carried : Carried object prior.call.called position tag
  stored : Stored object (suc position) tag now

move_before : (object : Object) → IsLegal object → (index : ℕ) (call : Call) → slice_get object.calls index ≡ Some call →
    (r : ℕ) → IsMoveFrom call.kind (source_of object index) (suc r) → Before object r call.called
move_before object legal index call at r is_from =
    let prior = prior_move object legal index call at r is_from in
    let end = call_at_end object legal prior.index prior.call prior.at in
    let answer = (legal.calls prior.index prior.call prior.at).answer prior.answered prior.was in
    let fin = finished_move object prior.call.kind (source_of object prior.index) prior.call.id prior.call.called end.now
    (stage_of object prior.index prior.call)
    prior.is_from.0 answer.0 end.facts in
    record {
      prior = prior;
      tag = fin.0;
      now = end.now;
      until = (let a = end.until prior.answered answer.1 in let b = prior.before in omega arith);
      carried = subst (λ p. Carried object prior.call.called p fin.0) (sym prior.is_from.1) fin.1;
      stored = subst (λ p. Stored object (suc p) fin.0 end.now) (sym prior.is_from.1) fin.2;
    }

-- moved tags never fall
carried_more : (object : Object) (called r : ℕ) (moved : Tag) → (before : Before object r called) →
    Carried object called (suc r) moved → IsAtMost before.tag moved
carried_more object called r moved before carried =
    carried.answers before.tag (stored_later object (suc r) before.tag before.now carried.asked
    (let a = before.until in let b = carried.since in omega arith) before.stored)

-- and so does every later move
carried_on : (object : Object) → IsLegal object → (now last : ℕ) (tag : Tag) →
    Put object now last tag → (position : ℕ) → last ≤ position → (index : ℕ) (call : Call) →
    slice_get object.calls index ≡ Some call → IsMoveFrom call.kind (source_of object index) position → (moved : Tag) →
    Carried object call.called position moved → IsAtMost tag moved
carried_on object legal now last tag put zero low index call at is_from moved carried =
    let here : last ≡ 0 = omega arith in
    carried_here object now call.called zero tag moved (subst (λ p. Put object now p tag) here put) carried
carried_on object legal now last tag put (suc r) low index call at is_from moved carried =
    go (move_before object legal index call at r is_from)
    (λ lower before. carried_on object legal now last tag put r lower before.prior.index before.prior.call before.prior.at
    before.prior.is_from
    before.tag before.carried)
    (cases_lt r last)
  where
    go : (before : Before object r call.called) → (last ≤ r → (before : Before object r call.called) → IsAtMost tag before.tag) →
        (r < last) ⊎ (last ≤ r) → IsAtMost tag moved
    go before rest (inl less) = let here : last ≡ suc r = omega arith in
        carried_here object now call.called (suc r) tag moved (subst (λ p. Put object now p tag) here put) carried
    go before rest (inr more) =
        at_most_trans tag before.tag moved (rest more before) (carried_more object call.called r moved before carried)

-- what the move out of a position that was left carried
left_moved : (object : Object) → IsLegal object → (position step : ℕ) → IsLeft object position step →
    MovedFrom object position step
left_moved object legal position step left =
    let moved = left.moved in
    let end = call_at_end object legal moved.index moved.call moved.at in
    let answer = (legal.calls moved.index moved.call moved.at).answer left.answered moved.was in
    let fin = finished_move object moved.call.kind (source_of object moved.index) moved.call.id moved.call.called end.now
    (stage_of object moved.index moved.call) moved.kind answer.0 end.facts in
    record {
      index = moved.index;
      call = moved.call;
      at = moved.at;
      is_from = (moved.kind, sym moved.source);
      tag = fin.0;
      carried = subst (λ p. Carried object moved.call.called p fin.0) moved.source fin.1;
      stored = stored_later object (suc position) fin.0 end.now step
          (let a = end.until left.answered answer.1 in let b = left.by in omega arith)
          (subst (λ p. Stored object (suc p) fin.0 end.now) moved.source fin.2);
    }

-- a position that was left by a step had a pointer at a quorum by then
left_pointed : (object : Object) → IsLegal object → (position step : ℕ) → IsLeft object position step →
    Pointed object position step
left_pointed object legal position step left =
    let moved = left.moved in
    let end = call_at_end object legal moved.index moved.call moved.at in
    let answer = (legal.calls moved.index moved.call moved.at).answer left.answered moved.was in
    let fin = finished_move object moved.call.kind (source_of object moved.index) moved.call.id moved.call.called end.now
    (stage_of object moved.index moved.call) moved.kind answer.0 end.facts in
    pointed_later object position end.now step (let a = end.until left.answered answer.1 in let b = left.by in omega arith)
    (subst (λ p. Pointed object p end.now) moved.source fin.3)

-- A call that comes after an answer finds at least the answered call's tag
pub later_found : (object : Object) → IsLegal object → (now last : ℕ) (tag : Tag) → Reached object last now →
    Put object now last tag → (called there : ℕ) (greatest : Tag) → Found object called there (suc there) greatest →
    now ≤ called → IsAtMost tag greatest
later_found object legal now last tag reached put called there greatest found after =
    go (cases_lt there last) (cases_lt last found.finalized) found.based
  where
    was_pointed : Pointed object there now ⊎ IsLeft object there now → Pointed object there now
    was_pointed (inl pointed) = pointed
    was_pointed (inr left) = left_pointed object legal there now left

    was_moved : (before : ℕ) → SeenFinal object before found.asked ⊎ IsLeft object before found.asked →
        MovedFrom object before found.asked
    was_moved before (inl seen) = final_rests object legal found.asked before found.asked (le_refl found.asked) seen
    was_moved before (inr left) = left_moved object legal before found.asked left

    go : (there < last) ⊎ (last ≤ there) → (last < found.finalized) ⊎ (found.finalized ≤ last) →
        IsBased object found.finalized found.asked → IsAtMost tag greatest
    go (inl short) side based = absurd (found.unpointed (pointed_later object there now called after (was_pointed (reached there short))))
    go (inr long) (inr asked) based =
        found.answers last asked (omega arith) tag
        (stored_later object last tag now found.asked (let b = found.since in omega arith) put.stored)
    go (inr long) (inl above) (inl start) = absurd (omega arith)
    go (inr long) (inl above) (inr (before, e, why)) =
        let moved = was_moved before why in
        let low : last ≤ before = omega arith in
        let carried = carried_on object legal now last tag put before low moved.index moved.call moved.at moved.is_from
        moved.tag moved.carried in
        at_most_trans tag moved.tag greatest carried
        (found.answers found.finalized (le_refl found.finalized) (let l = found.low in omega arith) moved.tag
        (subst (λ p. Stored object p moved.tag found.asked) (sym e) moved.stored))
