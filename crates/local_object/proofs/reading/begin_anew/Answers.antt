use Rattle.std.proofs.Common.{◌≡◌, true, false, refl, sym, subst, ap, ◌∙◌}
use Rattle.std.proofs.lemmas.Result.{IfOk-weaker}
use Rattle.record.specs.Legal.{is_move}
use Rattle.call.specs.Call.{OpenCall as Machine, reached}
use Rattle.local_object.specs.Anew.{IsBegunAnewIf, IsReadLater}
use Rattle.local_object.specs.Taking.{is_read_begin}
use Rattle.local_object.proofs.CarriedCallLemmas.{same_call}
use Rattle.local_object.proofs.ReadingTestLemmas.{begun_not, begun_reading}
use Rattle.local_object.proofs.reading.begin_anew.Goals as goal

pub returns-then-is_move-clause-begun : goal.returns-then-is_move-clause-begun
returns-then-is_move-clause-begun c = λ call at.
    let same = same_call c.at-call.result.now call (sym c.at-call.ensures ∙ at) in
    let anew : is_read_begin (reached call) ≡ true =
    ap (λ (m : Machine). is_read_begin (reached m)) (sym same) ∙ sym c.begins_reading.ensures ∙ c.if-begins_reading.true in
    let moves : is_move call.kind ≡ true = ap (λ (m : Machine). is_move m.kind) (sym same) ∙ sym c.is_move.ensures ∙ c.if-is_move.true in
    begun_not call anew moves c.args.places.now c.args.calls.now c.args.index c.args.start c.args.asked.0 c.args.asked.1
    c.args.calls.now c.new.result.items refl c.new.ensures.items

pub returns-then-begins_reading-clause-begun : goal.returns-then-begins_reading-clause-begun
returns-then-begins_reading-clause-begun c =
    IfOk-weaker c.read_at.result _ _
    (λ letters read call at.
    let same = same_call c.at-call.result.now call (sym c.at-call.ensures ∙ at) in
    let anew : is_read_begin (reached call) ≡ true =
    ap (λ (m : Machine). is_read_begin (reached m)) (sym same) ∙ sym c.begins_reading.ensures ∙ c.if-begins_reading.true in
    let stays : is_move call.kind ≡ false = ap (λ (m : Machine). is_move m.kind) (sym same) ∙ sym c.is_move.ensures ∙ c.if-is_move.false in
    begun_reading call anew stays c.args.places.now c.args.calls.now c.args.index c.args.start c.args.asked.0 c.args.asked.1
    c.read_at.new.calls letters.items
    (subst (λ n. IsReadLater c.args.places.now c.args.calls.now call c.args.index n c.args.start c.read_at.new.calls letters.items)
    c.first_number.ensures (read call at)))
    c.read_at.ensures.read

pub returns-clause-begun : goal.returns-clause-begun
returns-clause-begun c =
    IfOk-weaker c.advance.result _ _
    (λ letters advanced call at.
    let same = same_call c.at-call.result.now call (sym c.at-call.ensures ∙ at) in
    let other : is_read_begin (reached call) ≡ false =
    ap (λ (m : Machine). is_read_begin (reached m)) (sym same) ∙ sym c.begins_reading.ensures ∙ c.if-begins_reading.false in
    subst (λ b. IsBegunAnewIf b c.args.places.now c.args.calls.now call c.args.index c.args.start c.args.asked.0 c.args.asked.1
    c.advance.new.calls letters.items) (sym other) (advanced call at))
    c.advance.ensures.advanced
