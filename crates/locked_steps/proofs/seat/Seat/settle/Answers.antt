use Rattle.std.proofs.Common.{◌≡◌, ◌≤◌, ◌<◌, Some, length, refl, sym, ap, ◌∙◌, rules, arith}
use Rattle.std.specs.Prelude.{Option}
use Rattle.std.specs.String.{string_bytes}
use Rattle.std.proofs.lemmas.List.{append-nil}
use Rattle.call.specs.declared.receipt.Receipt.{Receipt}
use Rattle.locked_steps.specs.Seats.{pending_list, pending_of}
use Rattle.locked_steps.specs.declared.call_record.CallRecord.{CallRecord}
use Rattle.locked_steps.proofs.RecordOrderLemmas.{rising_settled, length_settled}
use Rattle.locked_steps.proofs.seat.Seat.settle.Goals as goal

pub invariant_of-self : goal.invariant_of-self
invariant_of-self g c =
    let h = c.self.invariant in
    let name = string_bytes c.self.inside.name in
    let p = c.in-Some.record in
    let s = c.args.receipt.now in
    let t : Receipt =
    record {
      object = s.object;
      kind = s.kind;
      call = s.call;
      called = s.called;
      answered = s.answered;
      value = c.args.value;
    } in
    let r : CallRecord = record p { receipt = Some t } in
    let is : c.self.inside.pending ≡ Some p = search rules in
    let later : t.called < t.answered = c.requires.later in
    let le : t.answered ≤ c.max-self-inside.result = omega arith in
    let n = length_settled name c.self.inside.records.items c.push_reserved.new.self.items c.self.inside.pending p r is
    c.push_reserved.ensures.items in
    let one : length (pending_list (pending_of name c.self.inside.pending)) ≡ 1 =
    ap (λ (o : Option CallRecord). length (pending_list (pending_of name o))) is in
    let up = rising_settled name c.self.inside.records.items c.push_reserved.new.self.items c.self.inside.pending c.self.inside.floor
    c.max-self-inside.result p r t is refl
    c.push_reserved.ensures.items h.2 later le in
    rw (c.take.ensures.after, append-nil)
    (h.0, h.1 ∙ sym n, up, tt, omega (arith, h.4, one, c.push_reserved.ensures.len, c.push_reserved.ensures.capacity))
