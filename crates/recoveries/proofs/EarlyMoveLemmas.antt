-- A move does not end early.
use Rattle.std.proofs.Common.{◌≡◌, ℕ, false, true, List, Option, Some, refl, sym, subst, ap, ◌∙◌}
use Rattle.std.proofs.lemmas.Option.{same_Some}
use Rattle.call.specs.Call.{OpenCall as Machine}
use Rattle.layout.specs.Layout.{Layout}
use Rattle.record.specs.declared.call.CallKind.{CallKind}
use Rattle.record.specs.declared.call.CallKind.TheVariants.{Read, Write, Move}
use Rattle.record.specs.Legal.{is_move}
use Rattle.open_calls.specs.OpenCalls.{NodeCall, open_call}
use Rattle.local_object.specs.declared.report.Report.{Report}
use Rattle.local_object.specs.Early.{ends_at_once, ends_held}
use Rattle.local_object.specs.EarlyEnds.{CanEndEarly, EndsEarlyWith, IsEarlyValue}
use Rattle.local_object.specs.Local.{LocalObject, Place}
use Rattle.local_object.specs.Taking.{machine_of}
use Rattle.recoveries.proofs.KeptCallLemmas.{moves_call}

-- whatever a move was told is not enough
none_enough : (places : List Place) (call : Machine) (layout : Layout) (reports : List Report) (returned : Option (List ℕ))
    (kind : CallKind) → call.kind ≡ kind → is_move kind ≡ true → EndsEarlyWith places call layout reports returned → ⊥
none_enough places call layout reports returned Read e move ends = absurd (cc)
none_enough places call layout reports returned (Write value) e move ends = absurd (cc)
none_enough places call layout reports returned Move e move ends =
    let held : ends_held call layout reports ≡ false =
    ap (λ (k : CallKind). ends_held (let m : Machine = record call { kind = k } in m) layout reports) e in
    let once : ends_at_once call layout reports ≡ false =
    ap (λ (k : CallKind). ends_at_once (let m : Machine = record call { kind = k } in m) layout reports) e in
    subst (λ b. IsEarlyValue false b places call layout reports returned) once
    (subst (λ b. IsEarlyValue b (ends_at_once call layout reports) places call layout reports returned) held ends)

pub no_early_move : (local : LocalObject) (id : ℕ) (call : NodeCall) → open_call local.calls id ≡ Some call →
    moves_call call ≡ true → (returned : Option (List ℕ)) → CanEndEarly local id returned → ⊥
no_early_move local id call found move returned can =
    none_enough local.places (machine_of can.call) can.layout local.reports returned can.call.kind refl
    (ap moves_call (same_Some can.call call (sym can.carried ∙ found)) ∙ move) can.ends
