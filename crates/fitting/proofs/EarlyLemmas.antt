-- A value with which a call of a fit object ends early is not too long.
use Rattle.std.proofs.Common.{◌≡◌, ℕ, Bool, true, false, List, Option, Some, None, sym, subst}
use Rattle.std.specs.Prelude.{IfSome}
use Rattle.call.specs.Call.{OpenCall as Machine}
use Rattle.layout.specs.Layout.{Layout}
use Rattle.local_object.specs.Early.{ends_at_once, ends_held}
use Rattle.local_object.specs.EarlyEnds.{CanEndEarly, IsEarlyValue, IsHeldValue, IsReadValue}
use Rattle.local_object.specs.Local.{LocalObject, Place}
use Rattle.local_object.specs.Taking.{machine_of}
use Rattle.local_object.specs.declared.report.Report.{Report}
use Rattle.open_calls.proofs.OpenCallLemmas.{found}
use Rattle.record.specs.declared.call.CallKind.{CallKind}
use Rattle.record.specs.declared.call.CallKind.TheVariants as calls
use Rattle.fitting.specs.Calls.{IsFitCall, IsShortValue}
use Rattle.fitting.specs.Objects.{IsFitObject}

module _ (places : List Place) (call : Machine) (short : IfSome call.settled IsShortValue) where
  -- the value that a read settled, or that it fetched
  read_short : (settled : Option (List ℕ)) → IfSome settled IsShortValue → (value : List ℕ) → IsReadValue places call settled value →
      IsShortValue value
  read_short None is value fetched = fetched.1.decoded.lawful.longest
  read_short (Some settled) is value same = subst IsShortValue (sym same) is

  held_short : (k : CallKind) (returned : Option (List ℕ)) → IsHeldValue places call k returned → IfSome returned IsShortValue
  held_short calls.Read returned is =
      subst (λ (o : Option (List ℕ)). IfSome o IsShortValue) (sym is.1) (read_short call.settled short is.0 is.2)
  held_short (calls.Write value) returned none = subst (λ (o : Option (List ℕ)). IfSome o IsShortValue) (sym none) tt
  held_short calls.Move returned is = absurd (is)

  value_short : (held once : Bool) (layout : Layout) (reports : List Report) (returned : Option (List ℕ)) →
      IsEarlyValue held once places call layout reports returned → IfSome returned IsShortValue
  value_short true once layout reports returned is = held_short call.kind returned is
  value_short false true layout reports returned is =
      subst (λ (o : Option (List ℕ)). IfSome o IsShortValue) (sym is.1) is.2.decoded.lawful.longest
  value_short false false layout reports returned is = absurd (is)

pub early_short : (local : LocalObject) (id : ℕ) (returned : Option (List ℕ)) → IsFitObject local → CanEndEarly local id returned →
    IfSome returned IsShortValue
early_short local id returned fit can =
    let call = machine_of can.call in
    value_short local.places call (found (IsFitCall local.places) local.calls id can.call fit.calls can.carried).0.settled
    (ends_held call can.layout local.reports) (ends_at_once call can.layout local.reports) can.layout local.reports returned can.ends
