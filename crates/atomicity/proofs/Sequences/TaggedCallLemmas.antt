-- The calls of an object, and what the order of the tags needs of them.
use Rattle.std.proofs.Common.{◌≡◌, ◌≢◌, ℕ, zero, suc, ◌+◌, false, List, [], ◌∷◌}
use Rattle.std.proofs.Common.{Some, slice_get, refl, ap, ◌∙◌, arith}
use Rattle.std.specs.Prelude.{option_map}
use Rattle.std.proofs.lemmas.Option.{same_Some}
use Rattle.tag.specs.declared.tag.Tag.{Tag}
use Rattle.record.specs.declared.call.CallKind.{CallKind}
use Rattle.record.specs.declared.call.CallKind.TheVariants.{Move}
use Rattle.record.specs.declared.call.TaggedCall.{TaggedCall}
use Rattle.record.specs.Records.{Call, Object}
use Rattle.record.specs.Legal.{is_move}
use Rattle.record.specs.Journals.{operation_of, tag_of}
use Rattle.atomicity.specs.Sequence.{IsTagged, tagged_call, tagged_from, tagged_calls}
use Rattle.record.specs.declared.call.Operation.TheVariants as operation

tagged_from-get : (object : Object) (first : ℕ) (calls : List Call) (index : ℕ) → slice_get (tagged_from object first calls) index
    ≡ option_map (λ call. tagged_call object (first + index) call) (slice_get calls index)
tagged_from-get object first [] index = refl
tagged_from-get object first (call ∷ calls) zero =
    let same : first ≡ first + 0 = omega arith in
    ap (λ i. Some (tagged_call object i call)) same
tagged_from-get object first (call ∷ calls) (suc index) =
    let same : suc first + index ≡ first + suc index = omega arith in
    tagged_from-get object (suc first) calls index
    ∙ ap (λ i. option_map (λ call. tagged_call object i call) (slice_get calls index)) same

-- each call of the object stands at its place
pub tagged_calls-get : (object : Object) (index : ℕ) →
    slice_get (tagged_calls object) index ≡ option_map (λ call. tagged_call object index call) (slice_get object.calls index)
tagged_calls-get object index = grind (arith, tagged_from-get)

-- a tagged call is a call of the object
pub record Found (object : Object) (number : ℕ) (x : TaggedCall) (tag : Tag) : Type 0 where
  pub index : ℕ
  pub call : Call
  pub at : slice_get object.calls index ≡ Some call
  pub same : tagged_call object index call ≡ x
  pub numbered : number ≡ suc index
  pub tagged : tag_of object index call ≡ Some tag

pub found : (object : Object) (number : ℕ) (x : TaggedCall) (tag : Tag) → IsTagged (tagged_calls object) number x tag →
    Found object number x tag
found object number x tag t = grind (arith, same_Some, tagged_calls-get)

-- a read or a write of the object that has its tag is a tagged call
pub tagged_of : (object : Object) (index : ℕ) (call : Call) (tag : Tag) → slice_get object.calls index ≡ Some call →
    operation_of call.kind ≢ operation.Move → tag_of object index call ≡ Some tag →
    IsTagged (tagged_calls object) (suc index) (tagged_call object index call) tag
tagged_of object index call tag at stands tagged = record {
  index = index;
  at = tagged_calls-get object index ∙ ap (λ o. option_map (λ c. tagged_call object index c) o) at;
  numbered = refl;
  no_move = stands;
  tagged = tagged;
}

pub moves_not : (kind : CallKind) → is_move kind ≡ false → operation_of kind ≢ operation.Move
moves_not kind h e = grind arith
