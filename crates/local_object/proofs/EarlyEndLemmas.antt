-- A call that ends early by the tests of its node may end early.
use Rattle.std.proofs.Common.{◌≡◌, ◌⊎◌, ◌&&◌, ◌+◌, ◌<◌, ℕ, nat_eq, Bool, true, false, not, leb}
use Rattle.std.proofs.Common.{List, [], ◌∷◌, length, Option, Some, None, inl, inr, refl, sym, subst, ap, ◌∙◌, arith}
use Rattle.std.specs.List.{AllByRecursion, count_by}
use Rattle.std.proofs.lemmas.Bool.{leb-true, ltb-true}
use Rattle.std.proofs.lemmas.Bool.Decides.{Decides-eqb}
use Rattle.std.proofs.lemmas.Map.Made.{IsDistinct-from_AllPairs}
use Rattle.std.proofs.lemmas.Option.{same_Some}
use Rattle.tag.specs.declared.tag.Tag.{Tag}
use Rattle.layout.specs.Layout.{Layout, quorum_of}
use Rattle.piece.specs.declared.piece.Piece.{Piece}
use Rattle.bank.specs.declared.kind.Kind.{Kind}
use Rattle.bank.specs.declared.kind.Kind.TheVariants as kind
use Rattle.encoder.specs.Fragment.{fragment}
use Rattle.decoder.specs.Decoded.{IsDecoded}
use Rattle.decoder.specs.Pieces.{points_of}
use Rattle.record.specs.declared.call.CallKind.{CallKind}
use Rattle.record.specs.declared.call.CallKind.TheVariants.{Read, Write, Move}
use Rattle.record.specs.declared.call.Operation.TheVariants as operation
use Rattle.record.specs.Fragments.{IsFetch, IsValue}
use Rattle.record.specs.Journals.{entry_value, operation_of}
use Rattle.record.specs.Legal.{is_move}
use Rattle.record.specs.Wants.{is_fetch}
use Rattle.open_calls.specs.OpenCalls.{NodeCall}
use Rattle.local_object.specs.Early.{EndsAtOnceHere, EndsHeldHere, HasToldPieceHere, HasValueHere, HaveToldValueHere}
use Rattle.local_object.specs.Early.{ends_at_once, ends_held, exceeds_rest, greatest_of, is_finalizing, is_first_counting}
use Rattle.local_object.specs.Early.{is_held_by_quorum, is_last_at}
use Rattle.local_object.specs.EarlyEnds.{CanEndEarly, IsEarlyValue, IsHeldValue, IsReadValue, pieces_told}
use Rattle.local_object.specs.Ended.{early_value_of}
use Rattle.local_object.specs.Events.{LocalEvent}
use Rattle.local_object.specs.Going.{IsFetchedValue, IsOnlyValue}
use Rattle.local_object.specs.Local.{LocalObject, layout_here}
use Rattle.local_object.specs.May.{MayHappenHere}
use Rattle.local_object.specs.Outcomes.{is_read}
use Rattle.local_object.specs.Reports.{first_told, tells_held, tells_no_greater, tells_unset, told_pieces}
use Rattle.local_object.specs.Taking.{machine_of}
use Rattle.local_object.proofs.FetchedLemmas.{all_by, all_take, has_pieces, length_points}
use Rattle.local_object.proofs.NewObjectLemmas.{both}
use Rattle.local_object.proofs.ToldPieceLemmas.{IsToldOwn, own_told}

not_true : (b : Bool) → not b ≡ true → b ≡ false
not_true true e = absurd (cc)
not_true false e = refl

fetch_of : (k : Kind) → is_fetch k ≡ true → IsFetch k
fetch_of kind.Next e = absurd (cc)
fetch_of (kind.Spread status) e = absurd (cc)
fetch_of kind.Query e = absurd (cc)
fetch_of (kind.PreWrite tag) e = absurd (cc)
fetch_of (kind.Finalize tag) e = absurd (cc)
fetch_of (kind.Fetch tag) e = (tag, refl)

pub own_value : (k : CallKind) (settled returned : Option (List ℕ)) → is_read k ≡ false →
    entry_value k (Some 0) settled ≡ early_value_of k returned
own_value Read settled returned e = absurd (cc)
own_value (Write value) settled returned e = refl
own_value Move settled returned e = refl

pub read_of : (k : CallKind) → is_read k ≡ true → k ≡ Read
read_of Read e = refl
read_of (Write value) e = absurd (cc)
read_of Move e = absurd (cc)

pub read_operation : (k : CallKind) → operation.Read ≡ operation_of k → k ≡ Read
read_operation Read e = refl
read_operation (Write value) e = absurd (cc)
read_operation Move e = absurd (cc)

-- a decoded value is one that clients may write
decoded_value : (k : ℕ) (pieces : List Piece) (value : List ℕ) → IsDecoded (record { k = k; pieces = pieces; value = value }) →
    IsValue value
decoded_value k pieces value is = (all_by (λ b. b < 256) value is.interpolated.bytes, is.lawful.longest)

-- the pieces give the value
module _ (local : LocalObject) (call : NodeCall) (layout : Layout) (tag : Tag) (value : List ℕ)
    (is : IsOnlyValue layout.k (first_told layout.k tag call.id call.phase.number local.reports) value) where
  abbrev pieces : List Piece
  pieces = first_told layout.k tag call.id call.phase.number local.reports

  has_told : (p : Piece) → IsToldOwn tag call.id call.phase.number local.reports p → p.len ≡ length value →
      fragment value layout.k p.point ≡ p.bytes → HasToldPieceHere fragment local call layout tag value p.point
  has_told p own size bytes = record {
    place = own.place;
    report = own.report;
    at = own.at;
    same_call = own.same_call;
    same_phase = own.same_phase;
    same_member = sym own.same;
    greatest = own.greatest;
    piece = p;
    told = own.told;
    fits = record { point = refl; len = size; bytes = sym bytes };
  }

  all_told : (ps : List Piece) → AllByRecursion (IsToldOwn tag call.id call.phase.number local.reports) ps →
      AllByRecursion (λ (p : Piece). p.len ≡ length value) ps →
      AllByRecursion (λ (p : Piece). fragment value layout.k p.point ≡ p.bytes) ps →
      AllByRecursion (HasToldPieceHere fragment local call layout tag value) (points_of ps)
  all_told [] own lens bytes = tt
  all_told (p ∷ ps) own lens bytes = (has_told p own.0 lens.0 bytes.0, all_told ps own.1 lens.1 bytes.1)

  value_told : HaveToldValueHere fragment local call layout tag value
  value_told = record {
    members = points_of pieces;
    distinct = IsDistinct-from_AllPairs {eq = nat_eq} Decides-eqb (points_of pieces) is.decoded.lawful.distinct;
    enough = let e : layout.k ≡ length (points_of pieces) = sym is.decoded.lawful.count ∙ sym (length_points pieces) in omega (arith, e);
    each = all_told pieces
        (all_take (IsToldOwn tag call.id call.phase.number local.reports) layout.k
        (told_pieces tag call.id call.phase.number local.reports) (own_told tag call.id call.phase.number local.reports))
        (all_by _ pieces is.decoded.lawful.lens) (all_by _ pieces is.decoded.interpolated.fragments);
    is_value = decoded_value layout.k pieces value is.decoded;
  }

-- A call whose tag is held

module _ (local : LocalObject) (call : NodeCall) (layout : Layout) (known : layout_here local call.phase.position ≡ Some layout) where
  fetched_here : (value : List ℕ) → is_fetch call.phase.kind ≡ true → IsFetchedValue local.places (machine_of call) value →
      HasValueHere fragment call layout value
  fetched_here value fetch is =
      let same : is.layout ≡ layout = same_Some is.layout layout (sym is.known ∙ known) in inr (
        fetch_of call.phase.kind fetch,
        decoded_value is.layout.k _ value is.decoded,
        λ object there. has_pieces local.places (machine_of call) value is object (there ∙ sym same),
      )

  read_value : (value : List ℕ) (settled : Option (List ℕ)) → call.settled ≡ settled →
      IsReadValue local.places (machine_of call) settled value → HasValueHere fragment call layout value
  read_value value (Some settled) e is = inl (e ∙ ap Some (sym is))
  read_value value None e is = fetched_here value is.0 is.1

  held_here : (returned : Option (List ℕ)) → ends_held (machine_of call) layout local.reports ≡ true →
      IsHeldValue local.places (machine_of call) call.kind returned → EndsHeldHere fragment local call returned
  held_here returned e is =
      let count = count_by (tells_unset call.id call.phase.number) local.reports in
      let one = both (not (is_move call.kind))
      (is_finalizing call.phase.kind && (is_last_at call.stage call.phase.position && exceeds_rest layout count)) e in
      let two = both (is_finalizing call.phase.kind) (is_last_at call.stage call.phase.position && exceeds_rest layout count) one.1 in
      let three = both (is_last_at call.stage call.phase.position) (exceeds_rest layout count) two.1 in record {
        client = not_true (is_move call.kind) one.0;
        last = three.0;
        puts = two.0;
        layout = layout;
        known = known;
        held = ltb-true (length layout.members) (layout.k + count) three.1;
        returns = λ reads.
            let read = subst (λ k. IsHeldValue local.places (machine_of call) k returned) reads is in
            (read.0, read.1, read_value read.0 call.settled refl read.2);
      }

  at_once_here : (returned : Option (List ℕ)) → ends_at_once (machine_of call) layout local.reports ≡ true →
      (value : List ℕ) → returned ≡ Some value → IsOnlyValue layout.k (pieces_told (machine_of call) layout local.reports) value →
      EndsAtOnceHere fragment local call returned
  at_once_here returned e value same is =
      let tag = greatest_of (machine_of call) local.reports in
      let greatest = count_by (tells_no_greater tag call.id call.phase.number) local.reports in
      let held = count_by (tells_held tag call.id call.phase.number) local.reports in
      let one = both (is_read call.kind)
      (is_first_counting call.stage && is_held_by_quorum (machine_of call) layout local.reports tag) e in
      let two = both (is_first_counting call.stage) (is_held_by_quorum (machine_of call) layout local.reports tag) one.1 in
      let three = both (leb (quorum_of layout) greatest) (exceeds_rest layout held) two.1 in record {
        reads = read_of call.kind one.0;
        first = two.0;
        layout = layout;
        known = known;
        tag = tag;
        greatest = leb-true (quorum_of layout) greatest three.0;
        held = ltb-true (length layout.members) (layout.k + held) three.1;
        value = value;
        is_returned = same;
        pieces = value_told local call layout tag value is;
      }

pub may_end_early : (local : LocalObject) (id : ℕ) (returned : Option (List ℕ)) → CanEndEarly local id returned →
    MayHappenHere fragment local (LocalEvent.EndEarly id returned)
may_end_early local id returned can =
    let call = can.call in
    let layout = can.layout in
    let machine = machine_of call in (
      call,
      can.carried,
      go (ends_held machine layout local.reports) refl (ends_at_once machine layout local.reports) refl can.ends,
    )
  where
    go : (held : Bool) → ends_held (machine_of can.call) can.layout local.reports ≡ held → (once : Bool) →
        ends_at_once (machine_of can.call) can.layout local.reports ≡ once →
        IsEarlyValue held once local.places (machine_of can.call) can.layout local.reports returned →
        EndsHeldHere fragment local can.call returned ⊎ EndsAtOnceHere fragment local can.call returned
    go true e once f is = inl (held_here local can.call can.layout can.known returned e is)
    go false e true f is = inr (at_once_here local can.call can.layout can.known returned f is.0 is.1 is.2)
    go false e false f is = absurd is
