-- What is so of a call that passes the tests whether it reads the sequence of layouts.
use Rattle.std.proofs.Common.{◌≡◌, ℕ, ◌+◌, ◌^◌, ◌&&◌, Bool, true, false, not, eqb-true, ltb, is_some, List, [], Option, Some}
use Rattle.std.proofs.Common.{None, refl, sym, subst, ap}
use Rattle.std.proofs.lemmas.Bool.{not-true}
use Rattle.layout.specs.Layout.{Layout, quorum_of}
use Rattle.bank.specs.declared.kind.Kind.{Kind}
use Rattle.bank.specs.declared.kind.Kind.TheVariants.{Next, Spread, Query, PreWrite, Finalize, Fetch}
use Rattle.record.specs.Legal.{is_move}
use Rattle.record.specs.declared.stage.Stage.{Stage}
use Rattle.record.specs.declared.stage.Stage.TheVariants as stage
use Rattle.call.specs.Call.{OpenCall as Machine, reached}
use Rattle.letter.specs.declared.letter.Letter.{Letter}
use Rattle.local_object.specs.Anew.{IsBegunAnew, IsBegunAnewIf, IsReadAtIf, IsReadLater}
use Rattle.local_object.specs.Local.{Place, heard_place, layout_in}
use Rattle.local_object.specs.ReadingOn.{has_quorum, is_next, is_reading, is_reading_at}
use Rattle.local_object.specs.Starting.{first_number}
use Rattle.local_object.specs.Taking.{is_read_begin}
use Rattle.local_object.proofs.NewObjectLemmas.{both}

pub begins_at : (s : Stage) → is_read_begin s ≡ true → s ≡ stage.ReadBegin
begins_at stage.ReadBegin e = refl
begins_at (stage.ReadNext position finalized) e = absurd (cc)
begins_at (stage.ReadSpread position finalized status) e = absurd (cc)
begins_at (stage.QueryFrom position last greatest shown_at) e = absurd (cc)
begins_at (stage.FetchAt shown_at last tag) e = absurd (cc)
begins_at (stage.PreWriteAt last tag) e = absurd (cc)
begins_at (stage.FinalizeAt last tag) e = absurd (cc)
begins_at (stage.AgainNext last position tag) e = absurd (cc)
begins_at (stage.AgainSpread last position tag status) e = absurd (cc)
begins_at (stage.MoveSpread position) e = absurd (cc)
begins_at (stage.MoveQuery position) e = absurd (cc)
begins_at (stage.MoveFetch position tag) e = absurd (cc)
begins_at (stage.MovePreWrite position tag) e = absurd (cc)
begins_at (stage.MoveFinalize position tag) e = absurd (cc)
begins_at (stage.MoveFinal position tag) e = absurd (cc)
begins_at (stage.Ended last tag) e = absurd (cc)
begins_at (stage.Moved position tag) e = absurd (cc)

pub reads_there : (s : Stage) (p : ℕ) → is_reading_at s p ≡ true → (finalized : ℕ) × (s ≡ stage.ReadNext p finalized)
reads_there stage.ReadBegin p e = absurd (cc)
reads_there (stage.ReadNext position finalized) p e =
    (finalized, ap (λ n. stage.ReadNext n finalized) (eqb-true position p e))
reads_there (stage.ReadSpread position finalized status) p e = absurd (cc)
reads_there (stage.QueryFrom position last greatest shown_at) p e = absurd (cc)
reads_there (stage.FetchAt shown_at last tag) p e = absurd (cc)
reads_there (stage.PreWriteAt last tag) p e = absurd (cc)
reads_there (stage.FinalizeAt last tag) p e = absurd (cc)
reads_there (stage.AgainNext last position tag) p e = absurd (cc)
reads_there (stage.AgainSpread last position tag status) p e = absurd (cc)
reads_there (stage.MoveSpread position) p e = absurd (cc)
reads_there (stage.MoveQuery position) p e = absurd (cc)
reads_there (stage.MoveFetch position tag) p e = absurd (cc)
reads_there (stage.MovePreWrite position tag) p e = absurd (cc)
reads_there (stage.MoveFinalize position tag) p e = absurd (cc)
reads_there (stage.MoveFinal position tag) p e = absurd (cc)
reads_there (stage.Ended last tag) p e = absurd (cc)
reads_there (stage.Moved position tag) p e = absurd (cc)

pub next_asked : (k : Kind) → is_next k ≡ true → k ≡ Next
next_asked Next e = refl
next_asked (Spread status) e = absurd (cc)
next_asked Query e = absurd (cc)
next_asked (PreWrite tag) e = absurd (cc)
next_asked (Finalize tag) e = absurd (cc)
next_asked (Fetch tag) e = absurd (cc)

pub quorum_there : (o : Option Layout) (quorum : ℕ) → has_quorum o quorum ≡ true
    → (layout : Layout) × (o ≡ Some layout) × (quorum ≡ quorum_of layout)
quorum_there None quorum e = absurd (cc)
quorum_there (Some layout) quorum e = (layout, refl, eqb-true quorum (quorum_of layout) e)

pub waits : (e t : Bool) → e ≡ not t → e ≡ false → t ≡ true
waits e true is none = refl
waits e false is none = absurd (cc)

-- the parts of a test whether a call reads
pub record IsReadingCall (places : List Place) (call : Machine) : Type 0 where
  pub ended : is_some call.phase.end ≡ false
  pub settled : is_some call.settled ≡ false
  pub stage : is_reading_at call.stage call.phase.position ≡ true
  pub kind : is_next call.phase.kind ≡ true
  pub quorum : has_quorum (layout_in (heard_place places call.phase.position)) call.phase.quorum ≡ true

pub reading_parts : (places : List Place) (call : Machine) → is_reading places call ≡ true → IsReadingCall places call
reading_parts places call e =
    let quorum = has_quorum (layout_in (heard_place places call.phase.position)) call.phase.quorum in
    let kind = is_next call.phase.kind in
    let staged = is_reading_at call.stage call.phase.position in
    let ended = not (is_some call.phase.end) in
    let settled = not (is_some call.settled) in
    let whole = both (not (is_move call.kind)) (ended && (settled && (staged && (kind && quorum)))) e in
    let one = both ended (settled && (staged && (kind && quorum))) whole.1 in
    let two = both settled (staged && (kind && quorum)) one.1 in
    let three = both staged (kind && quorum) two.1 in
    let four = both kind quorum three.1 in record {
      ended = not-true (is_some call.phase.end) one.0;
      settled = not-true (is_some call.settled) two.0;
      stage = three.0;
      kind = four.0;
      quorum = four.1;
    }

-- calls that begin anew, by whether they read the sequence of layouts again

module _ (call : Machine) (anew : is_read_begin (reached call) ≡ true) where
  begun_by : (moves : Bool) → is_move call.kind ≡ moves → (places : List Place) (old : List Machine) (index start : ℕ) (kind : Kind)
      (position : ℕ) (new : List Machine) (letters : List Letter)
      → IsReadAtIf (not moves && ltb (call.phase.number + first_number start) (2 ^ 32)) places old call index
      (call.phase.number + first_number start) start new letters
      → IsBegunAnew places old call index start kind position new letters
  begun_by moves is places old index start kind position new letters reads =
      subst (λ b. IsBegunAnewIf b places old call index start kind position new letters) (sym anew)
      (subst (λ b. IsReadAtIf (not b && ltb (call.phase.number + first_number start) (2 ^ 32)) places old call index
      (call.phase.number + first_number start) start new letters) (sym is) reads)

  pub begun_not : is_move call.kind ≡ true → (places : List Place) (old : List Machine) (index start : ℕ) (kind : Kind) (position : ℕ)
      (new : List Machine) (letters : List Letter) → new ≡ old → letters ≡ []
      → IsBegunAnew places old call index start kind position new letters
  begun_not moves places old index start kind position new letters same none =
      begun_by true moves places old index start kind position new letters (same, none)

  pub begun_reading : is_move call.kind ≡ false → (places : List Place) (old : List Machine) (index start : ℕ) (kind : Kind)
      (position : ℕ) (new : List Machine) (letters : List Letter)
      → IsReadLater places old call index (first_number start) start new letters
      → IsBegunAnew places old call index start kind position new letters
  begun_reading stays places old index start kind position new letters reads =
      begun_by false stays places old index start kind position new letters reads
