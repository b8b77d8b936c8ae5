-- What follows the queries of a call.
use Rattle.std.proofs.Common.{◌≡◌, ◌≢◌, ◌⊎◌, ℕ, Bool, cond, eqb, List, [], ◌∷◌, arith}
use Rattle.std.proofs.Common.{length, refl, sym, subst, ap, inl, inr, le_refl, eqb-true, eq-eqb, ne_eqb}
use Rattle.tag.specs.declared.tag.Tag.{Tag}
use Rattle.bank.specs.declared.status.Status.TheVariants.{Unset}
use Rattle.bank.specs.declared.kind.Kind.TheVariants.{PreWrite, Finalize, Fetch}
use Rattle.mail.specs.Phase.{Phase}
use Rattle.record.specs.declared.call.CallKind.{CallKind}
use Rattle.record.specs.declared.call.CallKind.TheVariants.{Read, Write}
use Rattle.record.specs.declared.stage.Stage.{Stage}
use Rattle.record.specs.declared.stage.Stage.TheVariants.{FetchAt, PreWriteAt, FinalizeAt, AgainNext, Ended}
use Rattle.record.specs.PhaseOrder.{after, after_fetch, after_again, tagged}
use Rattle.record.specs.Grammar.{TakesTag, Round, round_phases, AreRounds, IsReread, IsPut, IsRest}
use Rattle.record.proofs.Phases.RepeatedReadingLemmas.{again_split}
use Rattle.record.proofs.Phases.QueryPathLemmas.{HasPiecesFirst}
use Rattle.record.proofs.Phases.PhasePathLemmas.{IsPath, path-append, asks_of, due_of}
use Rattle.record.proofs.Phases.CourseAndPathLemmas.{IsLast, not_end, again_path}

reread_of : (kind : CallKind) (number : ℕ) (phases : List Phase) (end : Stage) (position : ℕ) (tag : Tag) → IsLast end →
    IsPath kind number (AgainNext position position tag) phases end →
    IsReread tag position phases
reread_of kind number phases end position tag last path =
    let found = again_split kind number (length phases) phases end (le_refl (length phases)) last position position position tag path in
    record {
      reading = found.reading;
      rounds = found.rounds;
      split = found.split;
      last = found.last;
      is_reading = (found.to, found.is_reading);
      are_rounds = found.are_rounds;
    }

put_of : (kind : CallKind) (number : ℕ) (phases : List Phase) (end : Stage) (position : ℕ) (tag : Tag) → IsLast end →
    IsPath kind number (PreWriteAt position tag) phases end →
    IsPut tag position phases
put_of kind number [] end position tag last path = absurd (not_end (PreWriteAt position tag) end (PreWrite tag, position) refl last path)
put_of kind number (pre_write ∷ []) end position tag last path =
    absurd (not_end (FinalizeAt position tag) end (Finalize tag, position) refl last path.1)
put_of kind number (pre_write ∷ finalize ∷ later) end position tag last path = record {
  pre_write = pre_write;
  finalize = finalize;
  later = later;
  split = refl;
  pre_writes = asks_of (PreWrite tag) position pre_write path.0;
  finalizes = asks_of (Finalize tag) position finalize path.1.0;
  again = reread_of kind number later end position tag last path.1.1;
}

-- the rounds after a reading lead to the end
rounds_path : (kind : CallKind) (number : ℕ) (rounds : List Round) (from to : ℕ) (tag : Tag) → AreRounds tag from to rounds →
    (last : ℕ) × IsPath kind number (after_again Unset from to tag) (round_phases rounds) (Ended last tag)
rounds_path kind number [] from to tag are = (from, ap (λ b. cond b (Ended from tag) (PreWriteAt to tag)) (eq-eqb to from are))
rounds_path kind number (round ∷ later) from to tag are =
    let on : after_again Unset from to tag ≡ PreWriteAt to tag = ap (λ b. cond b (Ended from tag) (PreWriteAt to tag))
    (ne_eqb to from are.0) in
    let rest = rounds_path kind number later to round.last tag are.2 in
    let reading = again_path kind number round.reading to to to round.last are.1.2.0 tag are.1.2.1 in (
      rest.0,
      subst (λ s. IsPath kind number s (round_phases (round ∷ later)) (Ended rest.0 tag)) (sym on) (
        due_of (PreWrite tag) to round.pre_write are.1.0,
        (
          due_of (Finalize tag) to round.finalize are.1.1,
          path-append kind number round.reading (round_phases later) (AgainNext to to tag) (after_again Unset to round.last tag)
              (Ended rest.0 tag) reading rest.1,
        ),
      ),
    )

reread_path : (kind : CallKind) (number : ℕ) (phases : List Phase) (position : ℕ) (tag : Tag) → IsReread tag position phases →
    (last : ℕ) × IsPath kind number (AgainNext position position tag) phases (Ended last tag)
reread_path kind number phases position tag again =
    let rest = rounds_path kind number again.rounds position again.last tag again.are_rounds in (
      rest.0,
      subst (λ xs. IsPath kind number (AgainNext position position tag) xs (Ended rest.0 tag)) (sym again.split)
          (path-append kind number again.reading (round_phases again.rounds) (AgainNext position position tag)
          (after_again Unset position again.last tag)
          (Ended rest.0 tag)
          (again_path kind number again.reading position position position again.last again.is_reading.0 tag again.is_reading.1) rest.1),
    )

put_path : (kind : CallKind) (number : ℕ) (phases : List Phase) (position : ℕ) (tag : Tag) → IsPut tag position phases →
    (last : ℕ) × IsPath kind number (PreWriteAt position tag) phases (Ended last tag)
put_path kind number phases position tag put =
    let rest = reread_path kind number put.later position tag put.again in (
      rest.0,
      subst (λ xs. IsPath kind number (PreWriteAt position tag) xs (Ended rest.0 tag)) (sym put.split) (
        due_of (PreWrite tag) position put.pre_write put.pre_writes,
        (due_of (Finalize tag) position put.finalize put.finalizes, rest.1),
      ),
    )

-- the rest of a read or a write

fetched_of : (number place last : ℕ) (tag : Tag) (later : List Phase) (end : Stage) → IsLast end → (b : Bool) →
    eqb place last ≡ b → IsPath Read number (cond b (AgainNext last last tag) (PreWriteAt last tag)) later end →
    ((place ≡ last) × IsReread tag last later) ⊎ ((place ≢ last) × IsPut tag last later)
fetched_of number place last tag later end ends b h path = grind (arith, eq-eqb, eqb-true, put_of, reread_of)

pub rest_of : (kind : CallKind) (number place last : ℕ) (greatest : Tag) (rest : List Phase) (end : Stage) (tag : Tag) → IsLast end →
    TakesTag kind number greatest tag → HasPiecesFirst kind rest →
    IsPath kind number (tagged kind number place last greatest) rest end → IsRest kind tag place last rest
rest_of kind number place last greatest rest end tag ends takes enough path = grind (arith, asks_of, fetched_of, not_end, put_of)

fetched_path : (number place last : ℕ) (tag : Tag) (later : List Phase) →
    ((place ≡ last) × IsReread tag last later) ⊎ ((place ≢ last) × IsPut tag last later) →
    (at : ℕ) × IsPath Read number (after_fetch place last tag) later (Ended at tag)
fetched_path number place last tag later (inl here) =
    let rest = reread_path Read number later last tag here.1 in
    let on : after_fetch place last tag ≡ AgainNext last last tag = ap (λ b. cond b (AgainNext last last tag) (PreWriteAt last tag))
    (eq-eqb place last here.0) in
    (rest.0, subst (λ s. IsPath Read number s later (Ended rest.0 tag)) (sym on) rest.1)
fetched_path number place last tag later (inr there) =
    let rest = put_path Read number later last tag there.1 in
    let on : after_fetch place last tag ≡ PreWriteAt last tag = ap (λ b. cond b (AgainNext last last tag) (PreWriteAt last tag))
    (ne_eqb place last there.0) in
    (rest.0, subst (λ s. IsPath Read number s later (Ended rest.0 tag)) (sym on) rest.1)

pub rest_path : (kind : CallKind) (number place last : ℕ) (greatest : Tag) (rest : List Phase) (tag : Tag) →
    TakesTag kind number greatest tag → IsRest kind tag place last rest →
    (at : ℕ) × IsPath kind number (tagged kind number place last greatest) rest (Ended at tag)
rest_path Read number place last greatest (fetch ∷ later) tag takes is =
    let way = fetched_path number place last tag later is.2 in (
      way.0,
      subst (λ t. IsPath Read number (FetchAt place last t) (fetch ∷ later) (Ended way.0 tag)) takes (
        due_of (Fetch tag) place fetch is.0,
        subst (λ b. IsPath Read number (after Read number (FetchAt place last tag) fetch.replies b) later (Ended way.0 tag))
            (sym is.1) way.1,
      ),
    )
rest_path (Write value) number place last greatest rest tag takes is =
    let way = put_path (Write value) number rest last tag is in
    (way.0, subst (λ t. IsPath (Write value) number (PreWriteAt last t) rest (Ended way.0 tag)) takes way.1)
rest_path _ number place last greatest _ tag takes is = absurd is

-- whole reads and writes

-- the place matters to a read alone, whose tag is the greatest
pub rest_placed : (kind : CallKind) (number last : ℕ) (greatest tag : Tag) (rest : List Phase) (place : Tag → ℕ) (other : ℕ) →
    other ≡ place greatest → TakesTag kind number greatest tag → IsRest kind tag other last rest →
    IsRest kind tag (place tag) last rest
rest_placed kind number last greatest tag rest place other same takes is = grind arith

pub rest_from : (kind : CallKind) (number last : ℕ) (greatest tag : Tag) (rest : List Phase) (place : Tag → ℕ) (other : ℕ) →
    other ≡ place greatest → TakesTag kind number greatest tag → IsRest kind tag (place tag) last rest →
    IsRest kind tag other last rest
rest_from kind number last greatest tag rest place other same takes is = grind arith
