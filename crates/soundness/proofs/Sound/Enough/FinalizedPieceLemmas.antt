-- What was fetched before had its pieces.
use Rattle.std.proofs.Common.{◌≡◌, ℕ, zero, suc, ◌<◌, ◌≤◌, ◌⊎◌, true, Option}
use Rattle.std.proofs.Common.{Some, subst₂, inl, inr, arith, le_of_lt, leb-true}
use Rattle.std.proofs.lemmas.Option.{some_pair_parts}
use Rattle.tag.specs.declared.tag.Tag.{Tag}
use Rattle.tag.specs.Tag.{opening_tag}
use Rattle.bank.specs.declared.kind.Kind.{Kind}
use Rattle.record.specs.Records.{Object, bank_at}
use Rattle.bank.specs.declared.kind.Kind.TheVariants.{Finalize, Fetch}
use Rattle.bank.specs.Knowledge.{came_by, finalized_at, HasFinalized}
use Rattle.record.specs.PhaseOrder.{due}
use Rattle.record.specs.declared.stage.Stage.{Stage}
use Rattle.record.specs.Legal.{IsLegal, HasBegun}
use Rattle.soundness.proofs.Sound.DueKindLemmas.{fetches, finalizes}
use Rattle.soundness.proofs.Sound.Enough.QuorumPieceLemmas.{Had, had_later, Somewhere}
use Rattle.soundness.proofs.Sound.Enough.StagePieceLemmas.{PieceFacts, AtPhase, call_at_phase}

-- before a tag is fetched, it was finalized there
pub fetch_rests : (object : Object) (now position : ℕ) (stage : Stage) (tag : Tag) → PieceFacts object now stage →
    due stage ≡ Some (Fetch tag, position) → Somewhere object position tag now
fetch_rests object now position stage tag facts e = grind (arith, fetches, some_pair_parts)

-- before a tag is finalized by its own request, a quorum had its pieces
fin_rests : (object : Object) (now position : ℕ) (stage : Stage) (tag : Tag) → PieceFacts object now stage →
    due stage ≡ Some (Finalize tag, position) → Had object position tag now
fin_rests object now position stage tag facts e = grind (arith, finalizes, some_pair_parts)

pub came_at : (o : Option ℕ) (step : ℕ) → came_by o step ≡ true → (came : ℕ) × (o ≡ Some came) × (came ≤ step)
came_at o step e = grind (arith, leb-true)

-- one step back from a finalized tag
record Back (object : Object) (position : ℕ) (tag : Tag) (step : ℕ) : Type 0 where
  now : ℕ
  earlier : now < step
  rests : Had object position tag now ⊎ Somewhere object position tag now

step_back : (object : Object) → IsLegal object → (position i : ℕ) (tag : Tag) (step : ℕ) →
    HasFinalized (bank_at object position i) tag step → (tag ≡ opening_tag) ⊎ Back object position tag step
step_back object legal position i tag step fin = go ((legal.banks position i).finalized tag came.0 came.1)
  where
    came : (c : ℕ) × (finalized_at (bank_at object position i) tag ≡ Some c) × (c ≤ step)
    came = came_at (finalized_at (bank_at object position i) tag) step fin

    is_due_at : (kind : Kind) (begun : HasBegun object kind position came.0) (there : AtPhase object begun.phase) →
        due there.stage ≡ Some (kind, position)
    is_due_at kind begun there = subst₂ (λ k p. due there.stage ≡ Some (k, p)) begun.same_kind begun.same_position there.is_due

    go : (tag ≡ opening_tag) ⊎ (HasBegun object (Finalize tag) position came.0 ⊎ HasBegun object (Fetch tag) position came.0) →
        (tag ≡ opening_tag) ⊎ Back object position tag step
    go (inl opening) = inl opening
    go (inr (inl begun)) =
        let there = call_at_phase object legal begun.index begun.call begun.at begun.place begun.phase begun.within in
        inr (record {
          now = there.now;
          earlier = (let a = there.before in let b = begun.before in let c = came.2 in omega arith);
          rests = inl (fin_rests object there.now position there.stage tag there.facts (is_due_at (Finalize tag) begun there));
        })
    go (inr (inr begun)) =
        let there = call_at_phase object legal begun.index begun.call begun.at begun.place begun.phase begun.within in
        inr (record {
          now = there.now;
          earlier = (let a = there.before in let b = begun.before in let c = came.2 in omega arith);
          rests = inr (fetch_rests object there.now position there.stage tag there.facts (is_due_at (Fetch tag) begun there));
        })

-- a tag that was finalized anywhere at a position had its pieces at a quorum there
pub had_before : (object : Object) → IsLegal object → (fuel : ℕ) (position : ℕ) (tag : Tag) (step : ℕ) → step ≤ fuel →
    Somewhere object position tag step → (tag ≡ opening_tag) ⊎ Had object position tag step
had_before object legal fuel position tag step h (inl opening) = inl opening
had_before object legal zero position tag step h (inr (i, fin)) = go (step_back object legal position i tag step fin)
  where
    go : (tag ≡ opening_tag) ⊎ Back object position tag step → (tag ≡ opening_tag) ⊎ Had object position tag step
    go (inl opening) = inl opening
    go (inr back) = absurd (let e = back.earlier in omega arith)
had_before object legal (suc fuel) position tag step h (inr (i, fin)) =
    go (step_back object legal position i tag step fin) (λ now less some. had_before object legal fuel position tag now less some)
  where
    on : (now : ℕ) → now < step → (tag ≡ opening_tag) ⊎ Had object position tag now →
        (tag ≡ opening_tag) ⊎ Had object position tag step
    on now less (inl opening) = inl opening
    on now less (inr had) = inr (had_later object position tag now step (le_of_lt less) had)

    deeper : (back : Back object position tag step) →
        ((now : ℕ) → now ≤ fuel → Somewhere object position tag now → (tag ≡ opening_tag) ⊎ Had object position tag now) →
        Had object position tag back.now ⊎ Somewhere object position tag back.now →
        (tag ≡ opening_tag) ⊎ Had object position tag step
    deeper back rest (inl had) = on back.now back.earlier (inr had)
    deeper back rest (inr some) = on back.now back.earlier (rest back.now (let e = back.earlier in omega arith) some)

    go : (tag ≡ opening_tag) ⊎ Back object position tag step →
        ((now : ℕ) → now ≤ fuel → Somewhere object position tag now → (tag ≡ opening_tag) ⊎ Had object position tag now) →
        (tag ≡ opening_tag) ⊎ Had object position tag step
    go (inl opening) rest = inl opening
    go (inr back) rest = deeper back rest back.rests
