-- The answer to a request at a step after all that a bank keeps is true of the bank that it leaves.
use Rattle.std.proofs.Common.{◌≡◌, ℕ, suc, ◌<◌, Bool, true, false, cond, Option, Some, None, IsSome, sym, ap, ◌∙◌, subst}
use Rattle.std.proofs.Common.{◌&&◌, ◌||◌, refl, arith}
use Rattle.std.specs.FinMap as map
use Rattle.std.proofs.lemmas.Option.{same_Some}
use Rattle.tag.specs.declared.tag.Tag.{Tag}
use Rattle.tag.specs.Tag.{tag_cmp, tag_eq, opening_tag}
use Rattle.tag.proofs.TagOrderLemmas.{tag_eq-same}
use Rattle.bank.specs.declared.row.Row.{Row}
use Rattle.bank.specs.declared.status.Status.{Status}
use Rattle.bank.specs.declared.reply.Answer.{Answer}
use Rattle.bank.specs.declared.request.Request.{Request}
use Rattle.bank.specs.declared.request.Request.TheVariants as request
use Rattle.bank.specs.Pointer.{status_of, raised}
use Rattle.bank.specs.Bank.{Bank, opening_row, opened_bank, pre_written, finalized, with_pointer}
use Rattle.bank.specs.Collect.{collected, IsCollected}
use Rattle.bank.specs.Serve.{kind_of, served_bank, answer_to, greatest_final}
use Rattle.bank.specs.Knowledge.{came_by, since, row_finalized, row_arrived, finalized_at, arrived_at}
use Rattle.bank.specs.Knowledge.{pointer_at, status_le, finals_above_at, exceeds}
use Rattle.bank.specs.Knowledge.{HasFinalized, IsTrueAnswer}
use Rattle.bank.specs.Facts.{IsEarlier, IsBefore, SameBefore, IsServed}
use Rattle.bank.proofs.CollectedBankLemmas.{finalized_at-collected, arrived_at-collected}
use Rattle.bank.proofs.FetchTruthLemmas.{fetched_truth}
use Rattle.bank.proofs.GreatestTagLemmas.{greatest_final_is}
use Rattle.bank.proofs.MonotoneLemmas.{Grows, grows_finalized, served_grows}
use Rattle.bank.proofs.PieceRetentionLemmas.{served_collected}
use Rattle.bank.proofs.RowChangeLemmas.{earlier_by, since_by, comes_past, finalized_at-finalized}
use Rattle.bank.proofs.RowChangeLemmas.{arrived_at-pre_written}
use Rattle.bank.proofs.RowChangeLemmas.{get-with_row}

-- what the pointer said at a step before now
same_pointer : (old new : Bank) (now : ℕ) → Grows now old new → (step : ℕ) → step < now → pointer_at new step ≡ pointer_at old step
same_pointer old new now grows step past = grind arith

-- a bank that grew from another only by events of step `now` says the same as that one about each step before `now`
pub grows_past : (old new : Bank) (now : ℕ) → Grows now old new → SameBefore old new now
grows_past old new now grows = record {
  finalized = λ tag step past. comes_past now (finalized_at old tag) (finalized_at new tag) (grows.finalized tag) step past;
  arrived = λ tag step past. comes_past now (arrived_at old tag) (arrived_at new tag) (grows.arrived tag) step past;
  pointer = same_pointer old new now grows;
  dropped = λ tag step past.
      ap (λ c. c || (came_by (finalized_at new tag) step && exceeds new.delta (finals_above_at new tag step)))
      (comes_past now old.retired new.retired grows.retired step past)
      ∙ ap (λ c. came_by old.retired step || (c && exceeds new.delta (finals_above_at new tag step)))
      (comes_past now (finalized_at old tag) (finalized_at new tag) (grows.finalized tag) step past)
      ∙ ap (λ n. came_by old.retired step || (came_by (finalized_at old tag) step && exceeds new.delta n)) (grows.above tag step past)
      ∙ ap (λ d. came_by old.retired step || (came_by (finalized_at old tag) step && exceeds d (finals_above_at old tag step))) grows.delta;
}

pub grows_order : (old new : Bank) (now later : ℕ) → Grows now old new → now < later → IsBefore old now → IsBefore new later
grows_order old new now later grows after before = grind arith

-- the pointer says now what it has
pointer_now : (b : Bank) (now : ℕ) → IsBefore b now → pointer_at b now ≡ status_of b.pointer
pointer_now b now before = grind arith

-- a pointer that is raised reaches the status
raised_reaches : (b : Bank) (s : Status) (now : ℕ) → IsBefore b now
    → status_le s (pointer_at (with_pointer b (raised b.pointer s now)) now) ≡ true
raised_reaches b s now before = grind arith

finalized_now : (b : Bank) (tag : Tag) (now : ℕ) → IsBefore b now → HasFinalized (collected (finalized b tag now)) tag now
finalized_now b tag now before =
    ap (λ o. came_by o now) (finalized_at-collected (finalized b tag now) tag ∙ finalized_at-finalized b tag now tag
    ∙ ap (λ c. cond c (since (finalized_at b tag) now) (finalized_at b tag)) (tag_eq-same tag))
    ∙ since_by (finalized_at b tag) now (before.finalized tag)

-- each answer is true; that to a query where the opening tag is finalized
pub served_truth : (b : Bank) (q : Request) (now : ℕ) → IsBefore b now → (q ≡ request.Query → IsSome (finalized_at b opening_tag))
    → IsCollected b → IsTrueAnswer (served_bank b q now) now (kind_of q) (answer_to b q)
served_truth b request.Next now before opening kept = pointer_now b now before
served_truth b (request.Spread s) now before opening kept = raised_reaches b s now before
served_truth b request.Query now before opening kept =
    let is = greatest_final_is b (opening refl) in (
      earlier_by (finalized_at b (greatest_final b)) now (before.finalized (greatest_final b)) ∙ is.final,
      λ other has. is.greatest other (sym (earlier_by (finalized_at b other) now (before.finalized other)) ∙ has),
    )
served_truth b (request.PreWrite tag piece) now before opening kept =
    ap (λ o. came_by o now) (arrived_at-collected (pre_written b tag piece now) tag ∙ arrived_at-pre_written b tag now tag piece
    ∙ ap (λ c. cond c (since (arrived_at b tag) now) (arrived_at b tag)) (tag_eq-same tag))
    ∙ since_by (arrived_at b tag) now (before.arrived tag)
served_truth b (request.Finalize tag) now before opening kept = finalized_now b tag now before
served_truth b (request.Fetch tag) now before opening kept = (
  finalized_now b tag now before,
  fetched_truth b tag now before kept (grows_order b (finalized b tag now) now (suc now)
      (grows_finalized b tag now) (omega arith) before),
)

-- each request is rightly served
pub served : (b : Bank) (q : Request) (now : ℕ) → IsBefore b now → (q ≡ request.Query → IsSome (finalized_at b opening_tag))
    → IsCollected b → IsServed b (served_bank b q now) now (kind_of q) (answer_to b q)
served b q now before opening kept = record {
  past = grows_past b (served_bank b q now) now (served_grows b q now);
  order = λ later after. grows_order b (served_bank b q now) now later (served_grows b q now) after before;
  truth = served_truth b q now before opening kept;
  collected = served_collected b q now kept;
}

-- the bank that a served request leaves, and its answer
pub served_as : (b new : Bank) (q : Request) (now : ℕ) (a : Answer) → new ≡ served_bank b q now → a ≡ answer_to b q
    → (q ≡ request.Query → IsSome (finalized_at b opening_tag)) → IsCollected b → IsBefore b now → IsServed b new now (kind_of q) a
served_as b new q now a left told opening kept before =
    subst (λ new. IsServed b new now (kind_of q) a) (sym left)
    (subst (λ a. IsServed b (served_bank b q now) now (kind_of q) a) (sym told) (served b q now before opening kept))

-- a bank that was just opened
pub opened_before : (point : ℕ) (delta : Option ℕ) (now later : ℕ) → now < later → IsBefore (opened_bank point delta now) later
opened_before point delta now later after = record {
  finalized = λ tag. first row_finalized refl tag refl;
  arrived = λ tag. first row_arrived refl tag refl;
  pending = λ step is. absurd (cc);
  final = λ step is. absurd (cc);
  retired = λ step is. absurd (cc);
}
  where
    first : (g : Option Row → Option ℕ) → g (Some (opening_row point now)) ≡ Some now → (tag : Tag) → g None ≡ None
        → IsEarlier (g (map.get (opened_bank point delta now).rows tag)) later
    first g here tag none step is =
        pick (tag_eq tag opening_tag) (sym (ap g (get-with_row map.empty opening_tag (λ o. opening_row point now) tag)) ∙ is)
      where
        pick : (c : Bool) → g (cond c (Some (opening_row point now)) (map.get (map.empty {X =
            Row} {R = tag_cmp}) tag)) ≡ Some step → step < later
        pick true is = let now_is = same_Some now step (sym here ∙ is) in omega arith
        pick false is = absurd (let no : None ≡ Some step = sym none ∙ sym (ap g (map.get-empty tag_cmp tag)) ∙ is in cc)
