-- A closed bank answers as the whole bank to which it belongs, and goes on belonging to it.
use Rattle.std.proofs.Common.{◌≡◌, ℕ, false, ◌↔◌, Option, Some, None, IsSome, option_map, sym, ap, ◌∙◌, refl, arith}
use Rattle.std.proofs.lemmas.Option.{same_Some}
use Rattle.std.proofs.lemmas.Bool.Decides.{nat_tests}
use Rattle.tag.specs.declared.tag.Tag.{Tag}
use Rattle.tag.specs.Tag.{tag_lt, later_tag, opening_tag}
use Rattle.bank.specs.declared.reply.Answer.{Answer}
use Rattle.bank.specs.declared.reply.Answer.TheVariants as answer
use Rattle.bank.specs.declared.reply.Reply.{Reply}
use Rattle.bank.specs.declared.request.Request.{Request}
use Rattle.bank.specs.declared.request.Request.TheVariants as request
use Rattle.bank.specs.declared.status.Status.{Status}
use Rattle.bank.specs.declared.status.Status.TheVariants as status
use Rattle.bank.specs.declared.status.Pointer.{Pointer}
use Rattle.bank.specs.Bank.{Bank, opened_bank, pre_written, finalized, with_pointer}
use Rattle.bank.specs.Collect.{collected}
use Rattle.bank.specs.Floor.{remembered}
use Rattle.bank.specs.Pointer.{raised, status_of}
use Rattle.bank.specs.Serve.{answer_to, reply_to, greatest_final, served_bank}
use Rattle.bank.proofs.GreatestTagLemmas.{greatest-opened}
use Rattle.bank.proofs.RememberedReplyLemmas.{greatest-remembered}
use Rattle.closed_bank.specs.ClosedBank.{ClosedBank, IsClosedFor, closed_if, closed_of}
use Rattle.closed_bank.specs.Serve.{closed_after, closed_answer, closed_reply, reply_at}
use Rattle.closed_bank.specs.Restore.{all_served, requests_to_closed}
use Rattle.closed_bank.proofs.GreatestTagLemmas.{greatest-finalized, greatest-pre_written, greatest-collected}

-- What a bank closes to

closed_if-final : (s : Status) (tag : Tag) (closed : ClosedBank)
    → closed_if s tag ≡ Some closed → (s ≡ status.Final) × (tag ≡ closed.greatest)
closed_if-final s tag closed is = grind arith

pub closes_for : (whole : Bank) (closed : ClosedBank) → (closed_of whole ≡ Some closed) ↔ IsClosedFor whole closed
closes_for whole closed = (
  (λ is. let parts = closed_if-final (status_of whole.pointer) (greatest_final whole) closed is in
      record { final = parts.0; greatest = parts.1 }),
  (λ it. ap (λ s. closed_if s (greatest_final whole)) it.final
      ∙ ap (λ tag. let c : ClosedBank = record { greatest = tag } in Some c) it.greatest),
)

-- what a bank forgets makes no difference
pub closed-remembered : (whole : Bank) → closed_of (remembered whole) ≡ closed_of whole
closed-remembered whole = ap (closed_if (status_of whole.pointer)) (greatest-remembered whole)

-- What it answers

module _ (whole : Bank) (closed : ClosedBank) (it : IsClosedFor whole closed) where
  pub same_answer : (q : Request) (told : Answer) → closed_answer closed q ≡ Some told → told ≡ answer_to whole q
  same_answer request.Next told is = sym (same_Some (answer.Pointer status.Final) told is) ∙ ap answer.Pointer (sym it.final)
  same_answer (request.Spread s) told is = sym (same_Some answer.Done told is)
  same_answer request.Query told is =
      sym (same_Some (answer.Greatest closed.greatest) told is) ∙ ap answer.Greatest (sym it.greatest)
  same_answer (request.PreWrite tag piece) told is = sym (same_Some answer.Done told is)
  same_answer (request.Finalize tag) told is = sym (same_Some answer.Done told is)
  same_answer (request.Fetch tag) told is = absurd (cc)

  pub same_reply : (q : Request) (now : ℕ) (sent : Reply) → closed_reply closed q now ≡ Some sent → sent ≡ reply_to whole q now
  same_reply q now sent is = pick (closed_answer closed q) (λ told said. same_answer q told said) is
    where
      pick : (o : Option Answer) → ((told : Answer) → o ≡ Some told → told ≡ answer_to whole q)
          → option_map (reply_at now) o ≡ Some sent → sent ≡ reply_to whole q now
      pick None same is = absurd (cc)
      pick (Some told) same is = sym (same_Some (reply_at now told) sent is) ∙ ap (reply_at now) (same told refl)

  -- What it becomes

  raised-final : (p : Pointer) (s : Status) (now : ℕ) → status_of p ≡ status.Final → status_of (raised p s now) ≡ status.Final
  raised-final p s now final = grind arith

  -- a bank that finalizes a tag has the later of it and of what was the greatest
  finalized-later : (tag : Tag) (now : ℕ) → greatest_final (collected (finalized whole tag now)) ≡ later_tag closed.greatest tag
  finalized-later tag now =
      greatest-collected (finalized whole tag now) ∙ greatest-finalized whole tag now ∙ ap (λ g. later_tag g tag) it.greatest

  pub stays_closed : (q : Request) (now : ℕ) → IsSome (closed_answer closed q)
      → IsClosedFor (served_bank whole q now) (closed_after closed q)
  stays_closed request.Next now some = it
  stays_closed (request.Spread s) now some = record { final = raised-final whole.pointer s now it.final; greatest = it.greatest }
  stays_closed request.Query now some = it
  stays_closed (request.PreWrite tag piece) now some = record {
    final = it.final;
    greatest = greatest-collected (pre_written whole tag piece now) ∙ greatest-pre_written whole tag now piece ∙ it.greatest;
  }
  stays_closed (request.Finalize tag) now some = record { final = it.final; greatest = finalized-later tag now }
  stays_closed (request.Fetch tag) now some = absurd (cc)

  later_is : (s t : Tag) → (later_tag s t ≡ s) ↔ (tag_lt s t ≡ false)
  later_is s t = ((λ is. grind (arith, nat_tests)), (λ is. grind (arith, nat_tests)))

  pub fetched_elsewhere : (tag : Tag) (now : ℕ)
      → IsClosedFor (served_bank whole (request.Fetch tag) now) closed ↔ (tag_lt closed.greatest tag ≡ false)
  fetched_elsewhere tag now = (
    (λ after. (later_is closed.greatest tag).0 (sym (finalized-later tag now) ∙ after.greatest)),
    (λ not_above. record { final = it.final; greatest = finalized-later tag now ∙ (later_is closed.greatest tag).1 not_above }),
  )

-- what is declined changes nothing
pub declined_same : (closed : ClosedBank) (q : Request) → closed_answer closed q ≡ None → closed_after closed q ≡ closed
declined_same closed request.Next none = refl
declined_same closed (request.Spread s) none = refl
declined_same closed request.Query none = refl
declined_same closed (request.PreWrite tag piece) none = refl
declined_same closed (request.Finalize tag) none = absurd (cc)
declined_same closed (request.Fetch tag) none = refl

-- How it comes back

-- a bank with a final pointer and no finalized tag but the opening one closes, once it finalizes a tag, with that tag
closes_with : (bank : Bank) (now : ℕ) (closed : ClosedBank) → IsClosedFor bank (record { greatest = opening_tag })
    → closed_of (served_bank bank (request.Finalize closed.greatest) now) ≡ Some closed
closes_with bank now closed opened =
    (closes_for (served_bank bank (request.Finalize closed.greatest) now) (record { greatest = later_tag opening_tag closed.greatest })).1
    (stays_closed bank (record { greatest = opening_tag }) opened (request.Finalize closed.greatest) now refl)
    ∙ ap (λ tag. let c : ClosedBank = record { greatest = tag } in Some c) (from_opening closed.greatest)
  where
    from_opening : (tag : Tag) → later_tag opening_tag tag ≡ tag
    from_opening tag = grind (arith, nat_tests)

module _ (point : ℕ) (delta : Option ℕ) (now : ℕ) (closed : ClosedBank) where
  abbrev raised_bank : Bank
  raised_bank = with_pointer (opened_bank point delta now) (raised (opened_bank point delta now).pointer status.Final now)

  pub comes_back : closed_of (all_served (λ b q. served_bank b q now) (opened_bank point delta now) (requests_to_closed closed))
      ≡ Some closed
  comes_back = closes_with raised_bank now closed (record { final = refl; greatest = greatest-opened point delta now })

  pub comes_back_short : closed_of (all_served (λ b q. remembered (served_bank b q now)) (opened_bank point delta now)
      (requests_to_closed closed)) ≡ Some closed
  comes_back_short =
      closed-remembered (served_bank (remembered raised_bank) (request.Finalize closed.greatest) now)
      ∙ closes_with (remembered raised_bank) now closed
      (record { final = refl; greatest = greatest-remembered raised_bank ∙ greatest-opened point delta now })
