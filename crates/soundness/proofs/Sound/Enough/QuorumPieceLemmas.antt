-- What the banks of a position had once a phase there was complete.
use Rattle.std.proofs.Common.{◌≡◌, ℕ, ◌≤◌, ◌⊎◌, List, [], ◌∷◌, Some, refl, subst, inl, inr, arith}
use Rattle.std.proofs.lemmas.Bool.{cond_both}
use Rattle.std.specs.List.{AllByRecursion}
use Rattle.tag.specs.declared.tag.Tag.{Tag}
use Rattle.tag.specs.Tag.{opening_tag, later_tag, tag_lt}
use Rattle.layout.specs.Quorum.{IsQuorum}
use Rattle.bank.specs.declared.kind.Kind.{Kind}
use Rattle.bank.specs.declared.reply.Answer.{Answer}
use Rattle.mail.specs.declared.phase.Taken.{Taken}
use Rattle.mail.specs.Phase.{Phase, members_of}
use Rattle.record.specs.Records.{Object, layout_at, bank_at}
use Rattle.bank.specs.Bank.{Bank}
use Rattle.bank.specs.declared.kind.Kind.TheVariants.{Query, PreWrite}
use Rattle.bank.specs.Knowledge.{finalized_at, arrived_at, HasFinalized, HadPiece, IsTrueAnswer}
use Rattle.record.specs.Knowledge.{IsTruePhase}
use Rattle.record.specs.PhaseOrder.{shown_tag, greatest_tag}
use Rattle.bank.specs.declared.reply.Answer.TheVariants as answer
use Rattle.soundness.proofs.Quorums.QuorumMeetingLemmas.{phase_knows, phase_quorum}
use Rattle.soundness.proofs.Quorums.ReplyTruthLemmas.{came_by_later}
use Rattle.soundness.proofs.ListLemmas.{all_map, all_both}

-- a quorum of the position had pieces of the tag by the step
pub record Had (object : Object) (position : ℕ) (tag : Tag) (step : ℕ) : Type 0 where
  pub members : List ℕ
  pub is_quorum : IsQuorum (layout_at object position) members
  pub all : AllByRecursion (λ i. HadPiece (bank_at object position i) tag step) members

pub had_later : (object : Object) (position : ℕ) (tag : Tag) (s u : ℕ) → s ≤ u → Had object position tag s →
    Had object position tag u
had_later object position tag s u h had = grind (arith, all_map, came_by_later)

-- the tag was finalized at some member, or is the opening one
abbrev pub Somewhere : Object → ℕ → Tag → ℕ → Type 0
Somewhere object position tag step = (tag ≡ opening_tag) ⊎ ((i : ℕ) × HasFinalized (bank_at object position i) tag step)

pub somewhere_later : (object : Object) (position : ℕ) (tag : Tag) (s u : ℕ) → s ≤ u → Somewhere object position tag s →
    Somewhere object position tag u
somewhere_later object position tag s u h known = grind arith

-- what a complete phase says of pieces
pub record Says (object : Object) (kind : Kind) (position end : ℕ) (replies : List Taken) : Type 0 where
  pub brought : (tag : Tag) → kind ≡ PreWrite tag → Had object position tag end
  pub shown : kind ≡ Query → Somewhere object position (greatest_tag replies) end

true_pre : (tag : Tag) (bank : Bank) (made : ℕ) (answer : Answer) → IsTrueAnswer bank made (PreWrite tag) answer →
    HadPiece bank tag made
true_pre tag bank made answer h = grind arith

true_shown : (bank : Bank) (made : ℕ) (answer : Answer) → IsTrueAnswer bank made Query answer →
    HasFinalized bank (shown_tag answer) made
true_shown bank made answer h = grind arith

later_is : (a b : Tag) (P : Tag → Type 0) → P a → P b → P (later_tag a b)
later_is a b P p q = cond_both (tag_lt a b) b a P (λ e. q) (λ e. p)

pub greatest_is : (P : Tag → Type 0) (replies : List Taken) → P opening_tag →
    AllByRecursion (λ reply. P (shown_tag reply.reply.answer)) replies → P (greatest_tag replies)
greatest_is P [] opening all = opening
greatest_is P (reply ∷ replies) opening all =
    later_is (shown_tag reply.reply.answer) (greatest_tag replies) P all.0 (greatest_is P replies opening all.1)

pub says_of : (object : Object) (phase : Phase) (end : ℕ) → IsTruePhase object phase → phase.end ≡ Some end →
    Says object phase.kind phase.position end phase.replies
says_of object phase end truth e = record {
  brought = λ tag k. record {
    members = members_of phase.replies;
    is_quorum = phase_quorum object phase end truth e;
    all = phase_knows object phase end (λ bank s. HadPiece bank tag s) (λ bank s u h. came_by_later (arrived_at bank tag) s u h)
        (λ bank made answer is. true_pre tag bank made answer (subst (λ kind. IsTrueAnswer bank made kind answer) k is)) truth e;
  };
  shown = λ k. greatest_is (λ tag. Somewhere object phase.position tag end) phase.replies (inl refl)
      (all_both (λ reply r late. inr (
        reply.member,
        came_by_later (finalized_at (bank_at object phase.position reply.member) (shown_tag reply.reply.answer)) reply.reply.step end
            (let order = r.in_order in omega arith)
            (true_shown (bank_at object phase.position reply.member) reply.reply.step reply.reply.answer
            (subst (λ kind. IsTrueAnswer (bank_at object phase.position reply.member) reply.reply.step kind reply.reply.answer) k r.says)),
      )) _ truth.replies (truth.complete end e).1);
}
