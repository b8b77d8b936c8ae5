-- Tags that each later quorum meets, and what a complete phase then shows of them.
use Rattle.std.proofs.Common.{◌≡◌, ℕ, ◌≤◌, true, List, Some, sym, subst, arith}
use Rattle.std.specs.List.{AllByRecursion}
use Rattle.tag.specs.declared.tag.Tag.{Tag}
use Rattle.layout.specs.Layout.{IsLawful}
use Rattle.layout.specs.Quorum.{has, IsQuorum}
use Rattle.bank.specs.declared.kind.Kind.TheVariants.{Query}
use Rattle.bank.specs.Knowledge.{finalized_at, HasFinalized, IsTrueAnswer}
use Rattle.mail.specs.declared.phase.Taken.{Taken}
use Rattle.mail.specs.Phase.{Phase, members_of}
use Rattle.record.specs.Records.{Object, layout_at, bank_at}
use Rattle.record.specs.Knowledge.{IsTrueReply, IsTruePhase}
use Rattle.record.specs.PhaseOrder.{shown_tag, greatest_tag}
use Rattle.soundness.proofs.ListLemmas.{all_pairs}
use Rattle.soundness.proofs.Quorums.CommonMemberLemmas.{quorums_meet}
use Rattle.soundness.proofs.Quorums.QuorumMeetingLemmas as quorums
use Rattle.soundness.proofs.Quorums.ReplyTruthLemmas.{came_by_later, all_at, reply_at, true_query, tags_below}
use Rattle.record.proofs.TagOrderLemmas.{IsAtMost, at_most_refl, at_most_trans}

-- each quorum of the position has a member that had finalized the tag by the step
pub record Stored (object : Object) (position : ℕ) (tag : Tag) (step : ℕ) : Type 0 where
  pub meets : (members : List ℕ) → IsQuorum (layout_at object position) members →
      (i : ℕ) × (has members i ≡ true) × HasFinalized (bank_at object position i) tag step

pub stored_later : (object : Object) (position : ℕ) (tag : Tag) (s u : ℕ) → s ≤ u → Stored object position tag s →
    Stored object position tag u
stored_later object position tag s u h stored = record {
  meets = λ members quorum.
      let met = stored.meets members quorum in
      (met.0, met.1, came_by_later (finalized_at (bank_at object position met.0) tag) s u h met.2);
}

-- a tag that a quorum had finalized is stored
pub stored_at_quorum : (object : Object) (position : ℕ) (tag : Tag) (step : ℕ) → IsLawful (layout_at object position) →
    quorums.Stored object position tag step → Stored object position tag step
stored_at_quorum object position tag step lawful stored = record {
  meets = λ members quorum.
      let met = quorums_meet (layout_at object position) stored.members members lawful stored.quorum quorum in (
        met.0,
        met.2,
        all_at (λ i. HasFinalized (bank_at object position i) tag step) stored.members met.0 stored.all met.1,
      );
}

-- a member that replied to a complete phase had finalized a tag that was stored at its start
pub reply_knows : (object : Object) (phase : Phase) (end : ℕ) (P : Taken → Type 0) → IsTruePhase object phase →
    phase.end ≡ Some end → AllByRecursion P phase.replies → (tag : Tag) → Stored object phase.position tag phase.start →
    (reply : Taken) × (IsTrueReply object phase reply × P reply)
    × HasFinalized (bank_at object phase.position reply.member) tag reply.reply.step
reply_knows object phase end P truth e all tag stored =
    let met = stored.meets (members_of phase.replies) (quorums.phase_quorum object phase end truth e) in
    let there = reply_at (λ reply. IsTrueReply object phase reply × P reply) phase.replies met.0
    (all_pairs (IsTrueReply object phase) P phase.replies truth.replies all) met.1 in
    let reply = there.0 in (
      reply,
      there.1,
      came_by_later (finalized_at (bank_at object phase.position reply.member) tag) phase.start reply.reply.step
          (let h = there.1.0.after_start in omega arith)
          (subst (λ i. HasFinalized (bank_at object phase.position i) tag phase.start) (sym there.2) met.2),
    )

-- a query's greatest tag is at least any that was stored at its start
pub query_finds : (object : Object) (phase : Phase) (end : ℕ) → phase.kind ≡ Query → IsTruePhase object phase →
    phase.end ≡ Some end → (tag : Tag) → Stored object phase.position tag phase.start →
    IsAtMost tag (greatest_tag phase.replies)
query_finds object phase end k truth e tag stored =
    let top = greatest_tag phase.replies in
    let met = reply_knows object phase end (λ reply. IsAtMost (shown_tag reply.reply.answer) top) truth e
    (tags_below top phase.replies (at_most_refl top)) tag stored in
    let reply = met.0 in
    let bank = bank_at object phase.position reply.member in
    at_most_trans tag (shown_tag reply.reply.answer) top
    (true_query bank reply.reply.step reply.reply.answer
    (subst (λ kind. IsTrueAnswer bank reply.reply.step kind reply.reply.answer) k met.1.0.says) tag met.2) met.1.1
