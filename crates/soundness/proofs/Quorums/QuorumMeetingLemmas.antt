-- What a later quorum meets of an earlier one: tags that were put, pointers that were spread.
use Rattle.std.proofs.Common.{◌≡◌, ℕ, ◌<◌, ◌≤◌, true, List, length}
use Rattle.std.proofs.Common.{Some, subst, ap, ◌∙◌, arith, le_trans}
use Rattle.std.proofs.lemmas.List.{length-map}
use Rattle.std.specs.List.{AllByRecursion}
use Rattle.tag.specs.declared.tag.Tag.{Tag}
use Rattle.layout.specs.Quorum.{has, IsQuorum}
use Rattle.layout.specs.Layout.{IsLawful}
use Rattle.bank.specs.declared.status.Status.{Status}
use Rattle.bank.specs.Bank.{Bank}
use Rattle.bank.specs.declared.reply.Answer.{Answer}
use Rattle.mail.specs.declared.phase.Taken.{Taken}
use Rattle.mail.specs.Phase.{Phase, members_of}
use Rattle.record.specs.Records.{Object, layout_at, bank_at}
use Rattle.bank.specs.declared.status.Status.TheVariants.{Unset, Final}
use Rattle.bank.specs.declared.kind.Kind.TheVariants.{Next, Spread, Query, Finalize, Fetch}
use Rattle.bank.specs.Knowledge.{finalized_at, HasFinalized, pointer_at, IsTrueAnswer}
use Rattle.record.specs.Knowledge.{IsTrueReply, IsTruePhase}
use Rattle.record.specs.PhaseOrder.{shown_status, shown_tag, greatest_status, greatest_tag}
use Rattle.soundness.proofs.Quorums.ReplyTruthLemmas.{came_by_later, pointer_later, all_at, all_get_or, all_members, reply_at, true_next}
use Rattle.soundness.proofs.Quorums.ReplyTruthLemmas.{true_spread, true_query, true_fin, true_fetch, statuses_below, tags_below}
use Rattle.soundness.proofs.Quorums.ReplyTruthLemmas.{final_shown}
use Rattle.soundness.proofs.Quorums.CommonMemberLemmas.{quorums_meet}
use Rattle.soundness.proofs.ListLemmas.{all_pairs, all_map, all_both}
use Rattle.soundness.proofs.StatusOrderLemmas.{rank}
use Rattle.record.proofs.TagOrderLemmas.{IsAtMost, at_most_refl, at_most_trans}

-- Facts of a quorum. A quorum of the position had finalized the tag by the step
pub record Stored (object : Object) (position : ℕ) (tag : Tag) (step : ℕ) : Type 0 where
  pub members : List ℕ
  pub quorum : IsQuorum (layout_at object position) members
  pub all : AllByRecursion (λ i. HasFinalized (bank_at object position i) tag step) members

-- a quorum of the position had a pointer by the step
pub record Pointed (object : Object) (position : ℕ) (step : ℕ) : Type 0 where
  pub members : List ℕ
  pub quorum : IsQuorum (layout_at object position) members
  pub all : AllByRecursion (λ i. 1 ≤ rank (pointer_at (bank_at object position i) step)) members

-- some member of the position had a final pointer by the step
abbrev pub SeenFinal : Object → ℕ → ℕ → Type 0
SeenFinal object position step = (i : ℕ) × (pointer_at (bank_at object position i) step ≡ Final)

pub stored_later : (object : Object) (position : ℕ) (tag : Tag) (s u : ℕ) → s ≤ u → Stored object position tag s →
    Stored object position tag u
stored_later object position tag s u h stored = grind (arith, all_map, came_by_later)

pub pointed_later : (object : Object) (position : ℕ) (s u : ℕ) → s ≤ u → Pointed object position s → Pointed object position u
pointed_later object position s u h pointed = grind (arith, all_map, le_trans, pointer_later)

pub final_later : (object : Object) (position : ℕ) (s u : ℕ) → s ≤ u → SeenFinal object position s → SeenFinal object position u
final_later object position s u h seen = grind arith

-- a complete phase
pub lawful_at : (object : Object) (position : ℕ) → AllByRecursion IsLawful object.layouts → position < length object.layouts →
    IsLawful (layout_at object position)
lawful_at object position all h = all_get_or IsLawful object.layouts position _ h all

pub phase_quorum : (object : Object) (phase : Phase) (end : ℕ) → IsTruePhase object phase → phase.end ≡ Some end →
    IsQuorum (layout_at object phase.position) (members_of phase.replies)
phase_quorum object phase end truth e = grind (arith, all_map, all_members, length-map)

-- what each true answer says, and lasts, each member of the quorum knew at the end
pub phase_knows : (object : Object) (phase : Phase) (end : ℕ) (Known : Bank → ℕ → Type 0) →
    ((bank : Bank) (s u : ℕ) → s ≤ u → Known bank s → Known bank u) →
    ((bank : Bank) (made : ℕ) (answer : Answer) → IsTrueAnswer bank made phase.kind answer → Known bank made) →
    IsTruePhase object phase → phase.end ≡ Some end →
    AllByRecursion (λ i. Known (bank_at object phase.position i) end) (members_of phase.replies)
phase_knows object phase end Known lasts says truth e = grind (arith, all_both, all_members)

-- a member of any quorum answered the phase, after its start
phase_meets : (object : Object) (phase : Phase) (end : ℕ) (members : List ℕ) (P : Taken → Type 0) →
    AllByRecursion IsLawful object.layouts → IsTruePhase object phase → phase.end ≡ Some end →
    IsQuorum (layout_at object phase.position) members → AllByRecursion P phase.replies →
    (reply : Taken) × (IsTrueReply object phase reply × P reply) × (has members reply.member ≡ true)
phase_meets object phase end members P lawful truth e quorate all =
    grind (arith, all_pairs, lawful_at, phase_quorum, quorums_meet, reply_at)

-- what a complete phase shows, by its kind

stored_by : (object : Object) (phase : Phase) (end : ℕ) (tag : Tag) →
    ((bank : Bank) (made : ℕ) (answer : Answer) → IsTrueAnswer bank made phase.kind answer → HasFinalized bank tag made) →
    IsTruePhase object phase → phase.end ≡ Some end → Stored object phase.position tag end
stored_by object phase end tag says truth e = record {
  members = members_of phase.replies;
  quorum = phase_quorum object phase end truth e;
  all = phase_knows object phase end (λ bank step. HasFinalized bank tag step)
      (λ bank s u h k. came_by_later (finalized_at bank tag) s u h k) says truth e;
}

pub stored_by_fin : (object : Object) (phase : Phase) (end : ℕ) (tag : Tag) → phase.kind ≡ Finalize tag →
    IsTruePhase object phase → phase.end ≡ Some end → Stored object phase.position tag end
stored_by_fin object phase end tag k truth e = grind (arith, stored_by, true_fin)

pub stored_by_fetch : (object : Object) (phase : Phase) (end : ℕ) (tag : Tag) → phase.kind ≡ Fetch tag →
    IsTruePhase object phase → phase.end ≡ Some end → Stored object phase.position tag end
stored_by_fetch object phase end tag k truth e = grind (arith, stored_by, true_fetch)

pub pointed_by_spread : (object : Object) (phase : Phase) (end : ℕ) (status : Status) → phase.kind ≡ Spread status →
    1 ≤ rank status → IsTruePhase object phase → phase.end ≡ Some end → Pointed object phase.position end
pointed_by_spread object phase end status k some truth e = record {
  members = members_of phase.replies;
  quorum = phase_quorum object phase end truth e;
  all = phase_knows object phase end (λ bank step. 1 ≤ rank (pointer_at bank step))
      (λ bank s u h r. le_trans r (pointer_later bank s u h))
      (λ bank made answer h. le_trans some (true_spread status bank made answer (subst (λ kind. IsTrueAnswer bank made kind answer) k h)))
      truth e;
}

-- a query's greatest tag is at least any that was stored at its start
pub query_finds : (object : Object) (phase : Phase) (end : ℕ) → phase.kind ≡ Query → AllByRecursion IsLawful object.layouts →
    IsTruePhase object phase → phase.end ≡ Some end → (tag : Tag) → Stored object phase.position tag phase.start →
    IsAtMost tag (greatest_tag phase.replies)
query_finds object phase end k lawful truth e tag stored =
    let top = greatest_tag phase.replies in
    let met = phase_meets object phase end stored.members
    (λ reply. IsAtMost (shown_tag reply.reply.answer) top) lawful truth e stored.quorum
    (tags_below top phase.replies (at_most_refl top)) in
    let reply = met.0 in
    let bank = bank_at object phase.position reply.member in
    let known : HasFinalized bank tag reply.reply.step =
    came_by_later (finalized_at bank tag) phase.start reply.reply.step (let h = met.1.0.after_start in omega arith)
    (all_at (λ i. HasFinalized (bank_at object phase.position i) tag phase.start) stored.members reply.member stored.all met.2) in
    at_most_trans tag (shown_tag reply.reply.answer) top
    (true_query bank reply.reply.step reply.reply.answer
    (subst (λ kind. IsTrueAnswer bank reply.reply.step kind reply.reply.answer) k met.1.0.says) tag
    known) met.1.1

-- a reading that finds no pointer shows that no quorum had one at its start
pub none_pointed : (object : Object) (phase : Phase) (end : ℕ) → phase.kind ≡ Next → AllByRecursion IsLawful object.layouts →
    IsTruePhase object phase → phase.end ≡ Some end → greatest_status phase.replies ≡ Unset →
    Pointed object phase.position phase.start → ⊥
none_pointed object phase end k lawful truth e none pointed =
    let met = phase_meets object phase end pointed.members
    (λ reply. rank (shown_status reply.reply.answer) ≤ 0) lawful truth e pointed.quorum
    (statuses_below 0 phase.replies (let z : rank (greatest_status phase.replies) ≡ 0 = ap rank none in omega arith)) in
    let reply = met.0 in
    let bank = bank_at object phase.position reply.member in
    let before = all_at (λ i. 1 ≤ rank (pointer_at (bank_at object phase.position i) phase.start)) pointed.members reply.member
    pointed.all met.2 in
    let later = pointer_later bank phase.start reply.reply.step (let h = met.1.0.after_start in omega arith) in
    let shown = ap rank (true_next bank reply.reply.step reply.reply.answer
    (subst (λ kind. IsTrueAnswer bank reply.reply.step kind reply.reply.answer) k met.1.0.says)) in
    omega (arith, met.1.1)

-- a reading that finds a final pointer
pub final_found : (object : Object) (phase : Phase) (end : ℕ) → phase.kind ≡ Next →
    IsTruePhase object phase → phase.end ≡ Some end → greatest_status phase.replies ≡ Final → SeenFinal object phase.position end
final_found object phase end k truth e final =
    let found = final_shown (λ reply. IsTrueReply object phase reply × (reply.step ≤ end)) phase.replies final
    (all_pairs (IsTrueReply object phase) (λ reply. reply.step ≤ end) phase.replies truth.replies ((truth.complete end e).1)) in
    let reply = found.0 in
    let bank = bank_at object phase.position reply.member in
    final_later object phase.position reply.reply.step end (let order = found.1.0.in_order in let late = found.1.1 in omega arith) (
      reply.member,
      true_next bank reply.reply.step reply.reply.answer
          (subst (λ kind. IsTrueAnswer bank reply.reply.step kind reply.reply.answer) k found.1.0.says) ∙ found.2,
    )

-- a phase ends after it starts
pub start_before_end : (object : Object) (phase : Phase) (end : ℕ) → AllByRecursion IsLawful object.layouts →
    IsTruePhase object phase → phase.end ≡ Some end → phase.start ≤ end
start_before_end object phase end lawful truth e =
    let met = phase_meets object phase end (members_of phase.replies) (λ reply. reply.step ≤ end) lawful truth e
    (phase_quorum object phase end truth e)
    ((truth.complete end e).1) in
    let after_start = met.1.0.after_start in
    let in_order = met.1.0.in_order in
    let in_time = met.1.1 in
    omega arith
