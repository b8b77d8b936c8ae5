-- What was told, and answers, in another course of the world; and all nodes where one of them changed.
use Rattle.std.proofs.Common.{◌≡◌, ℕ, Bool, true, false, cond, eqb, eqb-true, eq-eqb, List, [], ◌∷◌}
use Rattle.std.proofs.Common.{None, Some, filter, refl, sym, subst, ap, ◌∙◌}
use Rattle.std.specs.List.{AllByRecursion}
use Rattle.mail.specs.declared.message.Message.{Message}
use Rattle.record.specs.Fragments.{Code}
use Rattle.soundness.proofs.ListLemmas.{all_weaker}
use Rattle.letter.specs.declared.letter.Letter.{Letter}
use Rattle.letter.specs.declared.telling.Telling.{Telling}
use Rattle.open_calls.specs.OpenCalls.{NodeCall, NodeCallsDiffer, open_call}
use Rattle.open_calls.proofs.CallsOfNodeLemmas.{calls_of, only_one}
use Rattle.local_object.specs.declared.report.Report.{Report}
use Rattle.local_object.specs.Local.{LocalObject}
use Rattle.told_replies.specs.EarlyAnswers.{EarlyAnswer, early_answer_to}
use Rattle.told_queries.specs.Courses.{Course, WasToldIn}
use Rattle.refinement.specs.Systems.{with_object_at}
use Rattle.refinement.specs.ToldLetters.{IsTrueReport, IsTrueTelling, TellsTruth}

-- What was told

module _ (fragment : Code) (course other : Course)
    (still : (request : Message) (telling : Telling) → WasToldIn fragment course request telling → WasToldIn fragment other request telling)
  where
    truth_there : (call phase member : ℕ) (telling : Telling) → IsTrueTelling fragment course call phase member telling →
        IsTrueTelling fragment other call phase member telling
    truth_there call phase member telling is = record {
      request = is.request;
      whole = is.whole;
      told = still is.request is.whole is.told;
      less = is.less;
      same_call = is.same_call;
      same_phase = is.same_phase;
      same_member = is.same_member;
    }

    pub letter_there : (letter : Letter) → TellsTruth fragment course letter → TellsTruth fragment other letter
    unfolding truth_there
    letter_there letter tells telling told =
        let truth = tells telling told in
        (truth_there letter.message.call letter.message.phase letter.message.member telling truth.0, truth.1)

    pub report_there : (report : Report) → IsTrueReport fragment course report → IsTrueReport fragment other report
    report_there report is = truth_there report.call report.phase report.member report.telling is

-- answers to other calls, where the call with this id had none
pub none_to : (answers : List EarlyAnswer) (id : ℕ) → early_answer_to answers id ≡ None →
    AllByRecursion (λ answer. answer.id ≡ id → ⊥) answers
none_to [] id e = tt
none_to (answer ∷ answers) id e = go (eqb answer.id id) refl e (none_to answers id)
  where
    go : (b : Bool) → eqb answer.id id ≡ b → cond b (Some answer) (early_answer_to answers id) ≡ None →
        (early_answer_to answers id ≡ None → AllByRecursion (λ (a : EarlyAnswer). a.id ≡ id → ⊥) answers) →
        AllByRecursion (λ (a : EarlyAnswer). a.id ≡ id → ⊥) (answer ∷ answers)
    go true t is rest = absurd (cc)
    go false t is rest =
        (λ same. absurd (let wrong : false ≡ true = sym t ∙ eq-eqb answer.id id same in cc), rest is)

-- All nodes, where one changed

-- what is so of what this node keeps, and of what the others keep
pub at_each : (P : ℕ → LocalObject → Type 0) (objects : ℕ → LocalObject) (node : ℕ) (local : LocalObject) → P node local →
    ((other : ℕ) → (other ≡ node → ⊥) → P other (objects other)) → (other : ℕ) → P other (with_object_at objects node local other)
at_each P objects node local here there other = go (eqb other node) refl
  where
    go : (b : Bool) → eqb other node ≡ b → P other (cond b local (objects other))
    go true e = subst (λ n. P n local) (sym (eqb-true other node e)) here
    go false e = there other (λ same. absurd (let wrong : false ≡ true = sym e ∙ eq-eqb other node same in cc))

all_passing : (P : NodeCall → Type 0) (test : NodeCall → Bool) (calls : List NodeCall) →
    AllByRecursion (λ call. test call ≡ true → P call) calls → AllByRecursion P (filter test calls)
all_passing P test [] all = tt
all_passing P test (first ∷ calls) all = go (test first) refl (all_passing P test calls all.1)
  where
    go : (b : Bool) → test first ≡ b → AllByRecursion P (filter test calls) →
        AllByRecursion P (cond b (first ∷ filter test calls) (filter test calls))
    go true e rest = (all.0 e, rest)
    go false e rest = rest

-- calls of other nodes have other ids
pub others_differ : (calls : List NodeCall) (id : ℕ) (call : NodeCall) (node : ℕ) → NodeCallsDiffer calls →
    open_call calls id ≡ Some call → (node ≡ call.node → ⊥) → AllByRecursion (λ other. other.id ≡ id → ⊥) (calls_of node calls)
others_differ calls id call node distinct there apart =
    all_passing (λ (other : NodeCall). other.id ≡ id → ⊥) (λ other. eqb other.node node) calls
    (all_weaker (λ (other : NodeCall). other.id ≡ id → other ≡ call)
    (λ (other : NodeCall). eqb other.node node ≡ true → other.id ≡ id → ⊥)
    (λ other one own same. apart (sym (eqb-true other.node node own) ∙ ap (λ (c : NodeCall). c.node) (one same)))
    calls (only_one calls id call distinct there))
