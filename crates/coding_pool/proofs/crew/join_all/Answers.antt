use Rattle.std.proofs.Common.{◌≡◌, ◌++◌, ◌∷◌, [], All, List, Result, Some, subst, sym, rules}
use Rattle.std.specs.declared.thread.PromisedHandle.{PromisedHandle}
use Rattle.std.proofs.lemmas.List.Elements.{All-push, All-pop}
use Rattle.tag.specs.declared.refusal.Refusal.{Refusal}
use Rattle.coding_pool.specs.declared.worker.CodingJob.{CodingJob}
use Rattle.coding_pool.specs.declared.worker.Worker.{Worker}
use Rattle.coding_pool.specs.Worker.{IsHandedBack}
use Rattle.coding_pool.proofs.crew.join_all.Goals as goal

pub loop-handle-preserved : goal.loop-handle-preserved
loop-handle-preserved g c =
    let popped : c.loop-handle.started.items ≡ c.pop.new.self.items ++ c.in-Some.handle ∷ [] = search rules in
    let items : c.push_reserved.new.self.items ≡ c.loop-handle.answers.items ++ c.join.result ∷ [] = search rules in
    record {
      count = search rules;
      room = search rules;
      answers = λ (errand : CodingJob) promised handed.
          let P : PromisedHandle (Result Worker Refusal) CodingJob → Type 0 = λ h. h.promise ≡ errand in
          let old = c.loop-handle.invariant.answers errand promised handed in
          let both = All-pop P c.loop-handle.started.items c.pop.new.self.items (Some c.in-Some.handle) popped old.0 in
          let is : c.in-Some.handle.promise ≡ errand = both.1 in
          let answer = subst (λ (e : CodingJob). IsHandedBack e c.join.result) is c.join.ensures in
          let all = All-push (IsHandedBack errand) _ _ old.1 answer in
          (both.0, subst (λ (l : List (Result Worker Refusal)). All (IsHandedBack errand) l) (sym items) all);
    }

pub returns-clause-answers : goal.returns-clause-answers
returns-clause-answers g c errand promised handed = (c.loop-handle.invariant.answers errand promised handed).1
