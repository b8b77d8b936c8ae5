-- What a command that is one step comes to, from what the step's own call says.
use Rattle.std.proofs.Common.{◌≡◌, ℕ, ◌+◌, List, subst, Option, Some}
use Rattle.std.proofs.Common.{Result, Ok, Err, OnOk, OnErr, IfOk, sym, ap, ◌∙◌, inl, inr}
use Rattle.std.specs.Prelude.{option_map}
use Rattle.tag.specs.declared.refusal.Refusal.{Refusal}
use Rattle.tag.specs.Refusal.{IsByCause, IsExactlyByCause}
use Rattle.cluster.specs.Accounts.{stored_all}
use Rattle.cluster.specs.Cluster.{Cluster}
use Rattle.cluster.specs.Steps.{moved, created}
use Rattle.cluster.specs.Causes.{object_cause, moving_cause, create_cause}
use Rattle.player.specs.declared.report.Report.{Report}
use Rattle.player.specs.Report.{report_of, done, freed}
use Rattle.player.specs.Steps.{IsStepCommand, IsGrowth, IsFreeing}

-- a step that gives something
pub growth : {T : Type 0} (old new made : Cluster) (cause : Option Refusal) (found : Option T) (tell : T →
    Report) (r : Result T Refusal) (report : Report) → OnOk r (new ≡ made) → IfOk r (λ x. found ≡ Some x) → IsByCause cause r →
    OnErr r (new ≡ old) → report ≡ report_of tell r → IsGrowth old made cause (option_map tell found) new report
growth old new made cause found tell (Ok x) report step given by same is = inl (by, step, ap (option_map tell) given ∙ ap Some (sym is))
growth old new made cause found tell (Err e) report step given by same is = inr (e, by, (same, is))

pub sure : {T : Type 0} (old new made : Cluster) (cause : Option Refusal) (found : Option T) (tell : T →
    Report) (r : Result T Refusal) (report : Report) → OnOk r (new ≡ made) → IfOk r (λ x. found ≡ Some x) →
    IsExactlyByCause cause r → OnErr r (new ≡ old) → report ≡ report_of tell r →
    IsStepCommand old made cause (option_map tell found) new report
sure old new made cause found tell (Ok x) report step given by same is = inl (by, step, ap (option_map tell) given ∙ ap Some (sym is))
sure old new made cause found tell (Err e) report step given by same is = inr (e, by, (same, is))

-- a step that gives nothing
pub growth_done : (old new made : Cluster) (cause : Option Refusal) (r : Result Unit Refusal) (report : Report)
    → OnOk r (new ≡ made) → IsByCause cause r → OnErr r (new ≡ old) → report ≡ report_of (λ _. done) r
    → IsGrowth old made cause (Some done) new report
growth_done old new made cause (Ok x) report step by same is = inl (by, step, ap Some (sym is))
growth_done old new made cause (Err e) report step by same is = inr (e, by, (same, is))

pub sure_done : (old new made : Cluster) (cause : Option Refusal) (r : Result Unit Refusal) (report : Report)
    → OnOk r (new ≡ made) → IsExactlyByCause cause r → OnErr r (new ≡ old) → report ≡ report_of (λ _. done) r
    → IsStepCommand old made cause (Some done) new report
sure_done old new made cause (Ok x) report step by same is = inl (by, step, ap Some (sym is))
sure_done old new made cause (Err e) report step by same is = inr (e, by, (same, is))

-- a step that frees bytes
pub frees : (old new made : Cluster) (cause : Option Refusal) (r : Result ℕ Refusal) (report : Report)
    → OnOk r (new ≡ made) → IfOk r (λ bytes. stored_all new + bytes ≡ stored_all old) → IsExactlyByCause cause r
    → OnErr r (new ≡ old) → report ≡ report_of freed r → IsFreeing old made cause new report
frees old new made cause (Ok bytes) report step less by same is = inl (bytes, by, step, less, is)
frees old new made cause (Err e) report step less by same is = inr (e, by, (same, is))

-- the number of a layout as it was handed over
pub moved_to : (old new : Cluster) (name : List ℕ) (id number : ℕ) (told : Option Report) (report : Report) → id ≡ number
    → IsGrowth old (moved old name id) (object_cause old name (moving_cause old id)) told new report
    → IsGrowth old (moved old name number) (object_cause old name (moving_cause old number)) told new report
moved_to old new name id number told report same =
    subst (λ n. IsGrowth old (moved old name n) (object_cause old name (moving_cause old n)) told new report) same

pub created_with : (old new : Cluster) (name : List ℕ) (id number : ℕ) (delta : Option ℕ) (told : Option Report)
    (report : Report) → id ≡ number
    → IsGrowth old (created old name id delta) (create_cause old name id) told new report
    → IsGrowth old (created old name number delta) (create_cause old name number) told new report
created_with old new name id number delta told report same =
    subst (λ n. IsGrowth old (created old name n delta) (create_cause old name n) told new report) same
