-- Where no call of a list is missing.
use Rattle.std.proofs.lemmas.Bool.{false≢true}
use Rattle.std.proofs.Common.{◌≡◌, ◌∙◌, ℕ, Bool, true, List, Option, Some, None, ap, sym}
use Rattle.std.specs.Prelude.{is_some}
use Rattle.std.specs.List.{list_all}
use Rattle.tag.specs.declared.refusal.Refusal.{Refusal}
use Rattle.register.specs.Causes.{call_at}
use Rattle.register.specs.State.{State}
use Rattle.cluster.specs.Cluster.{Cluster, named}
use Rattle.cluster.specs.Causes.{if_object, object_cause}
use Rattle.player.specs.Shown.{HasNoCall}

-- whether an object has all these calls; none has them all
all_there : Option State → List ℕ → Bool
all_there None calls = true
all_there (Some state) calls = list_all (λ call. is_some (call_at state.object call)) calls

pub none_missing : (cluster : Cluster) (name calls : List ℕ) (state : State) → named cluster.objects name ≡ Some state
    → list_all (λ call. is_some (call_at state.object call)) calls ≡ true → ¬ (HasNoCall cluster name calls)
unfolding all_there
none_missing cluster name calls state there all (other, found, missing) =
    absurd (false≢true (sym missing ∙ (ap (λ o. all_there o calls) (sym found ∙ there) ∙ all)))

pub none_missing-unknown : (cluster : Cluster) (name calls : List ℕ) (r : Refusal) →
    object_cause cluster name (λ object. None) ≡ Some r → ¬ (HasNoCall cluster name calls)
none_missing-unknown cluster name calls r cause (other, found, missing) =
    absurd (let no : None ≡ Some r = sym (ap (λ o. if_object o (λ object. None)) found) ∙ cause in cc)
