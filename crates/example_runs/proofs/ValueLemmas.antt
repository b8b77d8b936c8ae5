-- If clients of a reached run saw a write and then a read, the read returned what was written.
use Rattle.std.proofs.Common.{◌≡◌, ℕ, List, Option, None, Some, IfSome, sym, ◌∙◌}
use Rattle.std.proofs.lemmas.Option.{same_Some}
use Rattle.example_tests.specs.ReadsOfProcesses.{OnlyWriteIsRead}
use Rattle.node_effects.specs.Seen.{all_seen}
use Rattle.example_runs.specs.Reached.{IsReached}
use Rattle.example_runs.specs.Values.{IsWriteThenRead}
use Rattle.example_runs.specs.declared.process_run.ProcessRun.{ProcessRun}

-- the read of a reached run returned what was written
pub same_value : OnlyWriteIsRead → (run : ProcessRun) (written found : List ℕ) →
    IsWriteThenRead (all_seen run.seen.items) written found → IsReached run → found ≡ written
same_value law run written found is reached =
    let returned = law reached.processes is.name written is.write is.read reached.reached.reached
    (sym reached.are.seen ∙ is.all) is.is_write is.is_read in
    same_Some found written (sym is.returned ∙ returned)

pub if_some : {A : Type 0} {P Q : A → Type 0} (o : Option A) → ((x : A) → P x → Q x) → IfSome o P → IfSome o Q
if_some None so is = tt
if_some (Some x) so is = so x is
