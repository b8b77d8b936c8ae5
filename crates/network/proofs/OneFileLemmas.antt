-- Nodes with the same cluster file know the same layouts, and open the same banks.
use Rattle.std.proofs.Common.{◌≡◌, ℕ, suc, List, [], ◌∷◌, refl, sym, ap, ◌∙◌}
use Rattle.bank.specs.Bank.{opened_bank}
use Rattle.record.specs.Steps.{opened_banks}
use Rattle.network.specs.Worlds.{ClusterFile, World, known_layouts, new_banks}
use Rattle.network.specs.Premises.{IsOneFile}

-- each node knows the layouts that node 0 knows
pub layouts_known : (world : World) → IsOneFile world.files → (node : ℕ) → known_layouts world 0 ≡ known_layouts world node
layouts_known world one node = ap (λ (file : ClusterFile). file.first ∷ world.later) (sym (one node))

-- banks that their nodes open are those that node 0 would open
pub banks_opened : (files : ℕ → ClusterFile) → IsOneFile files → (servers : List ℕ) (member : ℕ) →
    opened_banks servers member (files 0).delta 0 ≡ new_banks files servers member
banks_opened files one [] member = refl
banks_opened files one (server ∷ servers) member =
    ap (λ (file : ClusterFile). opened_bank member file.delta 0 ∷ opened_banks servers (suc member) (files 0).delta 0) (sym (one server))
    ∙ ap (λ l. opened_bank member (files server).delta 0 ∷ l) (banks_opened files one servers (suc member))
