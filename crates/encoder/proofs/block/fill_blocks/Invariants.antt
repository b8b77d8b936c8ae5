use Rattle.std.proofs.Common.{◌≡◌, ℕ, ◌*◌, ◌<◌, get_or, take, drop}
use Rattle.kernels.proofs.LaneSumLemmas.{no_slice}
use Rattle.encoder.proofs.block.fill_blocks.Given as goal

-- the blocks so far
abbrev pub invariant-loop-j : goal.invariant-loop-j
invariant-loop-j l = (i : ℕ) → i < l.j → (get_or l.blocks i no_slice).now ≡ take l.block_len (drop (i * l.block_len) l.value)
