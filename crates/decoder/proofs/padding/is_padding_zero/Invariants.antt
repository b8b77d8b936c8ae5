use Rattle.std.proofs.Common.{◌≡◌, ℕ, ◌/◌, ◌%◌, ◌<◌, ◌≤◌}
use Rattle.kernels.specs.Dot.{bytes_of}
use Rattle.decoder.specs.Rows.{block_byte}
use Rattle.decoder.proofs.padding.is_padding_zero.Given as goal

-- the bytes so far
abbrev pub invariant-loop-n : goal.invariant-loop-n
invariant-loop-n l = (m : ℕ) → l.len ≤ m → m < l.n → block_byte l.table (bytes_of l.fragments) (m / l.block_len) (m % l.block_len) ≡ 0
