use Rattle.std.proofs.Common.{◌≡◌, ◌+◌, ◌<◌, ◌≤◌, ℕ, length, get_or}
use Rattle.record.specs.Accounts.{base_bytes_of}
use Rattle.cluster.proofs.cluster.retiring.unload.Given as goal

-- the servers before this one no longer store what the base does there, and the others store what they did
abbrev pub invariant-loop-server : goal.invariant-loop-server
invariant-loop-server l = record {
  count : length l.loads ≡ length l.initial.loads;
  freed : (server : ℕ) → server < l.server
      → get_or l.loads server 0 + base_bytes_of l.register.object server ≡ get_or l.initial.loads server 0;
  others : (server : ℕ) → l.server ≤ server → get_or l.loads server 0 ≡ get_or l.initial.loads server 0;
}
