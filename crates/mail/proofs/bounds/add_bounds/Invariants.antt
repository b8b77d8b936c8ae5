use Rattle.std.proofs.Common.{◌≡◌, ◌+◌, ◌-◌, ◌≤◌, ◌++◌, drop, length}
use Rattle.std.specs.Vec.{vec_len, vec_capacity}
use Rattle.mail.specs.Bounds.{bounds_from, last_bound}
use Rattle.mail.proofs.bounds.add_bounds.Given as goal

-- the bounds so far and those of the messages that are left, for which there is room
abbrev pub invariant-loop-message : goal.invariant-loop-message
invariant-loop-message l = record {
  all : l.bounds.items ++ bounds_from l.bound (drop l.message-index l.messages)
      ≡ l.initial.bounds.items ++ bounds_from (last_bound 0 l.initial.bounds.items) l.messages;
  room : vec_len l.bounds + (length l.messages - l.message-index) ≤ vec_capacity l.bounds;
}
