use Rattle.std.proofs.Common.{◌≡◌, ◌++◌, map, take, string_bytes}
use Rattle.commands.proofs.arguments.marked.Given as goal

abbrev pub invariant-loop-word : goal.invariant-loop-word
invariant-loop-word l = map (λ w. w.now) l.all.items
    ≡ map (λ w. w.now) l.initial.all.items ++ map string_bytes (take l.word-index l.rest)
