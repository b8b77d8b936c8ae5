use Rattle.std.proofs.Common.{map}
use Rattle.script.proofs.NoCommandLemmas.{begins}
use Rattle.script.proofs.command.parse_object_command.Goals as goal

pub returns-in-read : goal.returns-in-read
returns-in-read c = begins (map (λ w. w.now) c.args.rest.now) _ _ _ c.in-read.is c.read.ensures

pub returns-in-write : goal.returns-in-write
returns-in-write c = begins (map (λ w. w.now) c.args.rest.now) _ _ _ c.in-write.is c.write.ensures

pub returns-in-move : goal.returns-in-move
returns-in-move c = begins (map (λ w. w.now) c.args.rest.now) _ _ _ c.in-move.is c.move_to.ensures

pub returns-in-resume : goal.returns-in-resume
returns-in-resume c = begins (map (λ w. w.now) c.args.rest.now) _ _ _ c.in-resume.is c.resume.ensures

pub returns-in-history : goal.returns-in-history
returns-in-history c = begins (map (λ w. w.now) c.args.rest.now) _ _ _ c.in-history.is c.history.ensures

pub returns-in-sequence : goal.returns-in-sequence
returns-in-sequence c = begins (map (λ w. w.now) c.args.rest.now) _ _ _ c.in-sequence.is c.sequence.ensures

pub returns-in-check : goal.returns-in-check
returns-in-check c = begins (map (λ w. w.now) c.args.rest.now) _ _ _ c.in-check.is c.check.ensures
