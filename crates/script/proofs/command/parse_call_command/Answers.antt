use Rattle.std.proofs.Common.{map}
use Rattle.script.proofs.NoCommandLemmas.{begins}
use Rattle.script.proofs.command.parse_call_command.Goals as goal

pub returns-in-call : goal.returns-in-call
returns-in-call c = begins (map (λ w. w.now) c.args.rest.now) _ _ _ c.in-call.is c.call.ensures

pub returns-in-text : goal.returns-in-text
returns-in-text c = begins (map (λ w. w.now) c.args.rest.now) _ _ _ c.in-text.is c.supply_as.ensures

pub returns-in-deliver : goal.returns-in-deliver
returns-in-deliver c = begins (map (λ w. w.now) c.args.rest.now) _ _ _ c.in-deliver.is c.deliver.ensures

pub returns-in-mail : goal.returns-in-mail
returns-in-mail c = begins (map (λ w. w.now) c.args.rest.now) _ _ _ c.in-mail.is c.mail.ensures

pub returns-in-bank : goal.returns-in-bank
returns-in-bank c = begins (map (λ w. w.now) c.args.rest.now) _ _ _ c.in-bank.is c.bank.ensures

pub parse_object_command-requires-clause-calls : goal.parse_object_command-requires-clause-calls
parse_object_command-requires-clause-calls c =
    let d = c.in_default in (d.not-call, (d.not-text, (d.not-deliver, (d.not-mail, (d.not-bank, tt)))))
