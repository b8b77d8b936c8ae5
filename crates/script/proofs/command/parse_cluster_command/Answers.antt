use Rattle.std.proofs.Common.{map}
use Rattle.script.proofs.NoCommandLemmas.{begins}
use Rattle.script.proofs.command.parse_cluster_command.Goals as goal

pub returns-in-servers : goal.returns-in-servers
returns-in-servers c = begins (map (λ w. w.now) c.args.rest.now) _ _ _ c.in-servers.is c.servers.ensures

pub returns-in-layout : goal.returns-in-layout
returns-in-layout c = begins (map (λ w. w.now) c.args.rest.now) _ _ _ c.in-layout.is c.layout.ensures

pub returns-in-object : goal.returns-in-object
returns-in-object c = begins (map (λ w. w.now) c.args.rest.now) _ _ _ c.in-object.is c.object.ensures

pub returns-in-down : goal.returns-in-down
returns-in-down c = begins (map (λ w. w.now) c.args.rest.now) _ _ _ c.in-down.is c.down.ensures

pub returns-in-up : goal.returns-in-up
returns-in-up c = begins (map (λ w. w.now) c.args.rest.now) _ _ _ c.in-up.is c.up.ensures

pub returns-in-account : goal.returns-in-account
returns-in-account c = begins (map (λ w. w.now) c.args.rest.now) _ _ _ c.in-account.is c.account.ensures

pub parse_call_command-requires-clause-cluster : goal.parse_call_command-requires-clause-cluster
parse_call_command-requires-clause-cluster c =
    let d = c.in_default in (d.not-servers, (d.not-layout, (d.not-object, (d.not-down, (d.not-up, (d.not-account, tt))))))
