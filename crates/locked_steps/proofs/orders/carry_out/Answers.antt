use Rattle.std.proofs.Common.{ap, inl, inr, ◌∙◌}
use Rattle.cluster.specs.Cluster.{layout_numbered}
use Rattle.locked_steps.specs.Calls.{client_calls}
use Rattle.locked_steps.proofs.ClusterCallCountLemmas.{calls_created}
use Rattle.locked_steps.proofs.ReachableLemmas.{goes_on}
use Rattle.locked_steps.proofs.SoundClusterLemmas.{created_lawful}
use Rattle.locked_steps.proofs.orders.carry_out.Goals as goal

pub returns-in_ok-add_layout-in-AddLayout-clause-course : goal.returns-in_ok-add_layout-in-AddLayout-clause-course
returns-in_ok-add_layout-in-AddLayout-clause-course c =
    let made = c.in_ok-add_layout-in-AddLayout.ensures.step in
    goes_on _ _
    (inr (inl (c.in-AddLayout.layout, (c.k.ensures.lawful, (c.in_ok-add_layout-in-AddLayout.ensures.cause, made)))))

pub returns-in_ok-create_with-in-Create-clause-count : goal.returns-in_ok-create_with-in-Create-clause-count
returns-in_ok-create_with-in-Create-clause-count c =
    let made = c.in_ok-create_with-in-Create.ensures.step in
    ap client_calls made
    ∙ calls_created c.args.cluster.now c.in-Create.name.now (layout_numbered c.args.cluster.now c.in-Create.layout) c.in-Create.delta

pub returns-in_ok-create_with-in-Create-clause-course : goal.returns-in_ok-create_with-in-Create-clause-course
returns-in_ok-create_with-in-Create-clause-course c =
    let made = c.in_ok-create_with-in-Create.ensures.step in
    let name = c.in-Create.name.now in
    let layout = c.in-Create.layout in
    let delta = c.in-Create.delta in
    let none = c.in_ok-create_with-in-Create.ensures.cause in
    let lawful = created_lawful _ _ name layout delta none made c.record_is_sound.ensures in
    goes_on _ _ (inr (inr (inl (name, (layout, (delta, (none, (lawful, made))))))))

pub returns-in_ok-set_server-in-SetServer-clause-course : goal.returns-in_ok-set_server-in-SetServer-clause-course
returns-in_ok-set_server-in-SetServer-clause-course c =
    let made = c.in_ok-set_server-in-SetServer.ensures.step in
    let server = c.in-SetServer.server in
    let up = c.in-SetServer.up in
    goes_on _ _ (inr (inr (inr (server, (up, (c.in_ok-set_server-in-SetServer.ensures.cause, made))))))
