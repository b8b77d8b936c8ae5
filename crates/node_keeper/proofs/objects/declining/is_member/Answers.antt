use Rattle.std.proofs.Common.{ap, sym, ◌∙◌}
use Rattle.local_object.specs.Passed.{member_of}
use Rattle.node_keeper.proofs.DecliningLemmas.{no_member, own_member}
use Rattle.node_keeper.proofs.objects.declining.is_member.Goals as goal

pub returns-in-Some : goal.returns-in-Some
returns-in-Some c =
    let node = c.args.object.now.node in
    own_member c.args.layout.now c.args.member node c.n.ensures.lawful c.in-Some.own
    (ap (λ l. member_of l node) (sym c.requires) ∙ sym c.member_at.ensures ∙ c.in-Some.is)

pub returns-in-None : goal.returns-in-None
returns-in-None c =
    let node = c.args.object.now.node in
    no_member c.args.layout.now c.args.member node
    (ap (λ l. member_of l node) (sym c.requires) ∙ sym c.member_at.ensures ∙ c.in-None.is)
