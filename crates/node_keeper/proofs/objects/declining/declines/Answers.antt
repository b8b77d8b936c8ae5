use Rattle.std.proofs.Common.{◌≡◌, Some, rules, true, ap, sym, ◌∙◌}
use Rattle.local_object.specs.Doing.{has_member}
use Rattle.local_object.specs.Local.{heard_place}
use Rattle.object_letters.specs.Closing.{is_closed}
use Rattle.node_keeper.proofs.DecliningLemmas.{closed_declines}
use Rattle.node_keeper.proofs.objects.declining.declines.Goals as goal

pub returns-then-is_closed : goal.returns-then-is_closed
returns-then-is_closed c =
    let local = c.args.object.now in
    let letter = c.args.letter.now in
    let place = c.in-Some.place.now in
    let found : heard_place local.places letter.message.position ≡ Some place = search rules in
    let closed : is_closed place.bank ≡ true = search rules in
    c.is_member.ensures
    ∙ ap (λ l. has_member l letter.message.member local.node) c.layout.ensures
    ∙ closed_declines local letter place found closed c.requires (sym c.has_next.ensures ∙ c.if-not-has_next.false)
