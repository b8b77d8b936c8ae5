use Rattle.std.proofs.Common.{sym}
use Rattle.layout.proofs.MarkedPlaceLemmas.{contains-marked}
use Rattle.layout.proofs.member_set.MemberSet.has.Goals as goal

pub returns : goal.returns
returns c = rw (← c.self.view_is, c.from.ensures) (sym (contains-marked c.self.inside.present c.args.member))
