use Rattle.std.proofs.Common.{◌≡◌, [], ◌∷◌, ◌++◌, rules}
use Rattle.frames.proofs.GatheredLemmas.{closed}
use Rattle.frames.proofs.gathered.close.Goals as goal

pub returns-in-Ok-clause-same : goal.returns-in-Ok-clause-same
returns-in-Ok-clause-same c =
    let parts = c.args.parts.now.items in
    let more = c.push_reserved.new.self.items in
    let own = c.replace.result.items in
    let pushed : c.push_reserved.new.self.items ≡ c.args.parts.now.items ++ c.in-Ok.part ∷ [] = search rules in
    let is : c.in-Ok.part ≡ c.args.last.now.items = search rules in
    let none : c.replace.new.dest.items ≡ [] = search rules in
    closed parts more c.args.last.now.items c.replace.new.dest.items c.in-Ok.part pushed is none
