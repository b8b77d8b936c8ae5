use Rattle.std.proofs.Common.{◌≡◌, List, ℕ, ◌++◌, ap, rules, ◌∙◌}
use Rattle.std.specs.List.{concat}
use Rattle.frames.proofs.GatheredLemmas.{counted, part_added}
use Rattle.frames.proofs.gathered.Gathered.share.Goals as goal

pub invariant_of-self-2 : goal.invariant_of-self-2
invariant_of-self-2 c =
    let old = c.args.self.now in
    let copy : c.in_ok-string.string ≡ c.args.string.now = search rules in
    let added = part_added c.close.new.parts.items c.push.new.self.items c.close.new.last.items c.in_ok-string.string c.args.self.now
    c.in_ok-push.ensures.items c.in_ok-close.ensures.empty (c.close.ensures.same ∙ c.self.view_is) in
    counted c.in_ok-len.len c.len.result c.args.self.now (concat c.push.new.self.items ++ c.close.new.last.items) c.args.string.now
    c.in_ok-len.ensures c.len.ensures.value (added ∙ ap (λ (t : List ℕ). old ++ t) copy)

pub returns : goal.returns
returns c =
    let old = c.args.self.now in
    let copy : c.in_ok-string.string ≡ c.args.string.now = search rules in
    part_added c.close.new.parts.items c.push.new.self.items c.close.new.last.items c.in_ok-string.string c.args.self.now
    c.in_ok-push.ensures.items c.in_ok-close.ensures.empty (c.close.ensures.same ∙ c.self.view_is)
    ∙ ap (λ (t : List ℕ). old ++ t) copy
