use Rattle.std.proofs.Common.{◌≡◌, ◌-◌, length, slice_get, Some, List, true, is_some, arith, sym, ap, ◌∙◌}
use Rattle.std.proofs.lemmas.Bool.Decides.{nat_tests}
use Rattle.mail.specs.declared.phase.Taken.{Taken}
use Rattle.mail.specs.Phase.{Phase, end_of}
use Rattle.mail.proofs.TakenReplyLemmas.{end_last}
use Rattle.mail.proofs.phase.Phase.end.Goals as goal

pub returns-in-Some : goal.returns-in-Some
returns-in-Some c =
    let p = c.self.inside in
    let is : end_of p.quorum p.replies.items ≡ c.args.self.now.end = ap (λ (q : Phase). q.end) c.self.view_is in
    let done : is_some c.args.self.now.end ≡ true = grind (arith, nat_tests, c.complete.ensures.value) in
    let ended : is_some (end_of p.quorum p.replies.items) ≡ true = ap is_some is ∙ done in
    let at : slice_get p.replies.items (length p.replies.items - 1) ≡ Some c.in-Some.taken.now =
    ap (λ (ts : List Taken). slice_get ts (length ts - 1)) (sym c.deref.ensures.value) ∙ sym c.in-Some.ensures.value in
    sym (end_last p.quorum p.replies.items c.in-Some.taken.now ended at) ∙ is
