use Rattle.std.proofs.Common.{◌++◌, ℕ, List, Option, OnOk, subst, sym}
use Rattle.std.specs.List.{AllByRecursion}
use Rattle.std.proofs.lemmas.Result.{on_ok_weaker}
use Rattle.letter.specs.declared.letter.Letter.{Letter}
use Rattle.letter.specs.declared.letter.NamedLetter.{NamedLetter}
use Rattle.node_effects.specs.Errors.{IsUnwritten, WritesOrFails}
use Rattle.node_effects.specs.Work.{IsGrown}
use Rattle.node_keeper.specs.Fitting.{IsSendable}
use Rattle.node_keeper.specs.Resending.{to_all}
use Rattle.node_keeper.specs.Sendings.{sent_growth, to_others}
use Rattle.node_keeper.proofs.RequestCopyLemmas.{others_all, others_grown, others_parts, writes_last}
use Rattle.node_keeper.proofs.FittingLemmas.{unwritten_more}
use Rattle.node_keeper.proofs.ResultLemmas.{fails_same}
use Rattle.node_keeper.proofs.keeper.Keeper.post_to_all.Goals as goal

pub returns-in_err-post_to-clause-writes : goal.returns-in_err-post_to-clause-writes
returns-in_err-post_to-clause-writes c =
    let keeper = c.args.self.now in
    let n = keeper.ids.node in
    let P = IsSendable n keeper.digest in
    let it : NamedLetter = record { name = c.args.name.now; letter = c.in-Some.letter } in
    let nodes = keeper.file.fixed.nodes in
    let later = keeper.file.later in
    let error = c.in_err-post_to.field-0.0 in
    let first = subst (λ (some : List ℕ). IsUnwritten (AllByRecursion P (to_others n it some)) error) c.nodes.ensures.nodes
    c.in_err-post_to.ensures.writes in
    let all = unwritten_more (AllByRecursion P (to_others n it nodes)) (AllByRecursion P (to_others n it (nodes ++ later)))
    (λ whole. (others_parts P n it nodes later whole).0) error first in
    fails_same _ c.from_residual.result error c.from_residual.ensures.1
    (subst (λ (letter : Option Letter). IsUnwritten (AllByRecursion P (to_all n keeper.file c.args.name.now letter)) error)
    (sym c.in-Some.is) all)

pub returns-clause-grown : goal.returns-clause-grown
returns-clause-grown c =
    let keeper = c.args.self.now in
    let n = keeper.ids.node in
    let digest = keeper.digest in
    let it : NamedLetter = record { name = c.args.name.now; letter = c.in-Some.letter } in
    let nodes = keeper.file.fixed.nodes in
    let later = keeper.file.later in
    let first = subst (λ (some : List ℕ). IsGrown c.args.work.now c.post_to.new.work (sent_growth n digest (to_others n it some)))
    c.nodes.ensures.nodes c.in_ok-post_to.ensures.grown in
    let second = subst (λ (some : List ℕ). OnOk c.post_to-2.result
    (IsGrown c.post_to.new.work c.post_to-2.new.work (sent_growth n digest (to_others n it some)))) c.later.ensures
    c.post_to-2.ensures.grown in
    subst (λ (letter : Option Letter). OnOk c.post_to-2.result (IsGrown c.args.work.now c.post_to-2.new.work
    (sent_growth n digest (to_all n keeper.file c.args.name.now letter)))) (sym c.in-Some.is)
    (on_ok_weaker c.post_to-2.result
    (others_grown n digest it nodes later c.args.work.now c.post_to.new.work c.post_to-2.new.work first) second)

pub returns-clause-writes : goal.returns-clause-writes
returns-clause-writes c =
    let keeper = c.args.self.now in
    let n = keeper.ids.node in
    let P = IsSendable n keeper.digest in
    let it : NamedLetter = record { name = c.args.name.now; letter = c.in-Some.letter } in
    let nodes = keeper.file.fixed.nodes in
    let later = keeper.file.later in
    let first = subst (λ (some : List ℕ). AllByRecursion P (to_others n it some)) c.nodes.ensures.nodes
    c.in_ok-post_to.ensures.writes in
    let second = subst (λ (some : List ℕ). WritesOrFails (AllByRecursion P (to_others n it some)) c.post_to-2.result) c.later.ensures
    c.post_to-2.ensures.writes in
    subst (λ (letter : Option Letter). WritesOrFails (AllByRecursion P (to_all n keeper.file c.args.name.now letter))
    c.post_to-2.result) (sym c.in-Some.is)
    (writes_last (AllByRecursion P (to_others n it later)) (AllByRecursion P (to_others n it (nodes ++ later))) c.post_to-2.result
    (others_all P n it nodes later first) (λ whole. (others_parts P n it nodes later whole).1) second)
