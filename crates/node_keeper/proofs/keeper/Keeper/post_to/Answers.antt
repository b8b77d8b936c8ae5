use Rattle.std.proofs.Common.{◌≡◌, ◌<◌, ◌+◌, ◌++◌, ◌∷◌, [], ℕ, List, get_or, length, subst, sym, take, arith}
use Rattle.std.specs.List.{AllByRecursion}
use Rattle.std.proofs.lemmas.List.{take_all, take_more}
use Rattle.letter.specs.declared.letter.NamedLetter.{NamedLetter}
use Rattle.node_effects.specs.Work.{IsGrown}
use Rattle.node_keeper.specs.Fitting.{IsSendable}
use Rattle.node_keeper.specs.Sendings.{sent_growth, to_others}
use Rattle.node_keeper.proofs.RequestCopyLemmas.{others_all, others_at, others_grown}
use Rattle.node_keeper.proofs.FittingLemmas.{unwritten_more}
use Rattle.node_keeper.proofs.ResultLemmas.{fails_same}
use Rattle.node_keeper.proofs.keeper.Keeper.post_to.Goals as goal

pub loop-node-preserved : goal.loop-node-preserved
loop-node-preserved c =
    let n = c.args.self.now.ids.node in
    let digest = c.args.self.now.digest in
    let it : NamedLetter = record { name = c.args.name.now; letter = c.args.letter.now } in
    let i = c.loop-node.node-index in
    let nodes = c.args.nodes.now in
    let node = get_or nodes i 0 in
    let more : take (i + 1) nodes ≡ take i nodes ++ node ∷ [] = take_more nodes i 0 (omega arith) in (
      subst (λ (some : List ℕ). IsGrown c.args.work.now c.post_copy.new.work (sent_growth n digest (to_others n it some))) (sym more)
          (others_grown n digest it (take i nodes) (node ∷ []) c.args.work.now c.loop-node.work c.post_copy.new.work
          c.loop-node.invariant.0 c.in_ok-post_copy.ensures.grown),
      subst (λ (some : List ℕ). AllByRecursion (IsSendable n digest) (to_others n it some)) (sym more)
          (others_all (IsSendable n digest) n it (take i nodes) (node ∷ []) c.loop-node.invariant.1 c.in_ok-post_copy.ensures.writes),
    )

pub returns-in_err-post_copy-clause-writes : goal.returns-in_err-post_copy-clause-writes
returns-in_err-post_copy-clause-writes c =
    let n = c.args.self.now.ids.node in
    let digest = c.args.self.now.digest in
    let it : NamedLetter = record { name = c.args.name.now; letter = c.args.letter.now } in
    let i = c.loop-node.node-index in
    let nodes = c.args.nodes.now in
    let error = c.in_err-post_copy.field-0.0 in
    let within : i < length nodes = omega arith in
    fails_same _ c.from_residual.result error c.from_residual.ensures.1
    (unwritten_more (AllByRecursion (IsSendable n digest) (to_others n it (get_or nodes i 0 ∷ [])))
    (AllByRecursion (IsSendable n digest) (to_others n it nodes))
    (others_at (IsSendable n digest) n it nodes i 0 within) error c.in_err-post_copy.ensures.writes)

pub returns : goal.returns
returns c =
    let n = c.args.self.now.ids.node in
    let digest = c.args.self.now.digest in
    let it : NamedLetter = record { name = c.args.name.now; letter = c.args.letter.now } in
    let nodes = c.args.nodes.now in
    let all : take c.loop-node.node-index nodes ≡ nodes = take_all c.loop-node.node-index nodes (omega arith) in
    record {
      grown = subst (λ (some : List ℕ). IsGrown c.args.work.now c.loop-node.work (sent_growth n digest (to_others n it some))) all
          c.loop-node.invariant.0;
      writes = subst (λ (some : List ℕ). AllByRecursion (IsSendable n digest) (to_others n it some)) all c.loop-node.invariant.1;
    }
