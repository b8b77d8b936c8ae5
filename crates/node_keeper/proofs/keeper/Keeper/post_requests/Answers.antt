use Rattle.std.proofs.Common.{◌≡◌, ◌∙◌, List, Option, true, ap, subst, sym}
use Rattle.std.specs.List.{AllByRecursion}
use Rattle.std.specs.Prelude.{IfSome}
use Rattle.std.proofs.lemmas.Result.{on_ok_weaker}
use Rattle.letter.specs.declared.letter.Letter.{Letter}
use Rattle.node_effects.specs.Errors.{WritesOrFails}
use Rattle.node_effects.specs.Work.{IsGrown}
use Rattle.open_calls.proofs.ListLemmas.{all_append}
use Rattle.node_keeper.specs.Fitting.{IsSendable}
use Rattle.node_keeper.specs.Resending.{first_for_all, to_all}
use Rattle.node_keeper.specs.Sendings.{asked, asks_next, sent_growth}
use Rattle.node_keeper.proofs.AskedAllLemmas.{first_asks}
use Rattle.node_keeper.proofs.RequestCopyLemmas.{all_parts, writes_last}
use Rattle.node_keeper.proofs.FittingLemmas.{unwritten_more}
use Rattle.node_keeper.proofs.ResultLemmas.{fails_same}
use Rattle.node_keeper.proofs.keeper.Keeper.post_requests.Goals as goal

pub post_to_all-requires : goal.post_to_all-requires
post_to_all-requires c =
    subst (λ (first : Option Letter). IfSome first (λ letter. asks_next letter.message.body ≡ true)) (sym c.in_ok-first.ensures.first)
    (first_asks c.args.asks_all c.deref.result.now)

pub returns-in_err-post-clause-writes : goal.returns-in_err-post-clause-writes
returns-in_err-post-clause-writes c =
    let keeper = c.args.self.now in
    let n = keeper.ids.node in
    let name = c.args.name.now in
    let letters = c.args.letters.items in
    let P = IsSendable n keeper.digest in
    let some = asked n name letters in
    let more = to_all n keeper.file name (first_for_all c.args.asks_all letters) in
    let error = c.in_err-post.field-0.0 in
    fails_same _ c.from_residual-in_err-post.result error c.from_residual-in_err-post.ensures.1
    (unwritten_more (AllByRecursion P some) _ (λ whole. (all_parts P some more whole).0) error c.in_err-post.ensures.writes)

pub returns-clause-sent : goal.returns-clause-sent
returns-clause-sent c =
    let keeper = c.args.self.now in
    let n = keeper.ids.node in
    let first : c.in_ok-first.first ≡ first_for_all c.args.asks_all c.args.letters.items =
    c.in_ok-first.ensures.first ∙ ap (λ (some : List Letter). first_for_all c.args.asks_all some) c.deref.ensures.value in
    on_ok_weaker c.post_to_all.result
    (λ all. record {
      between = c.post.new.work;
      asked = c.in_ok-post.ensures.grown;
      all = subst (λ (o : Option Letter). IsGrown c.post.new.work c.post_to_all.new.work
          (sent_growth n keeper.digest (to_all n keeper.file c.args.name.now o))) first all;
    }) c.post_to_all.ensures.grown

pub returns-clause-writes : goal.returns-clause-writes
returns-clause-writes c =
    let keeper = c.args.self.now in
    let n = keeper.ids.node in
    let name = c.args.name.now in
    let letters = c.args.letters.items in
    let P = IsSendable n keeper.digest in
    let first : c.in_ok-first.first ≡ first_for_all c.args.asks_all letters =
    c.in_ok-first.ensures.first ∙ ap (λ (some : List Letter). first_for_all c.args.asks_all some) c.deref.ensures.value in
    let some = asked n name letters in
    let more = to_all n keeper.file name (first_for_all c.args.asks_all letters) in
    writes_last (AllByRecursion P more) _ c.post_to_all.result (all_append P some more c.in_ok-post.ensures.writes)
    (λ whole. (all_parts P some more whole).1)
    (subst (λ (o : Option Letter). WritesOrFails (AllByRecursion P (to_all n keeper.file name o)) c.post_to_all.result) first
    c.post_to_all.ensures.writes)
