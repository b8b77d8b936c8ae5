use Rattle.std.proofs.Common.{◌≡◌, ap, length, subst, ◌∙◌}
use Rattle.std.proofs.lemmas.Iterator.Adapters.{YieldsList-from_vec}
use Rattle.std.proofs.lemmas.Iterator.Consumers.{YieldsList-turn}
use Rattle.node_effects.specs.Errors.{IsUnwritten}
use Rattle.node_effects.specs.Work.{IsGrown}
use Rattle.node_keeper.specs.Fitting.{IsSendable}
use Rattle.node_keeper.specs.Sendings.{member_or, sending, sent_growth, to_one}
use Rattle.node_keeper.proofs.FittingLemmas.{one_unsent, sendable_more}
use Rattle.node_keeper.proofs.ResultLemmas.{fails_same}
use Rattle.node_keeper.proofs.SendingLemmas.{asked_more}
use Rattle.node_keeper.proofs.keeper.Keeper.post.Goals as goal

pub loop-letter-preserved : goal.loop-letter-preserved
loop-letter-preserved c =
    let n = c.args.self.now.ids.node in
    let digest = c.args.self.now.digest in
    let letter = c.in-Some.letter in
    let to : c.member_or-to.result ≡ member_or n letter =
    c.member_or-to.ensures ∙ ap (λ k. member_or k letter) c.number.ensures.number in (
      asked_more n digest c.args.name.now c.loop-letter.yielded letter c.args.work.now c.loop-letter.work c.send.new.work
          c.loop-letter.invariant.0
          (subst (λ m. IsGrown c.loop-letter.work c.send.new.work
          (sent_growth n digest (to_one m (record { name = c.args.name.now; letter = letter })))) to
          (subst (λ name. IsGrown c.loop-letter.work c.send.new.work
          (sent_growth n digest (to_one c.member_or-to.result (record { name = name; letter = letter }))))
          c.in_ok-name.ensures.cases c.in_ok-send.ensures.grown)),
      sendable_more n digest c.args.name.now c.loop-letter.yielded letter c.loop-letter.invariant.1
          (subst (λ m. IsSendable n digest (sending m (record { name = c.args.name.now; letter = letter }))) to
          (subst (λ name. IsSendable n digest (sending c.member_or-to.result (record { name = name; letter = letter })))
          c.in_ok-name.ensures.cases c.in_ok-send.ensures.writes)),
    )

pub returns-in_err-send-clause-writes : goal.returns-in_err-send-clause-writes
returns-in_err-send-clause-writes c =
    let n = c.args.self.now.ids.node in
    let digest = c.args.self.now.digest in
    let name = c.args.name.now in
    let letter = c.in-Some.letter in
    let error = c.in_err-send.field-0.0 in
    let to : c.member_or-to.result ≡ member_or n letter =
    c.member_or-to.ensures ∙ ap (λ k. member_or k letter) c.number.ensures.number in
    let iterator = c.into_iter-letter-iterator.result in
    let items : iterator.rest.items ≡ c.args.letters.items = c.into_iter-letter-iterator.ensures.into_iter_gives.0 in
    let len : iterator.rest.len ≡ length c.args.letters.items =
    c.into_iter-letter-iterator.ensures.into_iter_gives.1 ∙ c.args.letters.ok.0 in
    let at = YieldsList-turn (YieldsList-from_vec c.args.letters.items items len) c.loop-letter.yielded
    c.loop-letter.letter-iterator c.loop-letter.yielded_by c.next.result c.next.new.self letter c.in-Some.is c.next.ensures.steps in
    fails_same _ c.from_residual-in_err-send.result error c.from_residual-in_err-send.ensures.1
    (one_unsent n digest name c.args.letters.items (length c.loop-letter.yielded) letter at error
    (subst (λ m. IsUnwritten (IsSendable n digest (sending m (record { name = name; letter = letter }))) error) to
    (subst (λ s. IsUnwritten (IsSendable n digest (sending c.member_or-to.result (record { name = s; letter = letter }))) error)
    c.in_ok-name.ensures.cases c.in_err-send.ensures.writes)))
