use Rattle.std.proofs.Common.{List, refl, subst}
use Rattle.std.specs.List.{AllByRecursion}
use Rattle.std.specs.Prelude.{OnOk}
use Rattle.std.proofs.lemmas.Result.{on_ok_weaker}
use Rattle.letter.specs.declared.letter.Letter.{Letter}
use Rattle.node_effects.specs.Errors.{WritesOrFails}
use Rattle.node_effects.specs.Work.{IsGrown}
use Rattle.node_keeper.specs.Fitting.{IsSendable}
use Rattle.node_keeper.specs.Resending.{sendings_again, sendings_of}
use Rattle.node_keeper.specs.Sendings.{sent_growth}
use Rattle.node_keeper.specs.declared.keeper.Keeper.{Keeper}
use Rattle.node_keeper.proofs.AskedAllLemmas.{asked_all_acts, sent_as}
use Rattle.node_keeper.proofs.ResultLemmas.{ok_fits}
use Rattle.node_keeper.proofs.keeper.Keeper.ask_again.Goals as goal

pub returns-clause-asked : goal.returns-clause-asked
returns-clause-asked c =
    on_ok_weaker c.post_requests.result
    (λ sent. record { objects = c.in_ok-letters.ensures.done; rest = record { file = refl; digest = refl; ids = refl } })
    c.post_requests.ensures.sent

pub returns-clause-acts : goal.returns-clause-acts
returns-clause-acts c =
    let old = c.args.self.now in
    let new : Keeper = record old { objects = c.ask_again.new.self } in
    on_ok_weaker c.post_requests.result
    (λ both asker. asked_all_acts asker old new c.args.work.now c.post_requests.new.work c.args.name.now c.args.id
    (record { objects = c.in_ok-letters.ensures.done; rest = record { file = refl; digest = refl; ids = refl } })
    c.args.asks_all c.in_ok-letters.letters.items c.in_ok-letters.ensures.letters
    (record { between = both.0.between; asked = both.0.asked; all = both.0.all }) both.1)
    (ok_fits _ _ c.post_requests.result c.post_requests.ensures.sent c.post_requests.ensures.writes)

pub returns-clause-sends : goal.returns-clause-sends
unfolding sendings_again
returns-clause-sends c =
    let keeper = c.args.self.now in
    let n = keeper.ids.node in
    let name = c.args.name.now in
    let all = c.args.asks_all in
    let before = c.args.work.now in
    let after = c.post_requests.new.work in
    subst (λ (letters : List Letter). OnOk c.post_requests.result
    (IsGrown before after (sent_growth n keeper.digest (sendings_of all n keeper.file name letters))))
    c.in_ok-letters.ensures.letters
    (on_ok_weaker c.post_requests.result
    (sent_as all (record keeper { objects = c.ask_again.new.self }) name c.in_ok-letters.letters.items before after)
    c.post_requests.ensures.sent)

pub returns-clause-writes : goal.returns-clause-writes
unfolding sendings_again
returns-clause-writes c =
    let keeper = c.args.self.now in
    let n = keeper.ids.node in
    subst (λ (letters : List Letter). WritesOrFails (AllByRecursion (IsSendable n keeper.digest)
    (sendings_of c.args.asks_all n keeper.file c.args.name.now letters)) c.post_requests.result)
    c.in_ok-letters.ensures.letters c.post_requests.ensures.writes
