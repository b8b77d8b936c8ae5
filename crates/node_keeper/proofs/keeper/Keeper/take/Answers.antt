use Rattle.std.proofs.Common.{option_to_list, refl, subst}
use Rattle.node_keeper.specs.Doing.{IsReplyOutcomeAt}
use Rattle.node_effects.specs.Errors.{IsUnwritten}
use Rattle.node_effects.specs.Work.{IsGrown}
use Rattle.std.specs.List.{AllByRecursion}
use Rattle.letter.specs.declared.letter.NamedLetter.{NamedLetter}
use Rattle.node_effects.proofs.GrowthLemmas.{grown_then}
use Rattle.node_keeper.specs.Delivering.{CanTake, tell_growth}
use Rattle.node_keeper.specs.Fitting.{IsSendable}
use Rattle.node_keeper.specs.Sendings.{asked, sent_growth}
use Rattle.node_keeper.proofs.FittingLemmas.{take_unsent, unwritten_more}
use Rattle.node_keeper.proofs.LetterLemmas.{taken_acts}
use Rattle.node_keeper.proofs.ResultLemmas.{err_same, if_ok_both, if_on}
use Rattle.node_keeper.proofs.keeper.Keeper.take.Goals as goal

pub returns-clause-takes : goal.returns-clause-takes
returns-clause-takes c =
    let old = c.args.self.now in
    let n = old.ids.node in
    let ended = c.in_ok-progress.progress.ended in
    let letters = c.in_ok-progress.progress.letters.items in
    let same = c.in_ok-it.ensures.same in
    if_ok_both c.tell.result c.tell.ensures.told c.tell.ensures.grown (λ delivered told grown. (
      ended,
      told,
      record {
        letters = letters;
        done = subst (λ (i : NamedLetter). IsReplyOutcomeAt old.objects i.name i.letter c.take.new.self letters (option_to_list ended)) same
            c.in_ok-progress.ensures.done;
        grown = grown_then c.args.work.now c.log_take.new.work c.tell.new.work _ _ c.in_ok-it.ensures.logged
            (grown_then c.log_take.new.work c.post.new.work c.tell.new.work _ _
            (subst (λ (i : NamedLetter). IsGrown c.log_take.new.work c.post.new.work
            (sent_growth n old.digest (asked n i.name letters))) same c.in_ok-post.ensures.grown)
            (subst (λ (i : NamedLetter). IsGrown c.post.new.work c.tell.new.work (tell_growth i.name ended)) same grown));
        fits = record {
          logged = c.in_ok-it.ensures.writes;
          sent = subst (λ (i : NamedLetter). AllByRecursion (IsSendable n old.digest) (asked n i.name letters)) same
              c.in_ok-post.ensures.writes;
        };
        rest = record { file = refl; digest = refl; ids = refl };
      },
    ))

pub returns-clause-acts : goal.returns-clause-acts
returns-clause-acts c =
    if_on c.tell.result (returns-clause-takes c)
    (λ delivered takes asker. taken_acts c.args.it c.args.self.now _ c.args.work.now c.tell.new.work takes.0 takes.2
    c.requires.heeded asker)

pub returns-in_err-it-clause-refused : goal.returns-in_err-it-clause-refused
returns-in_err-it-clause-refused c =
    let error = c.in_err-it.field-0.0 in
    err_same _ c.from_residual.result error c.from_residual.ensures.1
    (unwritten_more _ _ (λ (can : CanTake c.args.it c.args.self.now). can.0) error c.in_err-it.ensures.writes)

pub returns-in_err-post-clause-refused : goal.returns-in_err-post-clause-refused
returns-in_err-post-clause-refused c =
    let old = c.args.self.now in
    let n = old.ids.node in
    let error = c.in_err-post.field-0.0 in
    let ended = c.in_ok-progress.progress.ended in
    let letters = c.in_ok-progress.progress.letters.items in
    let same = c.in_ok-it.ensures.same in
    err_same _ c.from_residual-in_err-post.result error c.from_residual-in_err-post.ensures.1
    (take_unsent c.args.it old c.take.new.self letters (option_to_list ended)
    (subst (λ (i : NamedLetter). IsReplyOutcomeAt old.objects i.name i.letter c.take.new.self letters (option_to_list ended)) same
    c.in_ok-progress.ensures.done) error
    (subst (λ (i : NamedLetter). IsUnwritten (AllByRecursion (IsSendable n old.digest) (asked n i.name letters)) error) same
    c.in_err-post.ensures.writes))
