use Rattle.std.proofs.Common.{true, ℕ, List, [], ◌∷◌, subst, sym}
use Rattle.mail.specs.Message.{is_request}
use Rattle.node_effects.specs.Seen.{named_of}
use Rattle.node_keeper.specs.Closing.{CanClosePassed, ClosesPassed}
use Rattle.node_keeper.specs.Delivering.{CanDeliverAs}
use Rattle.node_keeper.specs.Objects.{objects_of}
use Rattle.node_keeper.proofs.ActLemmas.{acts_more}
use Rattle.node_keeper.proofs.FittingLemmas.{unwritten_more}
use Rattle.node_keeper.proofs.PassedBankLemmas.{closed_after, handled_rest, passed_rest, rest_then}
use Rattle.node_keeper.proofs.ResultLemmas.{err_same}
use Rattle.node_keeper.proofs.keeper.Keeper.handle_and_close.Goals as goal

pub returns-clause-acts : goal.returns-clause-acts
returns-clause-acts c =
    acts_more c.args.sender (named_of c.args.it ∷ []) c.args.self.now c.handle.new.self c.close_passed.new.self c.args.work.now
    c.handle.new.work c.close_passed.new.work c.in_ok-handled.ensures.acts (c.in_ok-close_passed.ensures.acts c.args.sender)

pub returns-clause-handles : goal.returns-clause-handles
returns-clause-handles c =
    let it = c.args.it in
    let asks = is_request it.letter.message.body in
    let closes = subst (λ name. ClosesPassed name c.handle.new.self c.handle.new.work c.close_passed.new.self c.close_passed.new.work)
    c.in_ok-name.ensures.cases c.in_ok-close_passed.ensures.closes in record {
      middle = c.handle.new.self;
      between = c.handle.new.work;
      handles = c.in_ok-handled.ensures.handles;
      closes = closes;
      rest = rest_then c.args.self.now c.handle.new.self c.close_passed.new.self
          (handled_rest asks c.args.sender it c.args.self.now c.handle.new.self c.args.work.now c.handle.new.work
          c.in_ok-handled.handled c.in_ok-handled.ensures.handles)
          (passed_rest it.name _ c.handle.new.self c.close_passed.new.self c.handle.new.work c.close_passed.new.work closes);
    }

pub returns-in_err-close_passed-clause-refused : goal.returns-in_err-close_passed-clause-refused
returns-in_err-close_passed-clause-refused c =
    let it = c.args.it in
    let asks = is_request it.letter.message.body in
    let middle = c.handle.new.self in
    let error = c.in_err-close_passed.field-0.0 in
    let can : List ℕ → Type 0 = λ name. CanClosePassed middle.digest name (objects_of middle.objects name) in
    err_same _ c.from_residual-in_err-close_passed.result error c.from_residual-in_err-close_passed.ensures.1
    (unwritten_more (can c.in_ok-name.name) (CanDeliverAs true asks c.args.sender it c.args.self.now)
    (λ all. subst can (sym c.in_ok-name.ensures.cases)
    (closed_after asks c.args.sender it c.args.self.now middle c.args.work.now c.handle.new.work c.in_ok-handled.handled
    c.in_ok-handled.ensures.handles all.1))
    error c.in_err-close_passed.ensures.writes)
