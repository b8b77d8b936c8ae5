use Rattle.std.proofs.Common.{[], ◌≡◌, ℕ, List, refl, sym, subst, ap, ◌∙◌}
use Rattle.std.proofs.lemmas.List.{append-nil}
use Rattle.node_effects.specs.Seen.{named_of}
use Rattle.node_keeper.specs.Keeping.{if_heeded, kept_of}
use Rattle.node_keeper.proofs.ActLemmas.{acts_more}
use Rattle.node.proofs.TellLemmas.{tells_acts}
use Rattle.letter.specs.declared.letter.NamedLetter.{NamedLetter}
use Rattle.node_effects.specs.declared.output.Output.{Output}
use Rattle.node_effects.specs.declared.work.Work.{Work}
use Rattle.node_keeper.specs.Delivering.{CanDeliver, DeliversLetter}
use Rattle.node_keeper.specs.declared.delivered.Delivered.{Delivered}
use Rattle.node_keeper.specs.declared.delivered.Delivered.TheVariants as delivered
use Rattle.node_keeper.specs.declared.keeper.Keeper.{Keeper}
use Rattle.node_clients.specs.Answers.{CanBeSent}
use Rattle.node.specs.Failures.{CanHear}
use Rattle.node.proofs.FailureLemmas.{same_error, unwritten_fails}
use Rattle.node.specs.Hearing.{Hears}
use Rattle.node.specs.declared.node.Node.{Node}
use Rattle.node_clients.specs.Calls.{call_answer, call_under, rest_of, waiting_for}
use Rattle.node_clients.proofs.EndLemmas.{EndsAs, concluded}
use Rattle.node.proofs.KeeperLemmas.{ended_served, is_received, none_ended_served, received}
use Rattle.node.proofs.StayingLemmas.{left_then, told_left}
use Rattle.writable.proofs.DeliveryLemmas.{delivered_fit}
use Rattle.node.proofs.node.Node.deliver.Goals as goal

pub returns-in_ok-end-in-Ended-clause-acts : goal.returns-in_ok-end-in-Ended-clause-acts
returns-in_ok-end-in-Ended-clause-acts c =
    let old = c.args.self.now.keeper in
    let new = c.deliver.new.self in
    acts_more c.args.sender (if_heeded (kept_of old) (named_of c.args.it)) old new new c.args.work.now c.deliver.new.work
    c.end.new.work c.in_ok-deliver.ensures.acts
    (tells_acts c.args.sender [] new c.deliver.new.work c.end.new.work c.in_ok-end-in-Ended.ensures.tells)

pub returns-in-Dropped-clause-serves : goal.returns-in-Dropped-clause-serves
returns-in-Dropped-clause-serves c =
    let old = c.args.self.now in
    let new : Node = record old { keeper = c.deliver.new.self } in
    none_ended_served c.args.sender c.args.it old new c.args.work.now c.deliver.new.work delivered.Dropped
    (subst (λ result. DeliversLetter c.args.sender c.args.it old.keeper c.args.work.now c.deliver.new.self c.deliver.new.work result)
    c.in-Dropped.is c.in_ok-deliver.ensures.delivers) refl refl

pub returns-in-Handled-clause-serves : goal.returns-in-Handled-clause-serves
returns-in-Handled-clause-serves c =
    let old = c.args.self.now in
    let new : Node = record old { keeper = c.deliver.new.self } in
    none_ended_served c.args.sender c.args.it old new c.args.work.now c.deliver.new.work delivered.Handled
    (subst (λ result. DeliversLetter c.args.sender c.args.it old.keeper c.args.work.now c.deliver.new.self c.deliver.new.work result)
    c.in-Handled.is c.in_ok-deliver.ensures.delivers) refl refl

pub returns-in-Declined-clause-serves : goal.returns-in-Declined-clause-serves
returns-in-Declined-clause-serves c =
    let old = c.args.self.now in
    let new : Node = record old { keeper = c.deliver.new.self } in
    none_ended_served c.args.sender c.args.it old new c.args.work.now c.deliver.new.work delivered.Declined
    (subst (λ result. DeliversLetter c.args.sender c.args.it old.keeper c.args.work.now c.deliver.new.self c.deliver.new.work result)
    c.in-Declined.is c.in_ok-deliver.ensures.delivers) refl refl

pub returns-in_ok-end-in-Ended-clause-serves : goal.returns-in_ok-end-in-Ended-clause-serves
returns-in_ok-end-in-Ended-clause-serves c =
    let old = c.args.self.now in
    let new : Node = record old { keeper = c.deliver.new.self; desk = c.end.new.self } in
    let ended = c.in-Ended.ended in
    let delta = c.delta-delta.result in
    let is = c.in_ok-end-in-Ended.ensures in
    ended_served c.args.sender c.args.it old new c.args.work.now c.deliver.new.work ended c.end.new.work
    (subst (λ result. DeliversLetter c.args.sender c.args.it old.keeper c.args.work.now c.deliver.new.self c.deliver.new.work result)
    c.in-Ended.is c.in_ok-deliver.ensures.delivers)
    (subst (λ d. EndsAs old.keeper.file.ticks d c.args.it.name ended old.desk c.deliver.new.work c.end.new.self c.end.new.work)
    c.delta-delta.ensures
    (concluded old.keeper.file.ticks delta c.args.it.name ended old.desk c.end.new.self c.deliver.new.work c.end.new.work
    (waiting_for old.desk.calls ended.id) refl (rest_of delta (call_under old.desk.calls ended.id)) refl is.told
    (record { gone = c.end.ensures.gone; others = c.end.ensures.others; idle = is.idle; counts = is.counts })))

pub returns-in-Dropped-clause-received : goal.returns-in-Dropped-clause-received
returns-in-Dropped-clause-received c =
    ap received (sym c.in-Dropped.is)
    ∙ is_received c.args.sender c.args.it c.args.self.now.keeper c.deliver.new.self c.args.work.now c.deliver.new.work _
    c.in_ok-deliver.ensures.delivers

pub returns-in-Handled-clause-received : goal.returns-in-Handled-clause-received
returns-in-Handled-clause-received c =
    ap received (sym c.in-Handled.is)
    ∙ is_received c.args.sender c.args.it c.args.self.now.keeper c.deliver.new.self c.args.work.now c.deliver.new.work _
    c.in_ok-deliver.ensures.delivers

pub returns-in-Declined-clause-received : goal.returns-in-Declined-clause-received
returns-in-Declined-clause-received c =
    ap received (sym c.in-Declined.is)
    ∙ is_received c.args.sender c.args.it c.args.self.now.keeper c.deliver.new.self c.args.work.now c.deliver.new.work _
    c.in_ok-deliver.ensures.delivers

pub returns-in_ok-end-in-Ended-clause-received : goal.returns-in_ok-end-in-Ended-clause-received
returns-in_ok-end-in-Ended-clause-received c =
    ap received (sym c.in-Ended.is)
    ∙ is_received c.args.sender c.args.it c.args.self.now.keeper c.deliver.new.self c.args.work.now c.deliver.new.work _
    c.in_ok-deliver.ensures.delivers

-- what was delivered was heard
heard : (sender : ℕ) (it : NamedLetter) (old new : Keeper) (before after : Work) (result : Delivered) (outputs : List Output) →
    DeliversLetter sender it old before new after result → after.outputs.items ≡ outputs →
    Hears sender it old before.outputs.items new outputs
heard sender it old new before after result outputs delivers same = record {
  first = before;
  then = after;
  result = result;
  delivers = delivers;
  before_are = refl;
  after_are = same;
}

pub returns-in-Dropped-clause-hears : goal.returns-in-Dropped-clause-hears
returns-in-Dropped-clause-hears c =
    heard c.args.sender c.args.it c.args.self.now.keeper c.deliver.new.self c.args.work.now c.deliver.new.work _
    c.deliver.new.work.outputs.items c.in_ok-deliver.ensures.delivers refl

pub returns-in-Handled-clause-hears : goal.returns-in-Handled-clause-hears
returns-in-Handled-clause-hears c =
    heard c.args.sender c.args.it c.args.self.now.keeper c.deliver.new.self c.args.work.now c.deliver.new.work _
    c.deliver.new.work.outputs.items c.in_ok-deliver.ensures.delivers refl

pub returns-in-Declined-clause-hears : goal.returns-in-Declined-clause-hears
returns-in-Declined-clause-hears c =
    heard c.args.sender c.args.it c.args.self.now.keeper c.deliver.new.self c.args.work.now c.deliver.new.work _
    c.deliver.new.work.outputs.items c.in_ok-deliver.ensures.delivers refl

pub returns-in_ok-end-in-Ended-clause-hears : goal.returns-in_ok-end-in-Ended-clause-hears
returns-in_ok-end-in-Ended-clause-hears c =
    heard c.args.sender c.args.it c.args.self.now.keeper c.deliver.new.self c.args.work.now c.deliver.new.work _
    c.end.new.work.outputs.items c.in_ok-deliver.ensures.delivers
    (sym (c.in_ok-end-in-Ended.ensures.tells.grown.outputs ∙ append-nil c.deliver.new.work.outputs.items))

pub returns-in_err-end-in-Ended-clause-refused : goal.returns-in_err-end-in-Ended-clause-refused
returns-in_err-end-in-Ended-clause-refused c =
    let old = c.args.self.now in
    let sender = c.args.sender in
    let it = c.args.it in
    let ended = c.in-Ended.ended in
    let new = c.deliver.new in
    let fits = CanBeSent (call_answer (call_under old.desk.calls ended.id) ended) in
    let error = c.in_err-end-in-Ended.field-0.0 in
    same_error _ c.from_residual-in_err-end-in-Ended.result error c.from_residual-in_err-end-in-Ended.ensures.1
    (unwritten_fails ⊥ fits (CanHear sender it old)
    (λ can. can.1 c.args.work.now new.work new.self ended
    (subst (λ result. DeliversLetter sender it old.keeper c.args.work.now new.self new.work result) c.in-Ended.is
    c.in_ok-deliver.ensures.delivers)) error c.in_err-end-in-Ended.ensures.refused)

pub returns-in_err-deliver-clause-refused : goal.returns-in_err-deliver-clause-refused
returns-in_err-deliver-clause-refused c =
    let old = c.args.self.now in
    let sender = c.args.sender in
    let it = c.args.it in
    let error = c.in_err-deliver.field-0.0 in
    same_error _ c.from_residual.result error c.from_residual.ensures.1
    (unwritten_fails ⊥ (CanDeliver sender it old.keeper) (CanHear sender it old) (λ can. can.0) error
    c.in_err-deliver.ensures.refused)

pub returns-in-Dropped-clause-fit : goal.returns-in-Dropped-clause-fit
returns-in-Dropped-clause-fit c = λ small is fit.
    (delivered_fit c.args.self.now.keeper c.deliver.new.self c.args.sender c.args.it c.args.work.now c.deliver.new.work _ fit small is
    c.in_ok-deliver.ensures.delivers).0

pub returns-in-Handled-clause-fit : goal.returns-in-Handled-clause-fit
returns-in-Handled-clause-fit c = λ small is fit.
    (delivered_fit c.args.self.now.keeper c.deliver.new.self c.args.sender c.args.it c.args.work.now c.deliver.new.work _ fit small is
    c.in_ok-deliver.ensures.delivers).0

pub returns-in-Declined-clause-fit : goal.returns-in-Declined-clause-fit
returns-in-Declined-clause-fit c = λ small is fit.
    (delivered_fit c.args.self.now.keeper c.deliver.new.self c.args.sender c.args.it c.args.work.now c.deliver.new.work _ fit small is
    c.in_ok-deliver.ensures.delivers).0

pub returns-in_ok-end-in-Ended-clause-fit : goal.returns-in_ok-end-in-Ended-clause-fit
returns-in_ok-end-in-Ended-clause-fit c = λ small is fit.
    let old = c.args.self.now.keeper in
    let new = c.deliver.new.self in
    left_then new new c.args.work.now c.deliver.new.work c.end.new.work
    (delivered_fit old new c.args.sender c.args.it c.args.work.now c.deliver.new.work _ fit small is
    c.in_ok-deliver.ensures.delivers).0
    (told_left new c.deliver.new.work c.end.new.work c.in_ok-end-in-Ended.ensures.tells)
