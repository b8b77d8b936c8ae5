use Rattle.std.proofs.Common.{rules, [], option_to_list, refl, subst, ◌∷◌}
use Rattle.local_object.specs.Doing.{serve_events}
use Rattle.node_keeper.specs.Doing.{IsOutcomeAt}
use Rattle.node_keeper.specs.Objects.{objects_of}
use Rattle.node_effects.specs.Work.{IsGrown, no_growth}
use Rattle.letter.specs.declared.letter.NamedLetter.{NamedLetter}
use Rattle.node_effects.proofs.GrowthLemmas.{grown_none, grown_then}
use Rattle.node_keeper.specs.Fitting.{IsSendable}
use Rattle.node_keeper.specs.Sendings.{sending, sent_growth, to_one}
use Rattle.node_effects.specs.Errors.{IsUnwritten}
use Rattle.node_keeper.proofs.FittingLemmas.{serve_unsent}
use Rattle.node_keeper.proofs.LetterLemmas.{served_acts}
use Rattle.node_keeper.proofs.ResultLemmas.{err_same}
use Rattle.node_keeper.proofs.keeper.Keeper.serve.Goals as goal

pub returns-in_ok-send-in-Some-clause-serves : goal.returns-in_ok-send-in-Some-clause-serves
returns-in_ok-send-in-Some-clause-serves c =
    let old = c.args.self.now in
    let asker = c.args.sender in
    let same = c.in_ok-it.ensures.same in
    let reply = c.in-Some.reply in record {
      replies = reply ∷ [];
      done = subst (λ o. IsOutcomeAt old.objects c.args.it.name (serve_events (objects_of old.objects c.args.it.name) c.args.it.letter)
          c.serve.new.self (option_to_list o)) c.in-Some.is
          (subst (λ (i : NamedLetter). IsOutcomeAt old.objects i.name (serve_events (objects_of old.objects i.name) i.letter)
          c.serve.new.self (option_to_list c.in_ok-reply.field-0)) same c.in_ok-reply.ensures.done);
      grown = grown_then c.args.work.now c.log_serve.new.work c.send.new.work _ _ c.in_ok-it.ensures.logged
          (subst (λ (i : NamedLetter). IsGrown c.log_serve.new.work c.send.new.work
          (sent_growth old.ids.node old.digest (to_one asker (record { name = i.name; letter = reply }))))
          same c.in_ok-send-in-Some.ensures.grown);
      fits = record {
        logged = c.in_ok-it.ensures.writes;
        sent = (
          subst (λ (i : NamedLetter). IsSendable old.ids.node old.digest (sending asker (record { name = i.name; letter = reply })))
              same c.in_ok-send-in-Some.ensures.writes,
          tt,
        );
      };
      rest = record { file = refl; digest = refl; ids = refl };
    }

pub returns-in-None-clause-serves : goal.returns-in-None-clause-serves
returns-in-None-clause-serves c =
    let old = c.args.self.now in
    let same = c.in_ok-it.ensures.same in record {
      replies = [];
      done = subst (λ o. IsOutcomeAt old.objects c.args.it.name (serve_events (objects_of old.objects c.args.it.name) c.args.it.letter)
          c.serve.new.self (option_to_list o)) c.in-None.is
          (subst (λ (i : NamedLetter). IsOutcomeAt old.objects i.name (serve_events (objects_of old.objects i.name) i.letter)
          c.serve.new.self (option_to_list c.in_ok-reply.field-0)) same c.in_ok-reply.ensures.done);
      grown = grown_then c.args.work.now c.log_serve.new.work c.log_serve.new.work _ no_growth c.in_ok-it.ensures.logged
          (grown_none c.log_serve.new.work);
      fits = record { logged = c.in_ok-it.ensures.writes; sent = tt };
      rest = record { file = refl; digest = refl; ids = refl };
    }

pub returns-in_ok-send-in-Some-clause-acts : goal.returns-in_ok-send-in-Some-clause-acts
returns-in_ok-send-in-Some-clause-acts c =
    served_acts c.args.sender c.args.it c.args.self.now _ c.args.work.now c.send.new.work
    (returns-in_ok-send-in-Some-clause-serves c) c.requires.heeded c.in_ok-it.ensures.unchanged

pub returns-in-None-clause-acts : goal.returns-in-None-clause-acts
returns-in-None-clause-acts c =
    served_acts c.args.sender c.args.it c.args.self.now _ c.args.work.now c.log_serve.new.work
    (returns-in-None-clause-serves c) c.requires.heeded c.in_ok-it.ensures.unchanged

pub returns-in_err-send-in-Some-clause-refused : goal.returns-in_err-send-in-Some-clause-refused
returns-in_err-send-in-Some-clause-refused c =
    let old = c.args.self.now in
    let same = c.in_ok-it.ensures.same in
    let reply = c.in-Some.reply in
    let done = subst (λ o. IsOutcomeAt old.objects c.args.it.name (serve_events (objects_of old.objects c.args.it.name) c.args.it.letter)
    c.serve.new.self (option_to_list o)) c.in-Some.is
    (subst (λ (i : NamedLetter). IsOutcomeAt old.objects i.name (serve_events (objects_of old.objects i.name) i.letter)
    c.serve.new.self (option_to_list c.in_ok-reply.field-0)) same c.in_ok-reply.ensures.done) in
    err_same _ c.from_residual-in_err-send-in-Some.result c.in_err-send-in-Some.field-0.0 c.from_residual-in_err-send-in-Some.ensures.1
    (serve_unsent c.args.sender c.args.it old c.serve.new.self reply done c.in_err-send-in-Some.field-0.0
    (subst (λ (i : NamedLetter). IsUnwritten (IsSendable old.ids.node old.digest
    (sending c.args.sender (record { name = i.name; letter = reply }))) c.in_err-send-in-Some.field-0.0)
    same c.in_err-send-in-Some.ensures.writes))

pub returns-in_err-it-clause-acts : goal.returns-in_err-it-clause-acts
returns-in_err-it-clause-acts c = search rules
