use Rattle.std.proofs.Common.{◌≡◌, ◌≢◌, not, false, true, ap, refl, sym, subst, ◌∙◌}
use Rattle.std.specs.List.{AllByRecursion}
use Rattle.std.proofs.lemmas.Option.{slice_get_within}
use Rattle.record.specs.Legal.{is_move}
use Rattle.record.specs.declared.call.CallKind.TheVariants.{Move}
use Rattle.call.specs.Call.{OpenCall as Machine}
use Rattle.open_calls.specs.OpenCalls.{NodeCall}
use Rattle.local_object.specs.Codes.{carried}
use Rattle.local_object.specs.Doing.{is_client_call}
use Rattle.local_object.proofs.BeginLemmas.{open_found}
use Rattle.local_object.proofs.CarriedCallLemmas.{open_none, same_call}
use Rattle.local_object.proofs.GivenUpCallLemmas.{give_up_done, give_up_may, give_up_none, gives_is}
use Rattle.local_object.proofs.OpenLemmas.{ended_is, object}
use Rattle.local_object.proofs.local_object.LocalObject.give_up.Goals as goal

pub returns-then-is_move-clause-done : goal.returns-then-is_move-clause-done
returns-then-is_move-clause-done c =
    let o = c.self.inside in
    let at = c.in-Some.ensures.index in
    let same = same_call at.call c.at.result.now (sym at.there ∙ c.at.ensures) in
    let moves : is_move at.call.kind ≡ true =
    ap (λ (m : Machine). is_move m.kind) same ∙ sym c.is_move.ensures ∙ c.if-is_move.true in
    give_up_none (object o.node o.delta o.start o.reports o.places o.calls) c.args.self.now c.self.view_is c.args.id c.args.self.now
    (sym (ap is_client_call (open_found o.node o.calls c.args.id c.in-Some.index c.in-Some.ensures.distinct at) ∙ ap not moves)) refl

pub returns-then-is_move-clause-given_up : goal.returns-then-is_move-clause-given_up
returns-then-is_move-clause-given_up c =
    let o = c.self.inside in
    let at = c.in-Some.ensures.index in
    let same = same_call at.call c.at.result.now (sym at.there ∙ c.at.ensures) in
    let moves : is_move at.call.kind ≡ true =
    ap (λ (m : Machine). is_move m.kind) same ∙ sym c.is_move.ensures ∙ c.if-is_move.true in
    gives_is (object o.node o.delta o.start o.reports o.places o.calls) c.args.self.now c.self.view_is c.args.id false
    (sym (ap is_client_call (open_found o.node o.calls c.args.id c.in-Some.index c.in-Some.ensures.distinct at) ∙ ap not moves))

pub returns-clause-done : goal.returns-clause-done
returns-clause-done c =
    let o = c.self.inside in
    let before = object o.node o.delta o.start o.reports o.places o.calls in
    let at = c.in-Some.ensures.index in
    let distinct = c.in-Some.ensures.distinct in
    let same = same_call at.call c.at.result.now (sym at.there ∙ c.at.ensures) in
    let stays : is_move at.call.kind ≡ false =
    ap (λ (m : Machine). is_move m.kind) same ∙ sym c.is_move.ensures ∙ c.if-is_move.false in
    give_up_done before c.args.self.now c.self.view_is c.args.id
    (record (object o.node o.delta o.start o.reports o.places c.remove.new.self) { reports = c.forget.new.self })
    (sym (ap is_client_call (open_found o.node o.calls c.args.id c.in-Some.index distinct at) ∙ ap not stays))
    (subst (λ n. AllByRecursion (λ (other : NodeCall). other.id ≡ n → other.kind ≢ Move) (carried o.node o.calls)) at.named
    (give_up_may o.node o.calls c.in-Some.index at.call distinct.distinct at.there stays))
    (ended_is o.node o.delta o.start o.reports o.places distinct at at.call at.there c.remove.new.self c.forget.new.self
    c.remove.ensures.rest c.forget.ensures)

pub returns-clause-given_up : goal.returns-clause-given_up
returns-clause-given_up c =
    let o = c.self.inside in
    let at = c.in-Some.ensures.index in
    let same = same_call at.call c.at.result.now (sym at.there ∙ c.at.ensures) in
    let stays : is_move at.call.kind ≡ false =
    ap (λ (m : Machine). is_move m.kind) same ∙ sym c.is_move.ensures ∙ c.if-is_move.false in
    gives_is (object o.node o.delta o.start o.reports o.places o.calls) c.args.self.now c.self.view_is c.args.id true
    (sym (ap is_client_call (open_found o.node o.calls c.args.id c.in-Some.index c.in-Some.ensures.distinct at) ∙ ap not stays))

pub returns-in_default-clause-done : goal.returns-in_default-clause-done
returns-in_default-clause-done c =
    let o = c.self.inside in
    give_up_none (object o.node o.delta o.start o.reports o.places o.calls) c.args.self.now c.self.view_is c.args.id c.args.self.now
    (sym (ap is_client_call (open_none o.node o.calls c.args.id c.in_default.ensures.index))) refl

pub returns-in_default-clause-given_up : goal.returns-in_default-clause-given_up
returns-in_default-clause-given_up c =
    let o = c.self.inside in
    gives_is (object o.node o.delta o.start o.reports o.places o.calls) c.args.self.now c.self.view_is c.args.id false
    (sym (ap is_client_call (open_none o.node o.calls c.args.id c.in_default.ensures.index)))

pub at-requires : goal.at-requires
at-requires c =
    let at = c.in-Some.ensures.index in slice_get_within c.self.inside.calls c.in-Some.index at.call at.there

pub remove-requires : goal.remove-requires
remove-requires c =
    let at = c.in-Some.ensures.index in slice_get_within c.self.inside.calls c.in-Some.index at.call at.there
