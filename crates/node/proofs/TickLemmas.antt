-- Calls that are older by a tick, as what a node does for its clients.
use Rattle.std.proofs.Common.{◌≡◌, ℕ, Bool, true, false, [], ◌∷◌, ◌++◌, Option, None, Some}
use Rattle.std.proofs.Common.{refl, sym, subst, ap, ◌∙◌}
use Rattle.std.specs.Prelude.{IfSome}
use Rattle.std.proofs.lemmas.List.{append-nil}
use Rattle.client_commands.specs.declared.answer.Answer.TheVariants as answers
use Rattle.client_commands.specs.declared.answer.AnswerError.TheVariants as errors
use Rattle.node_effects.specs.Work.{IsGrown}
use Rattle.node_effects.specs.declared.work.Work.{Work}
use Rattle.node_clients.specs.Calls.{aged_call, aged_of, becomes_late, call_under, is_move_open, waiting_for}
use Rattle.node_clients.specs.Desk.{growth_for, has_listener, listener, with_give_up, with_told}
use Rattle.node_clients.specs.Served.{IsCallClosed, IsOlder, IsReleased}
use Rattle.node_clients.specs.Services.{Service}
use Rattle.node_clients.specs.declared.desk.Desk.{Desk}
use Rattle.node_clients.specs.declared.open_call.Aged.{Aged}
use Rattle.node_clients.specs.declared.open_call.OpenCall.{OpenCall}
use Rattle.node_clients.proofs.ServedLemmas.{growth_dues, growth_frames, growth_notices}
use Rattle.node_keeper.specs.declared.keeper.Keeper.{Keeper}
use Rattle.node.specs.Serving.{SeesNothing, ServesLate, ServesTicks}
use Rattle.node.specs.declared.node.Node.{Node}
use Rattle.node.proofs.ServingLemmas.{serves_one}
use Rattle.std.proofs.Common.{List}
use Rattle.node.specs.Serving.{AreTicksOf}
use Rattle.node.proofs.ServingLemmas.{serves_none, serves_then}
use Rattle.node.proofs.FitComingLemmas.{served_fit, ticks_bring_none}
use Rattle.node.proofs.FitDeskLemmas.{found_call}
use Rattle.node.proofs.StayingLemmas.{left_then, unchanged}
use Rattle.node.specs.FitDesks.{IsFitDesk, IsFitOpenCall}
use Rattle.writable.specs.Keepers.{IsFitKeeper, IsLeftFit, IsShortName}

ticks_append : (first second : List ℕ) (xs ys : List Service) → AreTicksOf first xs → AreTicksOf second ys →
    AreTicksOf (first ++ second) (xs ++ ys)
ticks_append [] second [] ys f s = s
ticks_append [] second (x ∷ xs) ys f s = absurd f
ticks_append (id ∷ first) second [] ys f s = absurd f
ticks_append (id ∷ first) second (x ∷ xs) ys f s = (f.0, ticks_append first second xs ys f.1 s)

pub ticks_then : (first second : List ℕ) (a b c : Node) (u v w : Work) → ServesTicks first a u b v →
    ServesTicks second b v c w → ServesTicks (first ++ second) a u c w
ticks_then first second a b c u v w f s = record {
  services = f.services ++ s.services;
  ticks = ticks_append first second f.services s.services f.ticks s.ticks;
  serves = serves_then a b c u v w f.services s.services f.serves s.serves;
  fit = λ desk keeper. left_then b.keeper c.keeper u v w (f.fit desk keeper)
      (s.fit (served_fit a b u v f.services desk (ticks_bring_none first f.services f.ticks) f.serves));
}

-- no call is older by a tick
pub no_ticks : (node : Node) (work : Work) → ServesTicks [] node work node work
no_ticks node work = record {
  services = [];
  ticks = tt;
  serves = serves_none node node work work refl refl refl refl refl refl;
  fit = λ desk keeper. unchanged node.keeper work keeper;
}

pub some_late : (ticks : ℕ) (call : Option OpenCall) (aged : Aged) → Some aged ≡ aged_call ticks call →
    becomes_late ticks call ≡ aged.is_late
some_late ticks None aged e = absurd (cc)
some_late ticks (Some call) aged e =
    let same : aged ≡ aged_of ticks call = cc in
    ap (λ (a : Aged). a.is_late) (sym same)

pub some_move : (ticks : ℕ) (call : Option OpenCall) (aged : Aged) → Some aged ≡ aged_call ticks call →
    is_move_open call ≡ aged.is_move
some_move ticks None aged e = absurd (cc)
some_move ticks (Some call) aged e =
    let same : aged ≡ aged_of ticks call = cc in
    ap (λ (a : Aged). a.is_move) (sym same)

pub none_late : (ticks : ℕ) (call : Option OpenCall) → None ≡ aged_call ticks call → becomes_late ticks call ≡ false
none_late ticks None e = refl
none_late ticks (Some call) e = absurd (cc)

-- the name of a call that gets older is short
pub aged_short : (ticks : ℕ) (desk : Desk) (id : ℕ) (aged : Aged) → IsFitDesk desk →
    Some aged ≡ aged_call ticks (call_under desk.calls id) → IsShortName aged.name
aged_short ticks desk id aged fit e = go (call_under desk.calls id) (found_call desk id fit.calls) e
  where
    go : (o : Option OpenCall) → IfSome o IsFitOpenCall → Some aged ≡ aged_call ticks o → IsShortName aged.name
    go None is e = absurd (cc)
    go (Some call) is e =
        let same : aged ≡ aged_of ticks call = cc in
        subst (λ (a : Aged). IsShortName a.name) (sym same) is.name

-- a call that is not late
pub call_ages : (id : ℕ) (old new : Node) (u v : Work) →
    becomes_late old.keeper.file.ticks (call_under old.desk.calls id) ≡ false → IsOlder old.desk id new.desk →
    new.keeper.file ≡ old.keeper.file → new.keeper.ids ≡ old.keeper.ids → SeesNothing u v →
    (IsFitDesk old.desk → IsFitKeeper old.keeper → IsLeftFit u new.keeper v) → ServesTicks (id ∷ []) old u new v
call_ages id old new u v late older file ids nothing fit = record {
  services = Service.Ages id ∷ [];
  ticks = (refl, tt);
  serves = serves_one old new u v (Service.Ages id) (late, older) (nothing.told ∙ sym (append-nil u.to_clients.items))
      (nothing.due ∙ sym (append-nil u.due.items)) (nothing.notices ∙ sym (append-nil u.notices.items)) tt file ids;
  fit = fit;
}

-- a call that is late
pub call_is_late : (id : ℕ) (is_move : Bool) (old between new : Node) (u v : Work) →
    becomes_late old.keeper.file.ticks (call_under old.desk.calls id) ≡ true →
    is_move_open (call_under old.desk.calls id) ≡ is_move → IsOlder old.desk id between.desk → between.keeper ≡ old.keeper →
    ServesLate id is_move between u new v → (IsFitDesk old.desk → IsFitKeeper old.keeper → IsLeftFit u new.keeper v) →
    ServesTicks (id ∷ []) old u new v
call_is_late id true old between new u v late move older same s fit = record {
  services = Service.Releases id s.who ∷ [];
  ticks = (refl, tt);
  serves = serves_one old new u v (Service.Releases id s.who) (late, move, between.desk, older, s.late) s.told s.due
      (s.notices ∙ sym (append-nil u.notices.items)) tt (s.file ∙ ap (λ (k : Keeper). k.file) same)
      (s.ids ∙ ap (λ (k : Keeper). k.ids) same);
  fit = fit;
}
call_is_late id false old between new u v late move older same s fit = record {
  services = Service.GivesUp id s.who ∷ [];
  ticks = (refl, tt);
  serves = serves_one old new u v (Service.GivesUp id s.who) (late, move, between.desk, older, s.late.0, s.late.1) s.told s.due
      (s.notices ∙ sym (append-nil u.notices.items)) tt (s.file ∙ ap (λ (k : Keeper). k.file) same)
      (s.ids ∙ ap (λ (k : Keeper). k.ids) same);
  fit = fit;
}

-- a move that is late, which asks again
pub late_move : (id : ℕ) (old new : Node) (u v w : Work) →
    IsGrown u v (growth_for old.desk (waiting_for old.desk.calls id) (answers.Error errors.NoQuorum)) → SeesNothing v w →
    IsReleased old.desk id (listener old.desk (waiting_for old.desk.calls id)) new.desk →
    new.keeper.file ≡ old.keeper.file → new.keeper.ids ≡ old.keeper.ids → ServesLate id true old u new w
late_move id old new u v w grown nothing released file ids =
    let who = waiting_for old.desk.calls id in
    let answer = answers.Error errors.NoQuorum in record {
      who = listener old.desk who;
      late = released;
      told = nothing.told ∙ grown.to_clients ∙ ap (λ xs. u.to_clients.items ++ xs) (growth_frames old.desk who answer);
      due = nothing.due ∙ grown.due ∙ ap (λ xs. u.due.items ++ xs) (growth_dues old.desk who answer);
      notices = nothing.notices ∙ grown.notices ∙ ap (λ xs. u.notices.items ++ xs) (growth_notices old.desk who answer)
          ∙ append-nil u.notices.items;
      file = file;
      ids = ids;
    }

-- a read or a write that is late
pub late_call : (id : ℕ) (old new : Node) (u w : Work) →
    IsGrown u w (growth_for old.desk (waiting_for old.desk.calls id) (answers.Error errors.NoQuorum)) →
    IsCallClosed old.desk id (listener old.desk (waiting_for old.desk.calls id)) new.desk →
    new.desk.counts ≡ with_told (has_listener old.desk (waiting_for old.desk.calls id)) (with_give_up old.desk.counts) →
    new.keeper.file ≡ old.keeper.file → new.keeper.ids ≡ old.keeper.ids → ServesLate id false old u new w
late_call id old new u w grown closed counts file ids =
    let who = waiting_for old.desk.calls id in
    let answer = answers.Error errors.NoQuorum in record {
      who = listener old.desk who;
      late = (closed, counts);
      told = grown.to_clients ∙ ap (λ xs. u.to_clients.items ++ xs) (growth_frames old.desk who answer);
      due = grown.due ∙ ap (λ xs. u.due.items ++ xs) (growth_dues old.desk who answer);
      notices = grown.notices ∙ ap (λ xs. u.notices.items ++ xs) (growth_notices old.desk who answer)
          ∙ append-nil u.notices.items;
      file = file;
      ids = ids;
    }
