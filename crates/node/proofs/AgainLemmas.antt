-- Requests that are sent again at a tick.
use Rattle.std.proofs.Common.{◌≡◌, ℕ, Bool, true, false, not, ◌&&◌, ◌||◌, List, [], ◌∷◌, ◌++◌, Option, None, Some}
use Rattle.std.proofs.Common.{OnOk, Result, Ok, Err, refl, sym, subst, ap, ◌∙◌}
use Rattle.std.proofs.lemmas.List.{append-nil, append_assoc, map-append}
use Rattle.node_strings.specs.Strings.{Strings}
use Rattle.node_strings.specs.declared.arrival.Arrival.{Arrival}
use Rattle.node_strings.specs.declared.arrival.Arrival.TheVariants as arrived
use Rattle.indexmap.specs.IndexMap.{keys}
use Rattle.node_effects.specs.Work.{send_all}
use Rattle.node_effects.specs.declared.output.Output.{Output}
use Rattle.node_effects.specs.declared.output.Output.TheVariants as output
use Rattle.node_effects.specs.declared.work.Work.{Work}
use Rattle.node_clients.specs.Served.{AreServicesDone, IsServiceDone}
use Rattle.node_clients.specs.Services.{Service}
use Rattle.node_clients.specs.declared.desk.Desk.{Desk}
use Rattle.node_clients.specs.declared.open_call.Aged.{Aged}
use Rattle.node_keeper.specs.Sendings.{Sending, posted}
use Rattle.node_keeper.specs.declared.keeper.Keeper.{Keeper}
use Rattle.node_keeper.proofs.SendingLemmas.{posted_append}
use Rattle.node.specs.Serving.{AreTicksOf, IsTickOf, ServesTicks}
use Rattle.node_messages.specs.Reading.{message_from}
use Rattle.node.specs.Hearing.{HearsIfRead}
use Rattle.node.specs.Ticks.{AreFirst, AreTicked, DoesFirst, IsDoneFirst, IsKeptAs, IsKeptAtAge, IsTicked, PutsOut}
use Rattle.node_messages.specs.Reading.{message_from}
use Rattle.node.specs.Hearing.{HearsIfRead}
use Rattle.node.specs.Ticks.{hearing, SendsAgain, again_if, aged_at, sent_at_age}
use Rattle.node.specs.declared.node.Node.{Node}

-- One call

one_of : (ticks : ℕ) (delta : Option ℕ) (id : ℕ) (a b : Desk) (services : List Service) → AreTicksOf (id ∷ []) services →
    AreServicesDone ticks delta a services b → (service : Service) × IsTickOf id service × IsServiceDone ticks delta a service b
one_of ticks delta id a b [] is done = absurd is
one_of ticks delta id a b (x ∷ []) is done = (x, is.0, subst (λ (d : Desk). IsServiceDone ticks delta a x d) (sym done.2) done.1)
one_of ticks delta id a b (x ∷ y ∷ more) is done = absurd is.1

pub ticked : (id : ℕ) (a b : Node) (u v : Work) (sends : List Sending) → ServesTicks (id ∷ []) a u b v →
    sends ≡ sent_at_age a.keeper id (aged_at a id) → IsKeptAtAge a.keeper id (aged_at a id) b.keeper → IsTicked id a sends b
ticked id a b u v sends s sent kept =
    let one = one_of a.keeper.file.ticks a.keeper.file.fixed.delta id a.desk b.desk s.services s.ticks s.serves.has.served in
    record { service = one.0; tick = one.1; done = one.2; sent = sent; kept = kept }

-- two facts of a call that succeeds
pub on_ok_both : {T E P Q R : Type 0} (result : Result T E) → OnOk result P → OnOk result Q → (P → Q → R) → OnOk result R
on_ok_both (Ok x) p q f = f p q
on_ok_both (Err e) p q f = p

-- three facts of such a call
pub on_ok_three : {T E P Q R S : Type 0} (result : Result T E) → OnOk result P → OnOk result Q → OnOk result R → (P → Q → R → S) →
    OnOk result S
on_ok_three (Ok x) p q r f = f p q r
on_ok_three (Err e) p q r f = p

-- if no letters are sent, the outputs stay as they are
pub nothing_out : (keeper : Keeper) (outputs : List Output) (sends : List Sending) → sends ≡ [] →
    PutsOut keeper sends outputs outputs
nothing_out keeper outputs sends e = subst (λ xs. PutsOut keeper xs outputs outputs) (sym e) (sym (append-nil outputs))

-- what a call sends again by what was returned of it
pub none_sent : (keeper : Keeper) (id : ℕ) (aged : Option Aged) → aged ≡ None → sent_at_age keeper id aged ≡ []
none_sent keeper id aged e = ap (λ a. sent_at_age keeper id a) e

pub none_kept : (keeper : Keeper) (id : ℕ) (aged : Option Aged) → aged ≡ None → IsKeptAtAge keeper id aged keeper
none_kept keeper id aged e = subst (λ a. IsKeptAtAge keeper id a keeper) (sym e) refl

pub late_sent : (keeper : Keeper) (id : ℕ) (aged : Option Aged) (call : Aged) → aged ≡ Some call → call.is_late ≡ true →
    again_if (call.is_move && call.asks_again) call.asks_all keeper call.name id ≡ sent_at_age keeper id aged
late_sent keeper id aged call e late =
    subst (λ a. again_if (call.is_move && call.asks_again) call.asks_all keeper call.name id ≡ sent_at_age keeper id a) (sym e)
    (go call.is_late late)
  where
    go : (b : Bool) → b ≡ true → again_if (call.is_move && call.asks_again) call.asks_all keeper call.name id ≡
        again_if ((not b || call.is_move) && call.asks_again) call.asks_all keeper call.name id
    go true is = refl
    go false is = absurd (cc)

pub late_kept : (keeper new : Keeper) (id : ℕ) (aged : Option Aged) (call : Aged) → aged ≡ Some call → call.is_late ≡ true →
    IsKeptAs (not call.is_move) call.asks_again keeper call.name id new → IsKeptAtAge keeper id aged new
late_kept keeper new id aged call e late kept =
    subst (λ a. IsKeptAtAge keeper id a new) (sym e)
    (subst (λ b. IsKeptAs (b && not call.is_move) call.asks_again keeper call.name id new) (sym late) kept)

pub timely_sent : (keeper : Keeper) (id : ℕ) (aged : Option Aged) (call : Aged) → aged ≡ Some call → call.is_late ≡ false →
    again_if call.asks_again call.asks_all keeper call.name id ≡ sent_at_age keeper id aged
timely_sent keeper id aged call e timely =
    subst (λ a. again_if call.asks_again call.asks_all keeper call.name id ≡ sent_at_age keeper id a) (sym e) (go call.is_late timely)
  where
    go : (b : Bool) → b ≡ false → again_if call.asks_again call.asks_all keeper call.name id ≡
        again_if ((not b || call.is_move) && call.asks_again) call.asks_all keeper call.name id
    go true is = absurd (cc)
    go false is = refl

pub timely_kept : (keeper new : Keeper) (id : ℕ) (aged : Option Aged) (call : Aged) → aged ≡ Some call → call.is_late ≡ false →
    IsKeptAs false call.asks_again keeper call.name id new → IsKeptAtAge keeper id aged new
timely_kept keeper new id aged call e timely kept =
    subst (λ a. IsKeptAtAge keeper id a new) (sym e)
    (subst (λ b. IsKeptAs (b && not call.is_move) call.asks_again keeper call.name id new) (sym timely) kept)

-- a call that asks again, or does not, changes neither the node's cluster file nor the source of its ids
pub kept_rest : (asks : Bool) (keeper new : Keeper) (name : List ℕ) (id : ℕ) → IsKeptAs false asks keeper name id new →
    (new.file ≡ keeper.file) × (new.ids ≡ keeper.ids)
kept_rest false keeper new name id kept = (ap (λ (k : Keeper). k.file) kept, ap (λ (k : Keeper). k.ids) kept)
kept_rest true keeper new name id kept = (kept.rest.file, kept.rest.ids)

-- Calls one after another

frames_then : (number : ℕ) (digest : List ℕ) (xs ys : List Sending) → send_all (posted number digest (xs ++ ys)) ≡
    send_all (posted number digest xs) ++ send_all (posted number digest ys)
frames_then number digest xs ys =
    ap send_all (posted_append number digest xs ys)
    ∙ map-append (λ (frame : Strings). output.Send frame) (posted number digest xs) (posted number digest ys)

ticked_then : (first : List ℕ) (id : ℕ) (a b c : Node) (xs ys : List Sending) → AreTicked first a xs b →
    IsTicked id b ys c → AreTicked (first ++ id ∷ []) a (xs ++ ys) c
ticked_then [] id a b c xs ys f s =
    (c, ys, [], ap (λ zs. zs ++ ys) f.0 ∙ sym (append-nil ys), subst (λ (n : Node). IsTicked id n ys c) f.1 s, (refl, refl))
ticked_then (x ∷ first) id a b c xs ys f s = (
  f.0,
  f.1,
  f.2 ++ ys,
  ap (λ zs. zs ++ ys) f.3 ∙ append_assoc f.1 f.2 ys,
  f.4,
  ticked_then first id f.0 b c f.2 ys f.5 s,
)

-- no call has grown older yet, so nothing is sent again
pub none_again : (node : Node) (outputs : List Output) → SendsAgain [] node outputs node outputs
none_again node outputs = record { sends = []; ticked = (refl, refl); outputs = sym (append-nil outputs) }

pub again_then : (first : List ℕ) (id : ℕ) (a b c : Node) (u v w : List Output) (ys : List Sending) →
    b.keeper.ids.node ≡ a.keeper.ids.node → b.keeper.digest ≡ a.keeper.digest → SendsAgain first a u b v →
    IsTicked id b ys c → PutsOut b.keeper ys v w → SendsAgain (first ++ id ∷ []) a u c w
again_then first id a b c u v w ys number digest s t out =
    let n = a.keeper.ids.node in
    let d = a.keeper.digest in record {
      sends = s.sends ++ ys;
      ticked = ticked_then first id a b c s.sends ys s.ticked t;
      outputs = out ∙ ap (λ m. v ++ send_all (posted m b.keeper.digest ys)) number
          ∙ ap (λ e. v ++ send_all (posted n e ys)) digest ∙ ap (λ xs. xs ++ send_all (posted n d ys)) s.outputs
          ∙ append_assoc u (send_all (posted n d s.sends)) (send_all (posted n d ys))
          ∙ ap (λ xs. u ++ xs) (sym (frames_then n d s.sends ys));
    }

-- All that is put out

-- what comes first among outputs still comes first if more outputs follow
pub first_stays : (first before after more : List Output) → after ≡ before ++ more → AreFirst first before →
    AreFirst first after
first_stays first before after more e is =
    (is.0 ++ more, e ∙ ap (λ xs. xs ++ more) is.1 ∙ append_assoc first is.0 more)

pub asked_again : (came : Option Arrival) (old middle : Node) (before first all : List Output) → before ≡ [] →
    DoesFirst came old before middle first → AreFirst first all → IsDoneFirst came old all
asked_again None old middle before first all empty is are = (middle, first, tt, are)
asked_again (Some (arrived.Command client frame)) old middle before first all empty is are = (middle, first, tt, are)
asked_again (Some (arrived.Left client)) old middle before first all empty is are = (middle, first, tt, are)
asked_again (Some (arrived.Message sender frame)) old middle before first all empty is are = (
  middle,
  first,
  subst (λ xs. HearsIfRead sender (message_from frame) old.keeper xs middle.keeper first) empty is,
  are,
)
asked_again (Some (arrived.Tick heard)) old middle before first all empty is are =
    (middle, first, subst (λ xs. SendsAgain (keys old.desk.calls) (hearing heard old) xs middle first) empty is, are)
