-- What changes the open calls of a node, but begins none, leaves them with ids that the node gave.
use Rattle.std.proofs.Common.{◌≡◌, ℕ, suc, Bool, true, false, cond, eqb, eqb-true, List, [], ◌∷◌}
use Rattle.std.proofs.Common.{Option, None, Some, refl, subst}
use Rattle.std.specs.List.{AllByRecursion, filter}
use Rattle.bank.specs.declared.kind.Kind.{Kind}
use Rattle.deeds.specs.CallId.{CallIds}
use Rattle.encoder.specs.Fragment.{fragment}
use Rattle.layout.specs.Layout.{Layout}
use Rattle.letter.specs.declared.letter.Letter.{Letter}
use Rattle.letter.specs.declared.start.Start.{Start}
use Rattle.local_object.specs.Events.{advanced_at, advanced_here, queried_here, served_here}
use Rattle.local_object.specs.Outcomes.{Outcome, layouts_learnt, learnt_from, on_open_call}
use Rattle.local_object.specs.Starting.{reads_at}
use Rattle.local_object.specs.Local.{LocalObject, heard_start_if, layout_here, learnt_if, with_heard}
use Rattle.mail.specs.declared.message.Body.{Body}
use Rattle.mail.specs.declared.message.Body.TheVariants as body
use Rattle.open_calls.specs.OpenCalls.{NodeCall, with_open}
use Rattle.open_calls.proofs.OpenCallLemmas.{all_filter}
use Rattle.open_calls.proofs.DistinctCallLemmas.{distinct_filter, distinct_with}
use Rattle.recoveries.specs.OwnCalls.{AreOwnCalls, WasGiven}

-- no more calls are open than before, each with its id
abbrev pub StaysOwn : LocalObject → LocalObject → Type 0
StaysOwn old new = (ids : CallIds) → AreOwnCalls ids old.calls → AreOwnCalls ids new.calls

given_with : (ids : CallIds) (new : NodeCall) (calls : List NodeCall) → AllByRecursion (λ (call : NodeCall). WasGiven ids call.id) calls →
    AllByRecursion (λ (call : NodeCall). WasGiven ids call.id) (with_open new calls)
given_with ids new [] given = tt
given_with ids new (first ∷ calls) given = (go (eqb first.id new.id) refl, given_with ids new calls given.1)
  where
    go : (b : Bool) → eqb first.id new.id ≡ b → WasGiven ids (cond b new first).id
    go true e = subst (WasGiven ids) (eqb-true first.id new.id e) given.0
    go false e = given.0

pub with_own : (new : NodeCall) (calls : List NodeCall) (ids : CallIds) → AreOwnCalls ids calls → AreOwnCalls ids (with_open new calls)
with_own new calls ids own = record {
  given = given_with ids new calls own.given;
  distinct = distinct_with new calls own.distinct;
}

pub filter_own : (test : NodeCall → Bool) (calls : List NodeCall) (ids : CallIds) → AreOwnCalls ids calls →
    AreOwnCalls ids (filter test calls)
filter_own test calls ids own = record {
  given = all_filter (λ (call : NodeCall). WasGiven ids call.id) test calls own.given;
  distinct = distinct_filter test calls own.distinct;
}

learnt_same : (local : LocalObject) (p : ℕ) (o : Option Layout) → StaysOwn local (learnt_if local p o)
learnt_same local p None ids own = own
learnt_same local p (Some layout) ids own = own

start_own : (local : LocalObject) (o : Option Start) → StaysOwn local (heard_start_if local o)
start_own local None ids own = own
start_own local (Some start) ids own = own

pub letter_same : (local : LocalObject) (letter : Letter) → StaysOwn local (learnt_from local letter)
letter_same local letter ids own =
    start_own (layouts_learnt local letter) letter.start ids
    (learnt_same (with_heard local letter.message.position letter.layout) (suc letter.message.position) letter.next ids own)

pub on_open_same : (local : LocalObject) (o : Option NodeCall) (change : NodeCall → Outcome) →
    ((call : NodeCall) → StaysOwn local (change call).local) → StaysOwn local (on_open_call local o change).local
on_open_same local None change each ids own = own
on_open_same local (Some call) change each ids own = each call ids own

advanced_own : (local : LocalObject) (call : NodeCall) (next : Kind × ℕ) (o : Option Layout) →
    StaysOwn local (advanced_at fragment local call next o).local
advanced_own local call next None ids own = own
advanced_own local call next (Some layout) ids own = with_own _ local.calls ids own

pub due_own : (local : LocalObject) (call : NodeCall) (o : Option (Kind × ℕ)) → StaysOwn local (advanced_here fragment local call o).local
due_own local call None ids own = own
due_own local call (Some next) ids own = advanced_own local call next (layout_here local next.1) ids own

pub queried_own : (local : LocalObject) (call : NodeCall) (o : Option Layout) → StaysOwn local (queried_here local call o).local
queried_own local call None ids own = own
queried_own local call (Some layout) ids own = with_own _ local.calls ids own

pub reads_own : (local : LocalObject) (call : NodeCall) (number start : ℕ) (o : Option Layout) →
    StaysOwn local (reads_at local call number start o).local
reads_own local call number start None ids own = own
reads_own local call number start (Some layout) ids own = with_own _ local.calls ids own

pub served_own : (local : LocalObject) (letter : Letter) (b : Body) → StaysOwn local (served_here local letter b).local
served_own local letter (body.Request asked) ids own = own
served_own local letter (body.Reply kind made) ids own = own
