-- What the program does with its node, one time after another.
use Rattle.std.proofs.Common.{◌≡◌, ℕ, zero, suc, List, Option, None, Some, Result, Ok, Err, refl, sym, subst}
use Rattle.node.specs.Handles.{Handles as HandlesFrame}
use Rattle.node.specs.Recovering.{Notes as NotesLength}
use Rattle.node.specs.declared.node.Node.{Node}
use Rattle.node_store.specs.Rounds.{BetweenRounds, ServesInRounds}
use Rattle.node_store.specs.declared.end.LogEnd.{LogEnd}
use Rattle.node_store.specs.Serving.{StopsServing}
use Rattle.node_store.specs.declared.stop.ServeError.{ServeError}
use Rattle.node_store.proofs.RoundLemmas.{not_grown, stops_idle}
use Rattle.processes.specs.Programs.{IsPerhapsRewritten}
use Rattle.processes.specs.Sessions.{GoesOn}
use Rattle.casd.specs.Opening.{HasWrittenAnew}
use Rattle.casd.specs.Program.{HasServed, HasServedOnce}
use Rattle.casd.specs.declared.fault.Fault.{Fault}
use Rattle.casd.specs.declared.fault.Fault.TheVariants as faults
use Rattle.casd.proofs.CutLemmas.{Known}

pub goes_then : (n m : ℕ) (a b c : BetweenRounds Node) → GoesOn n a b → GoesOn m b c → (count : ℕ) × GoesOn count a c
goes_then n zero a b c first same = (n, subst (GoesOn n a) (sym same) first)
goes_then n (suc m) a b c first (between, served, gone, rounds, renewal) =
    let rest = goes_then n m a b between first gone in (suc rest.0, (between, served, rest.1, rounds, renewal))

-- the loop, with this between two rounds
abbrev pub at : LogEnd → Node → (left kept held : Known) → BetweenRounds Node
at end machine left kept held =
    record { length = end.length; chain = end.chain.state; machine = machine; left = left; kept = kept; held = held }

-- rounds, and behind them the log that is perhaps written anew
pub served_on : (first : BetweenRounds Node) (new : Node) (left kept keeps held : Known) (now then : LogEnd) →
    ServesInRounds HandlesFrame NotesLength first new left kept held (Ok (Some now)) →
    IsPerhapsRewritten new kept now keeps then → HasServedOnce first new left keeps held (Ok (Some then))
served_on first new left kept keeps held now then rounds anew = (
  first,
  at now new left kept held,
  refl,
  rounds,
  record {
    end = now;
    then = then;
    long = refl;
    ends = refl;
    rewritten = anew;
    lengthened = refl;
    chained = refl;
    machine = refl;
    left = refl;
    held = refl;
  },
)

-- rounds, and then it is not known which log there is
half_served : (T : Type 0) (first : BetweenRounds Node) (new : Node) (left kept keeps held : Known) (now : LogEnd)
    (fault : Fault) → ServesInRounds HandlesFrame NotesLength first new left kept held (Ok (Some now)) →
    HasWrittenAnew new kept now keeps (Err fault) → HasServed {T = T} first new left keeps held (Err fault)
half_served T first new left kept keeps held now (faults.NotExchanged error) rounds half =
    (0, first, at now new left kept held, refl, rounds, refl, refl, half)
half_served T first new left kept keeps held now _ rounds half = absurd half

pub served_half : (first : BetweenRounds Node) (new : Node) (left kept keeps held : Known) (now : LogEnd)
    (fault : Fault) → ServesInRounds HandlesFrame NotesLength first new left kept held (Ok (Some now)) →
    HasWrittenAnew new kept now keeps (Err fault) → HasServedOnce first new left keeps held (Err fault)
served_half first new left kept keeps held now fault rounds half =
    half_served (Unit {0}) first new left kept keeps held now fault rounds half

-- the input ends, or the loop stops early
pub served_last : (first : BetweenRounds Node) (new : Node) (left keeps held : Known) →
    ServesInRounds HandlesFrame NotesLength first new left keeps held (Ok None) →
    HasServedOnce first new left keeps held (Ok None)
served_last first new left keeps held rounds = (0, first, refl, rounds)

pub served_badly : (first : BetweenRounds Node) (new : Node) (left keeps held : Known) (error : ServeError) →
    ServesInRounds HandlesFrame NotesLength first new left keeps held (Err error) →
    HasServedOnce first new left keeps held (Err (faults.Ended error))
served_badly first new left keeps held error rounds = (0, first, refl, rounds)

-- the loop of the program

abbrev pub HasGoneOn : (first now : BetweenRounds Node) → Type 0
HasGoneOn first now = (count : ℕ) × GoesOn count first now

pub gone_on : (first now : BetweenRounds Node) (new : Node) (left keeps held : Known) (then : LogEnd) → HasGoneOn first now →
    HasServedOnce now new left keeps held (Ok (Some then)) → HasGoneOn first (at then new left keeps held)
gone_on first now new left keeps held then (count, gone) once =
    goes_then count 1 first now (at then new left keeps held) gone once

pub ended : (T : Type 0) (done : T) (first now : BetweenRounds Node) (new : Node) (left keeps held : Known) →
    HasGoneOn first now → HasServedOnce now new left keeps held (Ok None) → HasServed first new left keeps held (Ok done)
ended T done first now new left keeps held (count, gone) (more, last, went, rounds) =
    let all = goes_then count more first now last gone went in (all.0, last, all.1, rounds)

pub broken : (T : Type 0) (first now : BetweenRounds Node) (new : Node) (left keeps held : Known) (fault : Fault) →
    HasGoneOn first now → HasServedOnce now new left keeps held (Err fault) →
    HasServed {T = T} first new left keeps held (Err fault)
broken T first now new left keeps held (faults.Ended error) (count, gone) (more, last, went, rounds) =
    let all = goes_then count more first now last gone went in (all.0, last, all.1, rounds)
broken T first now new left keeps held (faults.NotExchanged error) (count, gone)
    (more, last, served, went, rounds, is_left, is_held, half) =
    let all = goes_then count more first now last gone went in
    (all.0, last, served, all.1, rounds, is_left, is_held, half)
broken T first now new left keeps held _ gone once = absurd once

-- the loop has gone on too often
pub tired : (T : Type 0) (first : BetweenRounds Node) (end : LogEnd) (new : Node) (left keeps held : Known) (error : ServeError) →
    HasGoneOn first (at end new left keeps held) → ((bytes : List ℕ) → StopsServing error bytes) →
    HasServed {T = T} first new left keeps held (Err (faults.Ended error))
tired T first end new left keeps held error (count, gone) any = (
  count,
  at end new left keeps held,
  gone,
  (
    at end new left keeps held,
    (0, refl, not_grown end.length),
    stops_idle HandlesFrame NotesLength end.chain.state new left keeps held error any,
  ),
)
