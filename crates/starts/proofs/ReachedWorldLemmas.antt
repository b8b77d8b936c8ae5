-- Calls of a world that is reached.
use Rattle.std.proofs.Common.{◌≡◌, ◌+◌, ◌*◌, ◌-◌, ◌<◌, List, [], ◌∷◌, Some, sym, subst}
use Rattle.std.specs.List.{AllByRecursion}
use Rattle.open_calls.specs.OpenCalls.{NodeCall, open_call}
use Rattle.open_calls.proofs.OpenCallLemmas.{found}
use Rattle.starts.specs.Laws.{CallsReadOn}
use Rattle.starts.specs.Reading.{IsReading, LeadsTo, most_events, reading_at}
use Rattle.starts.proofs.ReadingLemmas.{reads_to}
use Rattle.starts.proofs.TrueWorldLemmas.{reached_true}

no_facts : (calls : List NodeCall) → AllByRecursion (λ (call : NodeCall). Unit {0}) calls
no_facts [] = tt
no_facts (call ∷ calls) = (tt, no_facts calls)

pub calls_read_to_start : CallsReadOn
calls_read_to_start fragment world id call position start reached starts open_there reads less =
    let own : call.id ≡ id = (found (λ (c : NodeCall). Unit {0}) world.calls id call (no_facts world.calls) open_there).1 in
    let truth = reached_true fragment world reached in
    subst (λ p. LeadsTo fragment world (reading_at world call (call.phase.number + 2 * (start - p)) start) ((start - p) * most_events))
    reads.at
    (reads_to fragment world call start truth.one truth.lawful starts
    (subst (λ n. open_call world.calls n ≡ Some call) (sym own) open_there) (subst (IsReading world call) (sym reads.at) reads)
    (subst (λ p. p < start) (sym reads.at) less))
