use Rattle.std.proofs.Common.{rules, true, false, refl, sym, ◌∙◌, Bool, List, ℕ}
use Rattle.std.specs.Io.Buffered.{reader_remaining}
use Rattle.std.proofs.lemmas.Result.{err_from_is_err_and}
use Rattle.node_store.specs.declared.stop.ServeError.TheVariants.{NoInput}
use Rattle.node_store.proofs.GrowthLemmas.{lengthened_none, lengthened_then}
use Rattle.node_store.proofs.RoundLemmas.{between, comes_first, comes_on, gone_on, round_noted, stops_idle}
use Rattle.node_store.proofs.ServingLemmas.{serves_none, serves_behind, serves_more, serves_as, serves_idle, going, stopped}
use Rattle.node_store.proofs.StoppingLemmas.{stopped_so, stops_noted, stops_then, told_so}
use Rattle.node_store.proofs.serving.serve_frames.Goals as goal

pub returns-in_err-serve_arrived-clause-serves : goal.returns-in_err-serve_arrived-clause-serves
returns-in_err-serve_arrived-clause-serves g c =
    let p = err_from_is_err_and c.from_residual.result c.from_residual.ensures.1 in
    let known = reader_remaining g.I.Read.remaining in
    let kept = g.L.Log.kept in
    let held = g.O.Write.contents in
    rw (p.1, p.2) (serves_more g.M.Machine.handles g.M.Machine.notes
    c.args.end.chain.state c.loop.batch.chain.state c.serve_arrived.new.batch.chain.state
    c.args.machine.now c.loop.machine c.begin_round-report.new.self c.serve_arrived.new.machine c.loop.length
    (known c.args.input.now) (known c.loop.input) (known c.serve_arrived.new.input)
    (kept c.args.log.now) (kept c.loop.log) (kept c.serve_arrived.new.log)
    (held c.args.output.now) (held c.loop.output) (held c.serve_arrived.new.output)
    (stopped c.in_err-serve_arrived.field-0.0) c.loop.invariant.0 c.begin_round-report.ensures.noted c.in_err-serve_arrived.ensures.serves)

pub returns-then-not-branch-clause-serves : goal.returns-then-not-branch-clause-serves
returns-then-not-branch-clause-serves g c =
    let known = reader_remaining g.I.Read.remaining in
    let kept = g.L.Log.kept in
    let held = g.O.Write.contents in (
      c.serve_arrived.new.batch.chain.state,
      serves_more g.M.Machine.handles g.M.Machine.notes
          c.args.end.chain.state c.loop.batch.chain.state c.serve_arrived.new.batch.chain.state
          c.args.machine.now c.loop.machine c.begin_round-report.new.self c.serve_arrived.new.machine c.loop.length
          (known c.args.input.now) (known c.loop.input) (known c.serve_arrived.new.input)
          (kept c.args.log.now) (kept c.loop.log) (kept c.serve_arrived.new.log)
          (held c.args.output.now) (held c.loop.output) (held c.serve_arrived.new.output)
          (going false) c.loop.invariant.0 c.begin_round-report.ensures.noted
          (serves_as g.M.Machine.handles g.M.Machine.notes c.loop.batch.chain.state
          c.serve_arrived.new.batch.chain.state c.begin_round-report.new.self c.serve_arrived.new.machine
          (known c.loop.input) (known c.serve_arrived.new.input) (kept c.loop.log) (kept c.serve_arrived.new.log)
          (held c.loop.output) (held c.serve_arrived.new.output) c.in_ok-serve_arrived.field-0 false (search rules)
          c.in_ok-serve_arrived.ensures.serves),
    )

pub loop-preserved : goal.loop-preserved
loop-preserved g c =
    let known = reader_remaining g.I.Read.remaining in
    let kept = g.L.Log.kept in
    let held = g.O.Write.contents in (
      serves_behind g.M.Machine.handles g.M.Machine.notes c.args.end.chain.state c.serve_arrived.new.batch.chain.state
          c.clear.new.self.chain.state c.args.machine.now c.serve_arrived.new.machine
          (known c.args.input.now) (known c.serve_arrived.new.input) (kept c.args.log.now) (kept c.serve_arrived.new.log)
          (held c.args.output.now) (held c.serve_arrived.new.output) (going true) (sym c.clear.ensures.chain)
          (serves_more g.M.Machine.handles g.M.Machine.notes
          c.args.end.chain.state c.loop.batch.chain.state c.serve_arrived.new.batch.chain.state
          c.args.machine.now c.loop.machine c.begin_round-report.new.self c.serve_arrived.new.machine c.loop.length
          (known c.args.input.now) (known c.loop.input) (known c.serve_arrived.new.input)
          (kept c.args.log.now) (kept c.loop.log) (kept c.serve_arrived.new.log)
          (held c.args.output.now) (held c.loop.output) (held c.serve_arrived.new.output)
          (going true) c.loop.invariant.0 c.begin_round-report.ensures.noted
          (serves_as g.M.Machine.handles g.M.Machine.notes c.loop.batch.chain.state
          c.serve_arrived.new.batch.chain.state c.begin_round-report.new.self c.serve_arrived.new.machine
          (known c.loop.input) (known c.serve_arrived.new.input) (kept c.loop.log) (kept c.serve_arrived.new.log)
          (held c.loop.output) (held c.serve_arrived.new.output) c.in_ok-serve_arrived.field-0 true (search rules)
          c.in_ok-serve_arrived.ensures.serves)),
      c.in_ok-serve_arrived.ensures.synced,
      c.clear.ensures.empty,
      comes_on g.M.Machine.handles g.M.Machine.notes (between c.args.end.length c.args.end.chain.state c.args.machine.now
          (known c.args.input.now) (kept c.args.log.now) (held c.args.output.now)) c.loop.length _
          c.loop.batch.chain.state c.serve_arrived.new.batch.chain.state c.clear.new.self.chain.state c.loop.machine
          c.begin_round-report.new.self c.serve_arrived.new.machine c.loop.length (known c.loop.input)
          (known c.serve_arrived.new.input) (kept c.loop.log) (kept c.serve_arrived.new.log) (held c.loop.output)
          (held c.serve_arrived.new.output) c.loop.invariant.3 c.begin_round-report.ensures.noted
          (serves_as g.M.Machine.handles g.M.Machine.notes c.loop.batch.chain.state
          c.serve_arrived.new.batch.chain.state c.begin_round-report.new.self c.serve_arrived.new.machine
          (known c.loop.input) (known c.serve_arrived.new.input) (kept c.loop.log) (kept c.serve_arrived.new.log)
          (held c.loop.output) (held c.serve_arrived.new.output) c.in_ok-serve_arrived.field-0 true (search rules)
          c.in_ok-serve_arrived.ensures.serves) (_, c.in_ok-serve_arrived.ensures.appended, search rules)
          (sym c.clear.ensures.chain) (search rules),
      lengthened_then (kept c.args.log.now) (kept c.loop.log) (kept c.serve_arrived.new.log) c.args.end.length c.loop.length _ _
          c.loop.invariant.4 c.in_ok-serve_arrived.ensures.appended (search rules),
      c.in_ok-serve_arrived.ensures.sound,
      c.in_ok-serve_arrived.ensures.failure ∙ c.loop.invariant.6,
    )

pub returns-then-has_grown-clause-lengthened : goal.returns-then-has_grown-clause-lengthened
returns-then-has_grown-clause-lengthened g c =
    let kept = g.L.Log.kept in
    lengthened_then (kept c.args.log.now) (kept c.loop.log) (kept c.serve_arrived.new.log) c.args.end.length c.loop.length _ _
    c.loop.invariant.4 c.in_ok-serve_arrived.ensures.appended (search rules)

pub returns-then-has_grown-clause-serves : goal.returns-then-has_grown-clause-serves
returns-then-has_grown-clause-serves g c =
    let known = reader_remaining g.I.Read.remaining in
    let kept = g.L.Log.kept in
    let held = g.O.Write.contents in
    serves_behind g.M.Machine.handles g.M.Machine.notes c.args.end.chain.state c.serve_arrived.new.batch.chain.state
    c.clear.new.self.chain.state c.args.machine.now c.serve_arrived.new.machine
    (known c.args.input.now) (known c.serve_arrived.new.input) (kept c.args.log.now) (kept c.serve_arrived.new.log)
    (held c.args.output.now) (held c.serve_arrived.new.output) (going true) (sym c.clear.ensures.chain)
    (serves_more g.M.Machine.handles g.M.Machine.notes
    c.args.end.chain.state c.loop.batch.chain.state c.serve_arrived.new.batch.chain.state
    c.args.machine.now c.loop.machine c.begin_round-report.new.self c.serve_arrived.new.machine c.loop.length
    (known c.args.input.now) (known c.loop.input) (known c.serve_arrived.new.input)
    (kept c.args.log.now) (kept c.loop.log) (kept c.serve_arrived.new.log)
    (held c.args.output.now) (held c.loop.output) (held c.serve_arrived.new.output)
    (going true) c.loop.invariant.0 c.begin_round-report.ensures.noted
    (serves_as g.M.Machine.handles g.M.Machine.notes c.loop.batch.chain.state
    c.serve_arrived.new.batch.chain.state c.begin_round-report.new.self c.serve_arrived.new.machine
    (known c.loop.input) (known c.serve_arrived.new.input) (kept c.loop.log) (kept c.serve_arrived.new.log)
    (held c.loop.output) (held c.serve_arrived.new.output) c.in_ok-serve_arrived.field-0 true (search rules)
    c.in_ok-serve_arrived.ensures.serves))

pub returns-clause-serves : goal.returns-clause-serves
returns-clause-serves g c =
    let known = reader_remaining g.I.Read.remaining in
    let kept = g.L.Log.kept in
    let held = g.O.Write.contents in
    serves_idle g.M.Machine.handles g.M.Machine.notes c.args.end.chain.state c.loop.batch.chain.state c.args.machine.now c.loop.machine
    (known c.args.input.now) (known c.loop.input) (kept c.args.log.now) (kept c.loop.log)
    (held c.args.output.now) (held c.loop.output) (NoInput c.from.result) (λ (bytes : List ℕ). tt) c.loop.invariant.0

pub loop-init : goal.loop-init
loop-init g c =
    let known = reader_remaining g.I.Read.remaining in
    let kept = g.L.Log.kept in
    let held = g.O.Write.contents in (
      serves_behind g.M.Machine.handles g.M.Machine.notes c.args.end.chain.state c.args.end.chain.state c.new-batch.result.chain.state
          c.args.machine.now c.args.machine.now (known c.args.input.now) (known c.args.input.now)
          (kept c.args.log.now) (kept c.args.log.now) (held c.args.output.now) (held c.args.output.now) (going true)
          (sym c.new-batch.ensures.chain)
          (serves_none g.M.Machine.handles g.M.Machine.notes c.args.end.chain.state c.args.machine.now (known c.args.input.now)
          (kept c.args.log.now) (held c.args.output.now)),
      c.requires.synced,
      c.new-batch.ensures.empty,
      comes_first g.M.Machine.handles g.M.Machine.notes c.args.end.length c.args.end.chain.state
          c.new-batch.result.chain.state c.args.machine.now (known c.args.input.now) (kept c.args.log.now)
          (held c.args.output.now) c.new-batch.ensures.chain,
      lengthened_none (kept c.args.log.now) c.args.end.length (search rules),
      c.requires.sound,
      refl,
    )

pub returns-then-has_grown-clause-rounds : goal.returns-then-has_grown-clause-rounds
returns-then-has_grown-clause-rounds g c =
    let known = reader_remaining g.I.Read.remaining in
    let kept = g.L.Log.kept in
    let held = g.O.Write.contents in
    let first = between c.args.end.length c.args.end.chain.state c.args.machine.now (known c.args.input.now)
    (kept c.args.log.now) (held c.args.output.now) in
    let went = gone_on g.M.Machine.handles g.M.Machine.notes first c.loop.length _ c.loop.batch.chain.state
    c.serve_arrived.new.batch.chain.state c.clear.new.self.chain.state c.loop.machine c.begin_round-report.new.self
    c.serve_arrived.new.machine c.loop.length (known c.loop.input) (known c.serve_arrived.new.input) (kept c.loop.log)
    (kept c.serve_arrived.new.log) (held c.loop.output) (held c.serve_arrived.new.output) c.loop.invariant.3
    c.begin_round-report.ensures.noted
    (serves_as g.M.Machine.handles g.M.Machine.notes c.loop.batch.chain.state
    c.serve_arrived.new.batch.chain.state c.begin_round-report.new.self c.serve_arrived.new.machine
    (known c.loop.input) (known c.serve_arrived.new.input) (kept c.loop.log) (kept c.serve_arrived.new.log)
    (held c.loop.output) (held c.serve_arrived.new.output) c.in_ok-serve_arrived.field-0 true (search rules)
    c.in_ok-serve_arrived.ensures.serves) (_, c.in_ok-serve_arrived.ensures.appended, search rules)
    (sym c.clear.ensures.chain) in (search rules, went.0, went.1)

pub returns-then-not-branch-clause-rounds : goal.returns-then-not-branch-clause-rounds
returns-then-not-branch-clause-rounds g c =
    let known = reader_remaining g.I.Read.remaining in
    let kept = g.L.Log.kept in
    let held = g.O.Write.contents in (
      between c.loop.length c.loop.batch.chain.state c.loop.machine (known c.loop.input) (kept c.loop.log) (held c.loop.output),
      c.loop.invariant.3,
      c.serve_arrived.new.batch.chain.state,
      round_noted g.M.Machine.handles g.M.Machine.notes c.loop.batch.chain.state c.serve_arrived.new.batch.chain.state
          c.loop.machine c.begin_round-report.new.self c.serve_arrived.new.machine c.loop.length
          (known c.loop.input) (known c.serve_arrived.new.input) (kept c.loop.log) (kept c.serve_arrived.new.log)
          (held c.loop.output) (held c.serve_arrived.new.output) (going false) c.begin_round-report.ensures.noted
          (serves_as g.M.Machine.handles g.M.Machine.notes c.loop.batch.chain.state
          c.serve_arrived.new.batch.chain.state c.begin_round-report.new.self c.serve_arrived.new.machine
          (known c.loop.input) (known c.serve_arrived.new.input) (kept c.loop.log) (kept c.serve_arrived.new.log)
          (held c.loop.output) (held c.serve_arrived.new.output) c.in_ok-serve_arrived.field-0 false (search rules)
          c.in_ok-serve_arrived.ensures.serves),
    )

pub returns-in_err-serve_arrived-clause-rounds : goal.returns-in_err-serve_arrived-clause-rounds
returns-in_err-serve_arrived-clause-rounds g c =
    let p = err_from_is_err_and c.from_residual.result c.from_residual.ensures.1 in
    let known = reader_remaining g.I.Read.remaining in
    let kept = g.L.Log.kept in
    let held = g.O.Write.contents in
    rw (p.1, p.2) (
      between c.loop.length c.loop.batch.chain.state c.loop.machine (known c.loop.input) (kept c.loop.log) (held c.loop.output),
      c.loop.invariant.3,
      round_noted g.M.Machine.handles g.M.Machine.notes c.loop.batch.chain.state c.serve_arrived.new.batch.chain.state
          c.loop.machine c.begin_round-report.new.self c.serve_arrived.new.machine c.loop.length
          (known c.loop.input) (known c.serve_arrived.new.input) (kept c.loop.log) (kept c.serve_arrived.new.log)
          (held c.loop.output) (held c.serve_arrived.new.output) (stopped c.in_err-serve_arrived.field-0.0)
          c.begin_round-report.ensures.noted c.in_err-serve_arrived.ensures.serves,
    )

pub returns-clause-rounds : goal.returns-clause-rounds
returns-clause-rounds g c =
    let known = reader_remaining g.I.Read.remaining in
    let kept = g.L.Log.kept in
    let held = g.O.Write.contents in (
      between c.loop.length c.loop.batch.chain.state c.loop.machine (known c.loop.input) (kept c.loop.log) (held c.loop.output),
      c.loop.invariant.3,
      stops_idle g.M.Machine.handles g.M.Machine.notes c.loop.batch.chain.state c.loop.machine (known c.loop.input)
          (kept c.loop.log) (held c.loop.output) (NoInput c.from.result) (λ (bytes : List ℕ). tt),
    )

pub returns-in_err-serve_arrived-clause-stopped : goal.returns-in_err-serve_arrived-clause-stopped
returns-in_err-serve_arrived-clause-stopped g c =
    let known = reader_remaining g.I.Read.remaining in
    let error = c.in_err-serve_arrived.field-0.0 in
    let before = c.loop.invariant.0 in
    stopped_so g.M.Machine.handles g.M.Machine.notes g.M.Machine.fails c.args.machine.now (known c.args.input.now)
    c.from_residual.result error c.from_residual.ensures.1
    (stops_then g.M.Machine.handles g.M.Machine.notes g.M.Machine.fails c.args.machine.now c.loop.machine (known c.args.input.now)
    (known c.loop.input) before.0 error before.1 before.2
    (stops_noted g.M.Machine.handles g.M.Machine.notes g.M.Machine.fails c.loop.machine c.begin_round-report.new.self c.loop.length
    (known c.loop.input) error c.begin_round-report.ensures.noted c.in_err-serve_arrived.ensures.stopped))

pub returns-in_err-serve_arrived-clause-failure : goal.returns-in_err-serve_arrived-clause-failure
returns-in_err-serve_arrived-clause-failure g c =
    told_so Bool _ _ _ c.from_residual.result c.in_err-serve_arrived.field-0.0 c.from_residual.ensures.1 c.loop.invariant.6
    c.in_err-serve_arrived.ensures.failure
