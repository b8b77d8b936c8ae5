-- A frame that one process of a run handles is handled by its process, which then writes all that waited.
use Rattle.std.proofs.Common.{◌≡◌, ◌≤◌, ◌+◌, ℕ, suc, List, [], ◌∷◌, ◌++◌, length, drop, Option, None, Some, slice_get}
use Rattle.std.proofs.Common.{refl, sym, subst, ap, ◌∙◌, append-nil, length-append, arith}
use Rattle.std.specs.List.{filter}
use Rattle.deeds.specs.Deeds.{Notice}
use Rattle.deeds.specs.Kept.{FileOfNames}
use Rattle.node_effects.specs.Work.{entries_in}
use Rattle.node_effects.specs.declared.effects.Effects.{Effects}
use Rattle.node_effects.specs.declared.output.Output.{Output}
use Rattle.node_effects.specs.declared.output.Output.TheVariants as output
use Rattle.node_log.specs.Entry.{chain_behind, first_chain}
use Rattle.node_store.specs.Recovery.{log_bytes}
use Rattle.node_store.proofs.LogBytesLemmas.{bytes_then, chain_then}
use Rattle.node_strings.specs.Arrival.{arrival_at}
use Rattle.node_strings.specs.Strings.{Strings}
use Rattle.node_strings.specs.declared.arrival.Arrival.{Arrival}
use Rattle.node_strings.specs.declared.arrival.Arrival.TheVariants as came
use Rattle.processes.specs.Events.{MaySend, ProcessEvent, WasWritten, first_told, handled_process, is_begun, is_told, noticed_by}
use Rattle.processes.specs.Processes.{Process, Processes, SentFrame, WaitingAnswers, frames_behind}
use Rattle.processes.proofs.HandledRoundLemmas.{answers_behind}
use Rattle.processes.proofs.WrittenRoundLemmas.{HaveFrames, frames_among, own_frames, waits_second}
use Rattle.example_runs.specs.Members.{HasGrown, HasHandled, frames_from, seen_by, with_sent}
use Rattle.example_runs.specs.Reached.{IsAt}
use Rattle.example_runs.specs.declared.members.Member.{Member}
use Rattle.example_runs.proofs.GoingLemmas.{Goes, goes_as, goes_nowhere, goes_on, goes_once}

-- what was written by a run that wrote these frames was written by its processes
pub came_in : (sent : List SentFrame) (processes : Processes) (number : ℕ) (arrival : Option Arrival) → sent ≡ processes.sent →
    WasWritten (with_sent sent) number arrival → WasWritten processes number arrival
came_in sent processes number None same was = tt
came_in sent processes number (Some (came.Command client frame)) same was = tt
came_in sent processes number (Some (came.Left client)) same was = tt
came_in sent processes number (Some (came.Tick heard)) same was = tt
came_in sent processes number (Some (came.Message sender strings)) same was =
    (was.0, ap (λ (ss : List SentFrame). slice_get ss was.0) (sym same) ∙ was.1)

module _ (names : FileOfNames) (number : ℕ) where
  -- all frames that wait are sent
  sends_goes : (outputs : List Output) (n : ℕ) (from : Processes) (process : Process) → from.at number ≡ process →
      HaveFrames process.frames n outputs → n + length (entries_in outputs) ≤ process.synced →
      Goes names number from process (frames_from number outputs) []
  sends_goes [] n from process is have fits =
      goes_as names number from (from.at number) process [] [] is (goes_nowhere names number from)
  sends_goes (output.Log entry ∷ outputs) n from process is have fits =
      sends_goes outputs (suc n) from process is have (omega arith)
  sends_goes (output.Send frame ∷ outputs) n from process is have fits =
      let event = ProcessEvent.Sends number frame in
      let waits = have.0 in
      let behind : waits.1.behind ≤ process.synced = let most = waits.4 in omega arith in
      let may : MaySend (from.at number) frame =
      subst (λ (p : Process). MaySend p frame) (sym is) (waits.0, waits.1, waits.2, waits.3, behind) in
      let first = goes_once names number from event refl may tt in
      let rest = sends_goes outputs n first.to process (first.own ∙ is) have.1 fits in
      goes_on names number from (from.at number) process (record { sender = number; frame = frame } ∷ [])
      (frames_from number outputs) [] [] first rest

  -- the answers that wait are told
  tells_goes : (from : Processes) (process : Process) (first : WaitingAnswers) (rest : List WaitingAnswers) →
      from.at number ≡ process → process.answers ≡ first ∷ rest → first.behind ≤ process.synced →
      Goes names number from (record process { answers = rest }) [] first.told
  tells_goes from process first rest is wait fits =
      let answers : (from.at number).answers ≡ first ∷ rest = ap (λ (p : Process). p.answers) is ∙ wait in
      let synced : first.behind ≤ (from.at number).synced =
      subst (λ (p : Process). first.behind ≤ p.synced) (sym is) fits in
      subst (λ (told : List Notice). Goes names number from (record process { answers = rest }) [] told)
      (ap first_told answers)
      (goes_as names number from (record (from.at number) { answers = drop 1 (from.at number).answers })
      (record process { answers = rest }) [] (first_told (from.at number).answers)
      (ap (λ (them : List WaitingAnswers). record (from.at number) { answers = drop 1 them }) answers
      ∙ ap (λ (p : Process). record p { answers = rest }) is)
      (goes_once names number from (ProcessEvent.Tells number) refl (first, rest, answers, synced) tt))

  pub handled_goes : (processes : Processes) (frame : Strings) (effects : Effects) (old mid new : Member) →
      IsAt (processes.at number) old → WasWritten processes number (arrival_at frame) → HasHandled frame effects old mid →
      HasGrown (entries_in effects.outputs.items) mid new →
      (process : Process) × Goes names number processes process (frames_from number effects.outputs.items) (seen_by effects)
      × IsAt process new
  handled_goes processes frame effects old mid new at came (node, after, ran, handles, is_mid) grown =
      let process = processes.at number in
      let outputs = effects.outputs.items in
      let entries = entries_in outputs in
      let n = length process.log in
      let log = process.log ++ entries in
      let count = length log in
      let long : count ≡ n + length entries = length-append process.log entries in
      let first_synced = at.synced in
      let answers = answers_behind count effects in
      let begun : Process = record {
        running = Some after;
        log = log;
        synced = process.synced;
        frames = process.frames ++ frames_behind n outputs;
        answers = answers ∷ [];
      } in
      let first : Goes names number processes begun [] (filter is_begun (noticed_by effects)) =
      goes_as names number processes (handled_process process effects after) begun [] (filter is_begun (noticed_by effects))
      (ap (λ (them : List WaitingAnswers). record {
        running = Some after;
        log = log;
        synced = process.synced;
        frames = process.frames ++ frames_behind n outputs;
        answers = them ++ answers ∷ [];
      }) at.told)
      (goes_once names number processes (ProcessEvent.Handles number frame effects after) refl
      ((node, at.runs ∙ ran, handles), came) tt) in
      let within : ((first.to.at number).synced ≤ count) × (count ≤ length (first.to.at number).log) =
      subst (λ (p : Process). (p.synced ≤ count) × (count ≤ length p.log)) (sym first.own) (omega arith, omega arith) in
      let synced : Process = record begun { synced = count } in
      let second : Goes names number first.to synced [] [] =
      goes_as names number first.to (record (first.to.at number) { synced = count }) synced [] []
      (ap (λ (p : Process). record p { synced = count }) first.own)
      (goes_once names number first.to (ProcessEvent.Syncs number count) refl within tt) in
      let have = frames_among (frames_behind n outputs) (process.frames ++ frames_behind n outputs)
      (waits_second process.frames (frames_behind n outputs)) n outputs (own_frames n outputs) in
      let third = sends_goes outputs n second.to synced second.own have (omega (arith, long)) in
      let last : Process = record synced { answers = [] } in
      let fourth = tells_goes third.to synced answers [] third.own refl (omega arith) in
      let sent = frames_from number outputs in
      let told = filter is_told (noticed_by effects) in
      let written = goes_on names number second.to synced last sent [] [] told third fourth in
      let all = goes_on names number processes begun last [] (sent ++ []) (filter is_begun (noticed_by effects)) told first
      (goes_on names number first.to synced last [] (sent ++ []) [] told second written) in (
        last,
        subst (λ (ss : List SentFrame). Goes names number processes last ss (seen_by effects)) (append-nil sent) all,
        record {
          runs = sym (grown.node ∙ ap (λ (m : Member). m.node) is_mid);
          synced = refl;
          told = refl;
          bytes = grown.log ∙ ap (λ (m : Member). m.log.items ++ log_bytes m.chain.state entries) is_mid
              ∙ ap (λ (b : List ℕ). b ++ log_bytes old.chain.state entries) at.bytes
              ∙ ap (λ (c : ℕ). log_bytes first_chain process.log ++ log_bytes c entries) at.chained
              ∙ sym (bytes_then first_chain process.log entries);
          chained = grown.chain ∙ ap (λ (m : Member). chain_behind m.chain.state entries) is_mid
              ∙ ap (λ (c : ℕ). chain_behind c entries) at.chained ∙ sym (chain_then first_chain process.log entries);
        },
      )
