-- A frame that is handled in a run of processes leads on, by events that may happen; and which frames come to nodes.
use Rattle.std.proofs.Common.{◌≡◌, ◌<◌, ◌≤◌, ◌-◌, ◌^◌, ℕ, Bool, true, List, [], ◌∷◌, ◌++◌, Some, drop, get_or, length, set}
use Rattle.std.proofs.Common.{slice_get, take, sym, subst, ap, ◌∙◌, arith}
use Rattle.std.proofs.lemmas.List.{take_all}
use Rattle.std.proofs.lemmas.Slice.Eq.{bytes_eq-Decides}
use Rattle.std.specs.Str.{bytes_eq}
use Rattle.node_effects.specs.Seen.{all_seen}
use Rattle.node_effects.specs.Work.{entries_in}
use Rattle.node_effects.specs.declared.effects.Effects.{Effects}
use Rattle.node_strings.specs.Arrival.{arrival_at, client_address, node_address}
use Rattle.node_strings.specs.Strings.{Strings}
use Rattle.node_strings.specs.declared.arrival.Arrival.TheVariants as came
use Rattle.node_strings.proofs.ArrivalLemmas.{arrival_again}
use Rattle.processes.specs.Events.{WasWritten}
use Rattle.processes.specs.Processes.{SentFrame}
use Rattle.example_runs.specs.Members.{HasGrown, HasHandled, frames_from, seen_by, with_sent}
use Rattle.example_runs.specs.Reached.{LeadsOn}
use Rattle.example_runs.specs.Steps.{IsHandledIn, IsReaddressed}
use Rattle.example_runs.specs.declared.members.Member.{Member}
use Rattle.example_runs.specs.declared.process_run.ProcessRun.{ProcessRun}
use Rattle.example_runs.proofs.HandledLemmas.{came_in, handled_goes}
use Rattle.example_runs.proofs.ReachedLemmas.{led_on}

pub handled_leads : (number : ℕ) (frame : Strings) (old new : ProcessRun) →
    WasWritten (with_sent old.sent.items) number (arrival_at frame) → IsHandledIn number frame old new → LeadsOn old new
handled_leads number frame old new was is = (
  is.changed.text,
  λ processes by are.
      let at = are.at number is.member is.changed.at in
      let goes = handled_goes by.reached.names number processes frame is.effects is.member is.handled is.after at
      (came_in old.sent.items processes number (arrival_at frame) are.sent was) is.handles is.grown in
      led_on by.reached.names number old new processes goes.0 is.after _ (seen_by is.effects) are goes.1 goes.2
      is.changed.members is.sent is.seen,
)

pub handled_in : (number : ℕ) (frame : Strings) (old new : ProcessRun) (member handled after : Member) (effects : Effects) →
    slice_get old.members.items number ≡ Some member → HasHandled frame effects member handled →
    HasGrown (entries_in effects.outputs.items) handled after → new.members.items ≡ set old.members.items number after →
    new.text ≡ old.text → new.sent.items ≡ old.sent.items ++ frames_from number effects.outputs.items →
    all_seen new.seen.items ≡ all_seen old.seen.items ++ seen_by effects → IsHandledIn number frame old new
handled_in number frame old new member handled after effects at handles grown members text sent seen = record {
  member = member;
  handled = handled;
  after = after;
  effects = effects;
  handles = handles;
  grown = grown;
  changed = record { at = at; members = members; text = text };
  sent = sent;
  seen = seen;
}

-- Frames that come

-- a frame of a client is no message of a node
pub from_client : (client : ℕ) (words : Strings) (sent : List SentFrame) (number : ℕ) → client < 2 ^ 64 →
    WasWritten (with_sent sent) number (arrival_at (client_address client ∷ words))
from_client client [] sent number small =
    subst (WasWritten (with_sent sent) number) (sym (arrival_again (came.Left client) small)) tt
from_client client (word ∷ words) sent number small =
    subst (WasWritten (with_sent sent) number) (sym (arrival_again (came.Command client (word ∷ words)) (small, λ none. cc))) tt

-- a frame that is carried was written
pub from_node : (number place : ℕ) (sent : SentFrame) (all : List SentFrame) (frame : Strings) →
    slice_get all place ≡ Some sent → IsReaddressed number sent frame →
    WasWritten (with_sent all) number (arrival_at frame)
from_node number place sent all frame at is =
    subst (λ (f : Strings). WasWritten (with_sent all) number (arrival_at f)) (sym is.from)
    (subst (WasWritten (with_sent all) number) (sym (arrival_again (came.Message sent.sender is.rest) is.sender))
    (place, at ∙ ap (λ (f : Strings). Some (record { sender = sent.sender; frame = f })) is.to))

-- what stands in front of a list, and the rest
front_and_rest : {A : Type 0} (xs : List A) (x : A) → 1 ≤ length xs → x ≡ get_or xs 0 x →
    xs ≡ x ∷ take (length xs - 1) (drop 1 xs)
front_and_rest {A = A} [] x some is = absurd (omega arith)
front_and_rest {A = A} (y ∷ ys) x some is =
    let all : take (length (y ∷ ys) - 1) ys ≡ ys = take_all (length (y ∷ ys) - 1) ys (omega arith) in
    ap (λ (z : A). z ∷ ys) (sym is) ∙ ap (λ (zs : List A). x ∷ zs) (sym all)

-- a frame that is to the node of this number comes there, with the address of its sender in front
pub readdressed_is : (number sender : ℕ) (sent strings frame : Strings) (to address from : List ℕ) (test : Bool) →
    strings ≡ sent → 1 ≤ length strings → to ≡ get_or strings 0 to → test ≡ bytes_eq to address → test ≡ true →
    address ≡ node_address number → from ≡ node_address sender →
    frame ≡ from ∷ take (length strings - 1) (drop 1 strings) → sender < 2 ^ 8 →
    IsReaddressed number (record { sender = sender; frame = sent }) frame
readdressed_is number sender sent strings frame to address from test same some first tested holds own other is small =
    let rest : Strings = take (length strings - 1) (drop 1 strings) in
    let to_own : to ≡ node_address number = (bytes_eq-Decides to address).0 (sym tested ∙ holds) ∙ own in record {
      rest = rest;
      to = sym same ∙ front_and_rest strings to some first ∙ ap (λ (a : List ℕ). a ∷ rest) to_own;
      from = is ∙ ap (λ (a : List ℕ). a ∷ rest) other;
      sender = small;
    }
