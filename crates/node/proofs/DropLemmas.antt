-- Each frame that is dropped counts once.
use Rattle.std.proofs.Common.{◌≡◌, ◌+◌, ◌-◌, ◌^◌, min, ◌&&◌, ℕ, not, Bool, true, false, cond, arith, None, Some, Result, Ok, Err}
use Rattle.std.proofs.Common.{refl, sym, ap, ◌∙◌}
use Rattle.std.proofs.lemmas.Bool.{false≢true}
use Rattle.node_effects.specs.Seen.{named_of}
use Rattle.node_effects.specs.declared.report.Report.{Report}
use Rattle.node_keeper.specs.Keeping.{heeds, kept_of}
use Rattle.node_keeper.specs.declared.keeper.Keeper.{Keeper}
use Rattle.node_clients.specs.Desk.{one_more_counted}
use Rattle.node_messages.specs.Reading.{message_from}
use Rattle.node_messages.specs.declared.error.Fault.{Fault}
use Rattle.node_messages.specs.declared.message.NodeMessage.{NodeMessage}
use Rattle.node_strings.specs.declared.arrival.Arrival.TheVariants as arrived
use Rattle.node.specs.Frames.{is_admitted}
use Rattle.node.specs.Peers.{DroppedFramesCountOnce, HasNoted, HasNotedIf, IsChangedIfRead, after_message, frames_dropped}
use Rattle.node.specs.Peers.{is_dropped_if_read, is_foreign, reception_of, report_of}
use Rattle.node.specs.declared.drops.Drops.{Drops}
use Rattle.node.specs.declared.peers.Peers.{Peers}
use Rattle.node.proofs.PeerLemmas.{admitted_is_own}

-- five numbers together, as far as 2^64 - 1
abbrev sum_of : (a b c d e : ℕ) → ℕ
sum_of a b c d e = min (a + b + c + d + e) (2 ^ 64 - 1)

-- one more of one of them is one more of all
module _ (a b c d e : ℕ) where
  first_more : sum_of (min (a + 1) (2 ^ 64 - 1)) b c d e ≡ min (sum_of a b c d e + 1) (2 ^ 64 - 1)
  first_more = omega arith

  second_more : sum_of a (min (b + 1) (2 ^ 64 - 1)) c d e ≡ min (sum_of a b c d e + 1) (2 ^ 64 - 1)
  second_more = omega arith

  third_more : sum_of a b (min (c + 1) (2 ^ 64 - 1)) d e ≡ min (sum_of a b c d e + 1) (2 ^ 64 - 1)
  third_more = omega arith

  fourth_more : sum_of a b c (min (d + 1) (2 ^ 64 - 1)) e ≡ min (sum_of a b c d e + 1) (2 ^ 64 - 1)
  fourth_more = omega arith

  fifth_more : sum_of a b c d (min (e + 1) (2 ^ 64 - 1)) ≡ min (sum_of a b c d e + 1) (2 ^ 64 - 1)
  fifth_more = omega arith

-- all frames that were dropped, after one more or none
abbrev sum_after : (dropped : Bool) → Peers → ℕ
sum_after dropped old = cond dropped (one_more_counted (frames_dropped old)) (frames_dropped old)

noted_counts : (other : Report) (old new : Peers) → HasNoted other old new → frames_dropped new ≡ sum_after true old
noted_counts other old new noted =
    let all : Drops → ℕ → ℕ = λ (d : Drops) f. sum_of d.malformed d.unreadable d.not_admitted d.not_heeded f in
    let drops = old.drops in
    ap (λ (d : Drops). all d new.foreign) noted.drops ∙ ap (λ (f : ℕ). all drops f) noted.foreign
    ∙ fifth_more drops.malformed drops.unreadable drops.not_admitted drops.not_heeded old.foreign

message_counts : (admitted heeded declined : Bool) (old : Peers) →
    frames_dropped (after_message admitted (record { is_heeded = heeded; is_declined = declined }) old) ≡
    sum_after (not (admitted && heeded)) old
message_counts true true declined old = refl
message_counts true false declined old =
    let drops = old.drops in fourth_more drops.malformed drops.unreadable drops.not_admitted drops.not_heeded old.foreign
message_counts false heeded declined old =
    let drops = old.drops in third_more drops.malformed drops.unreadable drops.not_admitted drops.not_heeded old.foreign

foreign_is_not_admitted : (keeper : Keeper) (sender : ℕ) (message : NodeMessage) → is_foreign keeper message ≡ true →
    is_admitted keeper sender message ≡ false
foreign_is_not_admitted keeper sender message foreign = go (is_admitted keeper sender message) refl
  where
    go : (b : Bool) → is_admitted keeper sender message ≡ b → b ≡ false
    go true is = absurd (false≢true (sym (admitted_is_own keeper sender message is) ∙ foreign))
    go false is = refl

module _ (keeper : Keeper) (sender : ℕ) (old new : Peers) where
  changes_count : (message : NodeMessage) (foreign : Bool) → is_foreign keeper message ≡ foreign →
      HasNotedIf foreign (report_of keeper sender message)
      (after_message (is_admitted keeper sender message) (reception_of keeper message.named) old) old new →
      frames_dropped new ≡ sum_after (is_dropped_if_read keeper sender (Ok message)) old
  changes_count message true is noted =
      noted_counts (report_of keeper sender message) old new noted
      ∙ ap (λ b. sum_after (not (b && heeds (kept_of keeper) (named_of message.named))) old)
      (sym (foreign_is_not_admitted keeper sender message is))
  changes_count message false is same =
      ap (λ (p : Peers). frames_dropped p) same
      ∙ message_counts (is_admitted keeper sender message) (heeds (kept_of keeper) (named_of message.named))
      (reception_of keeper message.named).is_declined old

  read_counts : (r : Result NodeMessage Fault) → IsChangedIfRead keeper sender r old new →
      frames_dropped new ≡ sum_after (is_dropped_if_read keeper sender r) old
  read_counts (Ok message) changed = changes_count message (is_foreign keeper message) refl changed
  read_counts (Err fault) same =
      let drops = old.drops in
      ap (λ (p : Peers). frames_dropped p) same
      ∙ second_more drops.malformed drops.unreadable drops.not_admitted drops.not_heeded old.foreign

pub counted_once : DroppedFramesCountOnce
counted_once None keeper old new same =
    let drops = old.drops in
    ap (λ (p : Peers). frames_dropped p) same
    ∙ first_more drops.malformed drops.unreadable drops.not_admitted drops.not_heeded old.foreign
counted_once (Some (arrived.Command client frame)) keeper old new same = ap (λ (p : Peers). frames_dropped p) same
counted_once (Some (arrived.Left client)) keeper old new same = ap (λ (p : Peers). frames_dropped p) same
counted_once (Some (arrived.Tick heard)) keeper old new same = ap (λ (p : Peers). frames_dropped p) same
counted_once (Some (arrived.Message sender frame)) keeper old new changed =
    read_counts keeper sender old new (message_from frame) changed
