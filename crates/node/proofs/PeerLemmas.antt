-- Each node with another cluster file is told of once.
use Rattle.std.proofs.Common.{◌≡◌, ◌&&◌, ◌||◌, ℕ, Bool, true, false, not, cond, List, [], ◌∷◌, ◌++◌, length, nat_lt}
use Rattle.std.proofs.Common.{None, Some, Result, Ok, Err, refl, sym, subst, ap, ◌∙◌}
use Rattle.std.specs.Str.{bytes_eq}
use Rattle.std.proofs.lemmas.Bool.{and_parts}
use Rattle.std.proofs.lemmas.List.{append-nil, append_assoc}
use Rattle.node_effects.specs.declared.report.Report.{Report}
use Rattle.node_keeper.specs.declared.keeper.Keeper.{Keeper}
use Rattle.layout.specs.Quorum.{has}
use Rattle.node_messages.specs.Limits.{has_low_tags}
use Rattle.node_messages.specs.Reading.{message_from}
use Rattle.node_messages.specs.declared.error.Fault.{Fault}
use Rattle.node_messages.specs.declared.message.NodeMessage.{NodeMessage}
use Rattle.node_strings.specs.declared.arrival.Arrival.TheVariants as arrived
use Rattle.node.specs.Frames.{is_admitted, is_from_cluster}
use Rattle.node.specs.Peers.{AreDistinctAfter, HasNotedIf, IsChangedByMessage, IsChangedIfRead, OthersAreToldOnce, after_letter}
use Rattle.node.specs.Peers.{after_message, is_foreign, is_known}
use Rattle.node.specs.Peers.{reception_of, report_of, with_other}
use Rattle.node.specs.declared.peers.Peers.{Peers}
use Rattle.node.specs.declared.peers.TheConstants.{MOST_OTHERS}
use Rattle.node.specs.declared.reception.Reception.{Reception}

-- one more stands behind those that are there once
one_behind : (front others : List Report) (other : Report) → AreDistinctAfter front others → is_known (front ++ others) other ≡ false →
    AreDistinctAfter front (others ++ other ∷ [])
one_behind front [] other are new = (ap (λ xs. is_known xs other) (sym (append-nil front)) ∙ new, tt)
one_behind front (first ∷ others) other are new = (
  are.0,
  one_behind (front ++ first ∷ []) others other are.1
      (ap (λ xs. is_known xs other) (append_assoc front (first ∷ []) others) ∙ new),
)

not_true : (b : Bool) → not b ≡ true → b ≡ false
not_true false e = refl
not_true true e = absurd (cc)

-- one more is added, or none
with_once : (others : List Report) (other : Report) → AreDistinctAfter [] others → AreDistinctAfter [] (with_other others other)
with_once others other are = go (nat_lt (length others) MOST_OTHERS && not (is_known others other)) refl
  where
    go : (b : Bool) → (nat_lt (length others) MOST_OTHERS && not (is_known others other)) ≡ b →
        AreDistinctAfter [] (cond b (others ++ other ∷ []) others)
    go true e = one_behind [] others other are
        (not_true (is_known others other) (and_parts (nat_lt (length others) MOST_OTHERS) (not (is_known others other)) e).1)
    go false e = are

-- a message of the same cluster file changes no others
others_stay : (admitted : Bool) (reception : Reception) (peers : Peers) →
    (after_message admitted reception peers).others ≡ peers.others
others_stay true reception peers = refl
others_stay false reception peers = refl

-- a message that is admitted is of the same cluster file
pub admitted_is_own : (keeper : Keeper) (sender : ℕ) (message : NodeMessage) → is_admitted keeper sender message ≡ true →
    is_foreign keeper message ≡ false
admitted_is_own keeper sender message is =
    let from = is_from_cluster keeper sender message in
    let is_from = (and_parts from (has_low_tags message.named.letter) is).0 in
    let known = has keeper.file.fixed.nodes sender || has keeper.file.later sender in
    ap not (and_parts known (bytes_eq message.digest keeper.digest) is_from).1

-- what a message that is admitted changes
pub admitted_changes : (keeper : Keeper) (sender : ℕ) (message : NodeMessage) (old new : Peers) →
    is_admitted keeper sender message ≡ true → new ≡ after_letter (reception_of keeper message.named) old →
    IsChangedByMessage keeper sender message old new
admitted_changes keeper sender message old new is changed =
    let reception = reception_of keeper message.named in
    let other = report_of keeper sender message in
    subst (λ b. HasNotedIf b other (after_message (is_admitted keeper sender message) reception old) old new)
    (sym (admitted_is_own keeper sender message is))
    (subst (λ b. new ≡ after_message b reception old) (sym is) changed)

noted_once : (b : Bool) (other : Report) (after old new : Peers) → after.others ≡ old.others → HasNotedIf b other after old new →
    AreDistinctAfter [] old.others.items → AreDistinctAfter [] new.others.items
noted_once true other after old new stay noted are =
    subst (AreDistinctAfter []) (sym noted.others) (with_once old.others.items other are)
noted_once false other after old new stay same are =
    subst (λ xs. AreDistinctAfter [] xs.items) (sym (ap (λ (peers : Peers). peers.others) same ∙ stay)) are

read_once : (keeper : Keeper) (sender : ℕ) (r : Result NodeMessage Fault) (old new : Peers) →
    IsChangedIfRead keeper sender r old new → AreDistinctAfter [] old.others.items → AreDistinctAfter [] new.others.items
read_once keeper sender (Ok message) old new changed are =
    let admitted = is_admitted keeper sender message in
    let reception = reception_of keeper message.named in
    noted_once (is_foreign keeper message) (report_of keeper sender message) (after_message admitted reception old) old new
    (others_stay admitted reception old) changed are
read_once keeper sender (Err fault) old new same are =
    subst (λ (peers : Peers). AreDistinctAfter [] peers.others.items) (sym same) are

pub told_once : OthersAreToldOnce
told_once None keeper old new same are = subst (λ (peers : Peers). AreDistinctAfter [] peers.others.items) (sym same) are
told_once (Some (arrived.Command client frame)) keeper old new same are =
    subst (λ (peers : Peers). AreDistinctAfter [] peers.others.items) (sym same) are
told_once (Some (arrived.Left client)) keeper old new same are =
    subst (λ (peers : Peers). AreDistinctAfter [] peers.others.items) (sym same) are
told_once (Some (arrived.Tick heard)) keeper old new same are =
    subst (λ (peers : Peers). AreDistinctAfter [] peers.others.items) (sym same) are
told_once (Some (arrived.Message sender frame)) keeper old new changed are =
    read_once keeper sender (message_from frame) old new changed are
