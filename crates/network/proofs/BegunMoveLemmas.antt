-- A world in which a node begins a move still follows the record, which begins the move too.
use Rattle.std.proofs.Common.{◌≡◌, ℕ, suc, pred, List, [], ◌∷◌, ◌++◌, length, map, Option, Some, None, IsSome, get_or, arith}
use Rattle.std.proofs.Common.{refl, sym, ap, ◌∙◌}
use Rattle.std.proofs.lemmas.List.{map-append}
use Rattle.std.proofs.Math.Seq.{set-append_seam}
use Rattle.layout.specs.Layout.{Layout}
use Rattle.bank.specs.Bank.{Bank}
use Rattle.bank.specs.declared.kind.Kind.TheVariants.{Spread}
use Rattle.bank.specs.declared.status.Status.TheVariants.{Pending}
use Rattle.record.specs.declared.call.CallKind.TheVariants.{Move}
use Rattle.record.specs.declared.stage.Stage.TheVariants.{MoveSpread}
use Rattle.record.specs.Legal.{moves_in}
use Rattle.record.specs.Preconditions.{NoOpenMove}
use Rattle.record.specs.Records.{Object, no_bank}
use Rattle.record.specs.Steps.{Step, moving_object, opened_banks}
use Rattle.soundness.proofs.ListLemmas.{all_weaker}
use Rattle.network.specs.Unstamped.{unstamped_bank}
use Rattle.network.specs.Worlds.{ClusterFile, World, new_banks}
use Rattle.network.specs.Events.{Event, moving_world}
use Rattle.network.specs.Following.{Follows, IsOpenIn, last_step_after}
use Rattle.network.specs.Followed.{IsFollowed}
use Rattle.network.proofs.BegunCallLemmas.{added_follow, with_begun}
use Rattle.network.proofs.ChangedCallLemmas.{still_open}
use Rattle.network.proofs.EntryOfCallLemmas.{new_id}
use Rattle.network.proofs.OneFileLemmas.{banks_opened}
use Rattle.open_calls.proofs.OpenCallLemmas.{found}
use Rattle.network.proofs.StepLemmas.{one_step}
use Rattle.network.proofs.WorldRunLemmas.{opened_banks-bare}

-- the record, and the world, with one more position
abbrev longer_object : Object → Layout → ℕ → Object
longer_object object layout now = record object {
  layouts = object.layouts ++ layout ∷ [];
  banks = object.banks ++ opened_banks layout.members 0 object.delta now ∷ [];
}

abbrev longer_world : World → Layout → World
longer_world world layout = record world {
  later = world.later ++ layout ∷ [];
  banks = world.banks ++ new_banks world.files layout.members 0 ∷ [];
}

kept_longer : (banks : List (List Bank)) (servers : List ℕ) (delta : Option ℕ) (now : ℕ) →
    (get_or (get_or banks 0 []) 0 no_bank).retired ≡ None →
    (get_or (get_or (banks ++ opened_banks servers 0 delta now ∷ []) 0 []) 0 no_bank).retired ≡ None
kept_longer [] [] delta now kept = refl
kept_longer [] (server ∷ servers) delta now kept = refl
kept_longer (first ∷ later) servers delta now kept = kept

longer_follow : (world : World) (object : Object) (layout : Layout) (now : ℕ) → Follows world object →
    Follows (longer_world world layout) (longer_object object layout now)
longer_follow world object layout now follows = let new = longer_object object layout now in record {
  one = follows.one;
  delta = follows.delta;
  layouts = ap (λ l. l ++ layout ∷ []) follows.layouts;
  banks = map-append (map unstamped_bank) object.banks (opened_banks layout.members 0 object.delta now ∷ [])
      ∙ ap (λ l. map (map unstamped_bank) object.banks ++ l ∷ []) (opened_banks-bare layout.members 0 now object.delta)
      ∙ ap (λ d. map (map unstamped_bank) object.banks ++ opened_banks layout.members 0 d 0 ∷ []) follows.delta
      ∙ ap (λ l. map (map unstamped_bank) object.banks ++ l ∷ []) (banks_opened world.files follows.one layout.members 0)
      ∙ ap (λ l. l ++ new_banks world.files layout.members 0 ∷ []) follows.banks;
  sent = follows.sent;
  history = follows.history;
  calls = all_weaker (IsOpenIn object) (IsOpenIn new) (still_open object new.layouts new.banks object.mail) world.calls follows.calls;
  moves = λ index call at kind none. let move = follows.moves index call at kind none in
      record { carried = move.carried; found = move.found; kind = move.kind; node = move.node };
  kept = kept_longer object.banks layout.members object.delta now follows.kept;
}

moving_is : (object : Object) (id : ℕ) (layout : Layout) (now : ℕ) →
    moving_object object id layout now
    ≡ with_begun (longer_object object layout now) id Move (Spread Pending) (pred (length object.layouts)) now
moving_is object id layout now = grind (arith, longer_object, set-append_seam)

pub move_followed : (node id : ℕ) (layout : Layout) → IsFollowed (Event.BeginMove node id layout)
move_followed node id layout fragment world object code sound follows may premised =
    let now = last_step_after (suc world.now) in
    let last : pred (length object.layouts) ≡ length world.later = ap (λ layouts. pred (length layouts)) follows.layouts in
    let moves : length world.later ≡ moves_in object.calls = sym last ∙ ap pred sound.shape.positions in
    one_step fragment object world.now (Step.CallMove id layout)
    (with_begun (longer_object object layout now) id Move (Spread Pending) (length world.later) now)
    (moving_world (record world { now = suc world.now }) node id layout) code refl sound
    (new_id world object follows id premised.ids, may.0, no_move)
    (moving_is object id layout now ∙ ap (λ p. with_begun (longer_object object layout now) id Move (Spread Pending) p now) last)
    (added_follow (longer_world world layout) (longer_object object layout now) (longer_follow world object layout now follows) node id
    Move (MoveSpread (length world.later)) (Spread Pending) (length world.later) premised.ids
    (ap MoveSpread moves) (λ e. by_mover))
  where
    by_mover : node ≡ (world.files 0).mover
    by_mover = may.1 ∙ ap (λ (file : ClusterFile). file.mover) (follows.one node)

    no_move : NoOpenMove object
    no_move index call at kind = go call.answered refl
      where
        go : (o : Option ℕ) → call.answered ≡ o → IsSome o
        go (Some step) e = refl
        go None e =
            let move = follows.moves index call at kind e in
            absurd ((found (λ other. other.node ≡ node → other.kind ≡ Move → ⊥) world.calls call.id move.carried may.2 move.found).0
            (move.node ∙ sym by_mover) move.kind)
