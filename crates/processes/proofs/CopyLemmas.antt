-- A copy of a copy is a copy.
use Rattle.std.proofs.Common.{◌≡◌, ◌≤◌, ℕ, Bool, true, false, cond, List, [], ◌∷◌, Some, slice_get}
use Rattle.std.proofs.Common.{refl, sym, subst, ap, ◌∙◌, arith}
use Rattle.std.specs.List.{filter}
use Rattle.deeds.specs.Kept.{FileOfNames, KeptNode}
use Rattle.layout.specs.Layout.{Layout}
use Rattle.record.specs.Legal.{is_move}
use Rattle.open_calls.specs.OpenCalls.{NodeCall}
use Rattle.local_object.specs.Local.{LocalObject}
use Rattle.local_object.specs.Restarts.{IsKeptHere}
use Rattle.recoveries.specs.Copies.{IsCopyOf}
use Rattle.recoveries.proofs.KeptPlaceLemmas.{bank_kept}

moves_twice : (calls : List NodeCall) →
    filter (λ call. is_move call.kind) (filter (λ call. is_move call.kind) calls) ≡ filter (λ call. is_move call.kind) calls
moves_twice [] = refl
moves_twice (call ∷ calls) = go (is_move call.kind) refl (moves_twice calls)
  where
    moves : List NodeCall → List NodeCall
    moves xs = filter (λ call. is_move call.kind) xs

    go : (b : Bool) → is_move call.kind ≡ b → moves (moves calls) ≡ moves calls →
        moves (cond b (call ∷ moves calls) (moves calls)) ≡ cond b (call ∷ moves calls) (moves calls)
    go true e rest = ap (λ c. cond c (call ∷ moves (moves calls)) (moves (moves calls))) e ∙ ap (λ xs. call ∷ xs) rest
    go false e rest = rest

some_layout : (a b : Layout) → Some a ≡ Some b → a ≡ b
some_layout a b e = cc

not_later : (a b c : ℕ) → b ≤ a → c ≤ b → c ≤ a
not_later a b c first second = omega arith

-- what is kept of what is kept is kept
kept_twice : (moves then : Type 0) (a b c : LocalObject) → (moves → then) → IsKeptHere moves a b → IsKeptHere then b c →
    IsKeptHere moves a c
kept_twice moves then a b c also first second = record {
  node = second.node ∙ first.node;
  delta = second.delta ∙ first.delta;
  start = not_later a.start b.start c.start first.start second.start;
  layouts = λ position layout is. first.layouts position layout (second.layouts position layout is);
  first = second.first;
  banks = λ position member layout is own.
      bank_kept then b c second position member
      (λ other there. subst (λ (l : Layout). slice_get l.members member ≡ Some b.node)
      (some_layout layout other (sym is ∙ first.layouts position other there)) (own ∙ ap Some (sym first.node)))
      ∙ first.banks position member layout is own;
  reports = second.reports;
  calls = second.calls ∙ ap (λ xs. filter (λ call. is_move call.kind) xs) first.calls ∙ moves_twice a.calls;
  mover = λ here position layout is. second.mover (also here) position layout (first.mover here position layout is);
}

pub copy_twice : (a b c : KeptNode) → IsCopyOf a b → IsCopyOf b c → IsCopyOf a c
copy_twice a b c first second = record {
  file = second.file ∙ first.file;
  number = second.number ∙ first.number;
  epoch = second.epoch ∙ first.epoch;
  objects = λ name. kept_twice (a.ids.node ≡ a.file.mover) (b.ids.node ≡ b.file.mover) (a.objects name) (b.objects name)
      (c.objects name) (λ here. first.number ∙ here ∙ ap (λ (f : FileOfNames). f.mover) (sym first.file)) (first.objects name)
      (second.objects name);
  distinct = first.distinct;
  mover = first.mover;
}
