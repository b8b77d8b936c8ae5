-- Copies of a node, by copies of its objects.
use Rattle.std.proofs.Common.{◌≡◌, ℕ, Bool, true, false, cond, List, [], refl, sym, subst, ap, ◌∙◌, arith}
use Rattle.std.specs.List.{filter}
use Rattle.local_object.specs.Local.{LocalObject}
use Rattle.open_calls.specs.OpenCalls.{NodeCallsDiffer}
use Rattle.open_calls.proofs.DistinctCallLemmas.{distinct_filter}
use Rattle.deeds.specs.Kept.{FileOfNames, KeptNode, new_node}
use Rattle.deeds.specs.Named.{is_same_name, with_named}
use Rattle.deeds.proofs.NameLemmas.{same_named}
use Rattle.recoveries.specs.Copies.{IsCopyOf}
use Rattle.recoveries.specs.Records.{IsKeptUnder, IsSame}
use Rattle.recoveries.proofs.KeptCallLemmas.{IsObjectCopy, moves_call, moves_twice, moving_as}

-- the node moves objects
abbrev pub Moves : KeptNode → Type 0
Moves node = node.ids.node ≡ node.file.mover

moves_as : (m n : Type 0) → (m → n) → (n → m) → (local copy : LocalObject) → IsObjectCopy m local copy → IsObjectCopy n local copy
moves_as m n there back local copy is = record {
  kept = record {
    node = is.kept.node;
    delta = is.kept.delta;
    start = is.kept.start;
    layouts = is.kept.layouts;
    first = is.kept.first;
    banks = is.kept.banks;
    reports = is.kept.reports;
    calls = is.kept.calls;
    mover = λ here. is.kept.mover (back here);
  };
  distinct = is.distinct;
  mover = λ moving. there (is.mover moving);
}

pub object_copy : (node copy : KeptNode) → IsCopyOf node copy → (name : List ℕ) →
    IsObjectCopy (Moves node) (node.objects name) (copy.objects name)
object_copy node copy is name = record { kept = is.objects name; distinct = is.distinct name; mover = is.mover name }

by_objects : (node copy : KeptNode) → copy.file ≡ node.file → copy.ids.node ≡ node.ids.node → copy.ids.epoch ≡ node.ids.epoch →
    ((name : List ℕ) → IsObjectCopy (Moves node) (node.objects name) (copy.objects name)) → IsCopyOf node copy
by_objects node copy file number epoch each = record {
  file = file;
  number = number;
  epoch = epoch;
  objects = λ name. (each name).kept;
  distinct = λ name. (each name).distinct;
  mover = λ name. (each name).mover;
}

moves_still : (a b : KeptNode) → b.file ≡ a.file → b.ids.node ≡ a.ids.node → Moves a → Moves b
moves_still a b file number here = number ∙ here ∙ ap (λ (f : FileOfNames). f.mover) (sym file)

-- Both keep something under a name

module _ (old new copy copied : KeptNode) (name : List ℕ) (local other : LocalObject) (is : IsCopyOf old copy)
    (put : IsKeptUnder old name local new) (reput : IsKeptUnder copy name other copied)
    (here : IsObjectCopy (Moves old) local other) where
  each_put : (q : List ℕ) → IsObjectCopy (Moves old) (new.objects q) (copied.objects q)
  each_put q =
      subst (λ l. IsObjectCopy (Moves old) l (copied.objects q)) (sym (put.objects q))
      (subst (IsObjectCopy (Moves old) (with_named old.objects name local q)) (sym (reput.objects q)) (go (is_same_name name q)))
    where
      go : (b : Bool) → IsObjectCopy (Moves old) (cond b local (old.objects q)) (cond b other (copy.objects q))
      go true = here
      go false = object_copy old copy is q

  pub put_both : IsCopyOf new copied
  put_both =
      by_objects new copied (reput.file ∙ is.file ∙ sym put.file) (reput.node ∙ is.number ∙ sym put.node)
      (reput.epoch ∙ is.epoch ∙ sym put.epoch)
      (λ q. moves_as (Moves old) (Moves new) (moves_still old new put.file put.node)
      (moves_still new old (sym put.file) (sym put.node)) (new.objects q) (copied.objects q) (each_put q))

same_put : (old new : KeptNode) (name : List ℕ) → IsSame old new → IsKeptUnder old name (old.objects name) new
same_put old new name same = record {
  file = same.file;
  node = same.node;
  epoch = same.epoch;
  objects = λ q. same.objects q ∙ same_named old.objects name q;
}

-- the node alone keeps something under a name
pub put_alone : (old new copy copied : KeptNode) (name : List ℕ) (local : LocalObject) → IsCopyOf old copy →
    IsKeptUnder old name local new → IsSame copy copied → IsObjectCopy (Moves old) local (copy.objects name) → IsCopyOf new copied
put_alone old new copy copied name local is put same here =
    put_both old new copy copied name local (copy.objects name) is put (same_put copy copied name same) here

pub same_both : (old new copy copied : KeptNode) → IsCopyOf old copy → IsSame old new → IsSame copy copied → IsCopyOf new copied
same_both old new copy copied is same resame =
    put_alone old new copy copied [] (old.objects []) is (same_put old new [] same) resame (object_copy old copy is [])

pub same_self : (node : KeptNode) → IsSame node node
same_self node = record { file = refl; node = refl; epoch = refl; objects = λ name. refl }

pub same_then : (a b c : KeptNode) → IsSame a b → IsSame b c → IsSame a c
same_then a b c first second = record {
  file = second.file ∙ first.file;
  node = second.node ∙ first.node;
  epoch = second.epoch ∙ first.epoch;
  objects = λ name. second.objects name ∙ first.objects name;
}

-- Copies of copies

self_object : (moves : Type 0) (local copy : LocalObject) → IsObjectCopy moves local copy → IsObjectCopy moves copy copy
self_object moves local copy is =
    let moved = ap (filter moves_call) is.kept.calls ∙ moves_twice local.calls in record {
      kept = record {
        node = refl;
        delta = refl;
        start = omega arith;
        layouts = λ q layout e. e;
        first = is.kept.first;
        banks = λ q member layout at holds. refl;
        reports = is.kept.reports;
        calls = is.kept.calls ∙ sym moved;
        mover = λ here q layout e. e;
      };
      distinct = subst NodeCallsDiffer (sym is.kept.calls) (distinct_filter moves_call local.calls is.distinct);
      mover = λ moving. is.mover (moving_as local.calls copy.calls moved moving);
    }

-- a copy is one of itself
pub self_copy : (node copy : KeptNode) → IsCopyOf node copy → IsCopyOf copy copy
self_copy node copy is =
    by_objects copy copy refl refl refl
    (λ name. moves_as (Moves node) (Moves copy) (moves_still node copy is.file is.number)
    (moves_still copy node (sym is.file) (sym is.number)) (copy.objects name) (copy.objects name)
    (self_object (Moves node) (node.objects name) (copy.objects name) (object_copy node copy is name)))

-- a new node is one of itself
pub new_copy : (file : FileOfNames) (number : ℕ) → IsCopyOf (new_node file number) (new_node file number)
new_copy file number = record {
  file = refl;
  number = refl;
  epoch = refl;
  objects = λ name. record {
    node = refl;
    delta = refl;
    start = omega arith;
    layouts = λ q layout e. e;
    first = refl;
    banks = λ q member layout at holds. refl;
    reports = refl;
    calls = refl;
    mover = λ here q layout e. e;
  };
  distinct = λ name. tt;
  mover = λ name moving. absurd (cc);
}
