-- The calls of a node, with distinct ids: one is found, changed, added or removed.
use Rattle.std.proofs.Common.{◌≡◌, ◌≢◌, ℕ, zero, suc, ◌<◌, Bool, true, false, cond, eqb, not, List, [], ◌∷◌, ◌++◌, slice_get}
use Rattle.std.proofs.Common.{length, get_or, set, refl, sym, subst, ap, ◌∙◌, eqb-true, eq-eqb, arith}
use Rattle.std.proofs.Common.{Option, Some, None, MatchOption}
use Rattle.std.specs.List.{position, remove}
use Rattle.std.proofs.lemmas.Option.{get_or_from_slice_get, slice_get_read}
use Rattle.layout.specs.Layout.{Layout}
use Rattle.bank.specs.declared.kind.Kind.{Kind}
use Rattle.bank.specs.declared.kind.Kind.TheVariants.{Next}
use Rattle.record.specs.declared.call.CallKind.{CallKind}
use Rattle.record.specs.declared.stage.Stage.TheVariants.{ReadBegin}
use Rattle.call.specs.Call.{OpenCall as Machine}
use Rattle.call.specs.Steps.{begun_call}
use Rattle.open_calls.specs.OpenCalls.{open_call, with_open, without_call}
use Rattle.local_object.specs.Anew.{reading_machine}
use Rattle.local_object.specs.Codes.{at_node, carried}
use Rattle.local_object.specs.Distinct.{HaveOtherIds, DifferInIds, IsCallAt}
use Rattle.local_object.proofs.FoundLemmas.{element, first_of}

pub same_call : (a b : Machine) → Some a ≡ Some b → a ≡ b
same_call a b e = cc

pub not_equal : (a b : ℕ) → a ≢ b → eqb a b ≡ false
not_equal a b other = go (eqb a b) refl
  where
    go : (e : Bool) → eqb a b ≡ e → eqb a b ≡ false
    go true t = absurd (other (eqb-true a b t))
    go false t = t

pub equal : (a b : ℕ) → a ≡ b → eqb a b ≡ true
equal a b same = ap (eqb a) (sym same) ∙ eq-eqb a a refl

-- none of the calls has an id, so this one does not
pub other_at : (id : ℕ) (calls : List Machine) (i : ℕ) (call : Machine) → HaveOtherIds id calls →
    slice_get calls i ≡ Some call → call.id ≢ id
other_at id [] i call others at = absurd (cc)
other_at id (c ∷ cs) zero call others at = subst (λ (m : Machine). m.id ≢ id) (same_call c call at) others.0
other_at id (c ∷ cs) (suc i) call others at = other_at id cs i call others.1 at

-- where no call has an id, none is found
pub open_none : (node : ℕ) (calls : List Machine) (id : ℕ) → HaveOtherIds id calls → open_call (carried node calls) id ≡ None
open_none node [] id others = refl
open_none node (c ∷ cs) id others =
    ap (λ b. cond b (Some (at_node node c)) (open_call (carried node cs) id)) (not_equal c.id id others.0) ∙ open_none node cs id others.1

-- a call is found by its id
pub open_at : (node : ℕ) (calls : List Machine) (i : ℕ) (call : Machine) → DifferInIds calls → slice_get calls i ≡ Some call
    → open_call (carried node calls) call.id ≡ Some (at_node node call)
open_at node [] i call distinct at = absurd (cc)
open_at node (c ∷ cs) zero call distinct at =
    let same = same_call c call at in
    ap (λ b. cond b (Some (at_node node c)) (open_call (carried node cs) call.id)) (equal c.id call.id (ap (λ (m : Machine). m.id) same))
    ∙ ap (λ (m : Machine). Some (at_node node m)) same
open_at node (c ∷ cs) (suc i) call distinct at =
    ap (λ b. cond b (Some (at_node node c)) (open_call (carried node cs) call.id))
    (not_equal c.id call.id (λ e. other_at c.id cs i call distinct.0 at (sym e)))
    ∙ open_at node cs i call distinct.1 at

-- one that has another id is changed to nothing else
with_others : (node : ℕ) (new : Machine) (calls : List Machine) → HaveOtherIds new.id calls
    → with_open (at_node node new) (carried node calls) ≡ carried node calls
with_others node new [] others = refl
with_others node new (c ∷ cs) others =
    ap (λ b. cond b (at_node node new) (at_node node c) ∷ with_open (at_node node new) (carried node cs)) (not_equal c.id new.id others.0)
    ∙ ap (λ calls. at_node node c ∷ calls) (with_others node new cs others.1)

-- the call at an index is changed
pub with_set : (node : ℕ) (calls : List Machine) (i : ℕ) (old new : Machine) → DifferInIds calls → slice_get calls i ≡ Some old
    → new.id ≡ old.id → with_open (at_node node new) (carried node calls) ≡ carried node (set calls i new)
with_set node [] i old new distinct at same = absurd (cc)
with_set node (c ∷ cs) zero old new distinct at same =
    let id : c.id ≡ new.id = ap (λ (m : Machine). m.id) (same_call c old at) ∙ sym same in
    ap (λ b. cond b (at_node node new) (at_node node c) ∷ with_open (at_node node new) (carried node cs)) (equal c.id new.id id)
    ∙ ap (λ calls. at_node node new ∷ calls) (with_others node new cs (subst (λ n. HaveOtherIds n cs) id distinct.0))
with_set node (c ∷ cs) (suc i) old new distinct at same =
    ap (λ b. cond b (at_node node new) (at_node node c) ∷ with_open (at_node node new) (carried node cs))
    (not_equal c.id new.id (λ e. other_at c.id cs i old distinct.0 at (sym same ∙ sym e)))
    ∙ ap (λ calls. at_node node c ∷ calls) (with_set node cs i old new distinct.1 at same)

pub without_others : (node id : ℕ) (calls : List Machine) → HaveOtherIds id calls →
    without_call id (carried node calls) ≡ carried node calls
without_others node id [] others = refl
without_others node id (c ∷ cs) others =
    ap (λ b. cond (not b) (at_node node c ∷ without_call id (carried node cs)) (without_call id (carried node cs)))
    (not_equal c.id id others.0)
    ∙ ap (λ calls. at_node node c ∷ calls) (without_others node id cs others.1)

-- the call at an index is removed
pub without_at : (node : ℕ) (calls : List Machine) (i : ℕ) (call : Machine) → DifferInIds calls → slice_get calls i ≡ Some call
    → without_call call.id (carried node calls) ≡ carried node (remove calls i)
without_at node [] i call distinct at = absurd (cc)
without_at node (c ∷ cs) zero call distinct at =
    let id : c.id ≡ call.id = ap (λ (m : Machine). m.id) (same_call c call at) in
    ap (λ b. cond (not b) (at_node node c ∷ without_call call.id (carried node cs)) (without_call call.id (carried node cs)))
    (equal c.id call.id id)
    ∙ without_others node call.id cs (subst (λ n. HaveOtherIds n cs) id distinct.0)
without_at node (c ∷ cs) (suc i) call distinct at =
    ap (λ b. cond (not b) (at_node node c ∷ without_call call.id (carried node cs)) (without_call call.id (carried node cs)))
    (not_equal c.id call.id (λ e. other_at c.id cs i call distinct.0 at (sym e)))
    ∙ ap (λ calls. at_node node c ∷ calls) (without_at node cs i call distinct.1 at)

-- the ids stay distinct

others_push : (id : ℕ) (calls : List Machine) (call : Machine) → HaveOtherIds id calls → call.id ≢ id → HaveOtherIds id (calls ++ call ∷ [])
others_push id [] call others other = (other, tt)
others_push id (c ∷ cs) call others other = (others.0, others_push id cs call others.1 other)

pub distinct_push : (calls : List Machine) (call : Machine) → DifferInIds calls → HaveOtherIds call.id calls →
    DifferInIds (calls ++ call ∷ [])
distinct_push [] call distinct new = (tt, tt)
distinct_push (c ∷ cs) call distinct new =
    (others_push c.id cs call distinct.0 (λ e. new.0 (sym e)), distinct_push cs call distinct.1 new.1)

others_set : (id : ℕ) (calls : List Machine) (i : ℕ) (new : Machine) → HaveOtherIds id calls → new.id ≢ id →
    HaveOtherIds id (set calls i new)
others_set id [] i new others other = tt
others_set id (c ∷ cs) zero new others other = (other, others.1)
others_set id (c ∷ cs) (suc i) new others other = (others.0, others_set id cs i new others.1 other)

pub distinct_set : (calls : List Machine) (i : ℕ) (old new : Machine) → DifferInIds calls → slice_get calls i ≡ Some old
    → new.id ≡ old.id → DifferInIds (set calls i new)
distinct_set [] i old new distinct at same = tt
distinct_set (c ∷ cs) zero old new distinct at same =
    (subst (λ n. HaveOtherIds n cs) (ap (λ (m : Machine). m.id) (same_call c old at) ∙ sym same) distinct.0, distinct.1)
distinct_set (c ∷ cs) (suc i) old new distinct at same = (
  others_set c.id cs i new distinct.0 (λ e. other_at c.id cs i old distinct.0 at (sym same ∙ e)),
  distinct_set cs i old new distinct.1 at same,
)

others_remove : (id : ℕ) (calls : List Machine) (i : ℕ) → HaveOtherIds id calls → HaveOtherIds id (remove calls i)
others_remove id [] zero others = tt
others_remove id [] (suc i) others = tt
others_remove id (c ∷ cs) zero others = others.1
others_remove id (c ∷ cs) (suc i) others = (others.0, others_remove id cs i others.1)

pub distinct_remove : (calls : List Machine) (i : ℕ) → DifferInIds calls → DifferInIds (remove calls i)
distinct_remove [] zero distinct = tt
distinct_remove [] (suc i) distinct = tt
distinct_remove (c ∷ cs) zero distinct = distinct.1
distinct_remove (c ∷ cs) (suc i) distinct = (others_remove c.id cs i distinct.0, distinct_remove cs i distinct.1)

-- what an index says, where the call with an id is first there, or nowhere

pub others_before : (id : ℕ) (calls : List Machine) → ((i : ℕ) (d : Machine) → i < length calls → eqb (get_or calls i d).id id ≡ false)
    → HaveOtherIds id calls
others_before id [] none = tt
others_before id (c ∷ cs) none = (
  λ e. absurd (let t = equal c.id id e in let f = none 0 c (omega arith) in cc),
  others_before id cs (λ i d h. none (suc i) d (omega arith)),
)

-- what a function reads at an index, and puts there

read_at : (items old : List Machine) (i : ℕ) (read call : Machine) → items ≡ old → read ≡ get_or items i read
    → slice_get old i ≡ Some call → read ≡ call
read_at items old i read call same is at =
    is ∙ ap (λ (xs : List Machine). get_or xs i read) same ∙ get_or_from_slice_get old i call read at

pub put_is : (f : Machine → Machine) (items old : List Machine) (i : ℕ) (read new call : Machine) → items ≡ old
    → read ≡ get_or items i read → new ≡ f read → slice_get old i ≡ Some call → set items i new ≡ set old i (f call)
put_is f items old i read new call same is made at =
    ap (set items i) (made ∙ ap f (read_at items old i read call same is at)) ∙ ap (λ (xs : List Machine). set xs i (f call)) same

pub put_distinct : (items old : List Machine) (i : ℕ) (read new : Machine) → items ≡ old → i < length old
    → read ≡ get_or items i read → new.id ≡ read.id → DifferInIds items → DifferInIds (set items i new)
put_distinct items old i read new same within is id distinct =
    distinct_set items i read new distinct
    (slice_get_read items (length old) i read (ap length (sym same)) within is) id

-- what a search by id found
pub at_index : (id : ℕ) (calls : List Machine) (o : Option ℕ) → o ≡ position (λ (call : Machine). eqb call.id id) calls
    → MatchOption o (HaveOtherIds id calls) (IsCallAt calls id)
at_index id calls None is = others_before id calls (λ i d h. first_of (λ (call : Machine). eqb call.id id) calls None is i d h)
at_index id calls (Some i) is =
    let first = first_of (λ (call : Machine). eqb call.id id) calls (Some i) is in
    let there = element calls i first.within in record {
      call = there.0;
      there = there.1;
      named = ap (λ (call : Machine). call.id) (sym (get_or_from_slice_get calls i there.0 there.0 there.1))
          ∙ eqb-true (get_or calls i there.0).id id (first.passes there.0);
    }

-- a call that begins to read, with the id and the kind of one that has settled nothing
pub begun_is : (call : Machine) (id number : ℕ) (kind : CallKind) (asked : Kind) (position : ℕ) (layout : Layout) → id ≡ call.id
    → kind ≡ call.kind → asked ≡ Next → call.settled ≡ None
    → begun_call id number kind ReadBegin asked position layout 0 ≡ reading_machine call number position layout
begun_is call id number kind asked position layout same kinds next unsettled =
    ap (λ n. begun_call n number kind ReadBegin asked position layout 0) same
    ∙ ap (λ k. begun_call call.id number k ReadBegin asked position layout 0) kinds
    ∙ ap (λ a. begun_call call.id number call.kind ReadBegin a position layout 0) next
    ∙ ap (λ s. record (reading_machine call number position layout) { settled = s }) (sym unsettled)
