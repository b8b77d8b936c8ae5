-- The calls of histories that were begun and answered for a client's commands.
use Rattle.std.proofs.Common.{◌≡◌, ◌<◌, ◌≤◌, ◌+◌, ℕ, zero, suc, Bool, true, false, cond, nat_lt, List, []}
use Rattle.std.proofs.Common.{Option, None, Some, IsSome, slice_get, sym, subst, ap, ◌∙◌, arith}
use Rattle.std.proofs.lemmas.Option.{same_Some}
use Rattle.client_commands.specs.Deletion.{Deletion, count_of, is_written_again, left_over, name_now}
use Rattle.deeds.specs.CallId.{CallIds}
use Rattle.deeds.specs.Deeds.{Notice}
use Rattle.layout.specs.Layout.{Layout}
use Rattle.local_object.specs.declared.progress.Ended.{Ended}
use Rattle.record.specs.declared.call.Entry.{Entry}
use Rattle.record.specs.declared.call.Operation.{Operation}
use Rattle.record.specs.declared.call.Operation.TheVariants as operation
use Rattle.refinement.specs.SeenHistories.{IsBegunAs, IsToldAt}
use Rattle.refinement.proofs.PlaceLemmas.{get_same}
use Rattle.processes.specs.Answers.{AreWritten, IsCallOf, SeenHistory}
use Rattle.processes.specs.Events.{call_begun as id_begun}
use Rattle.processes.proofs.CommandViewLemmas.{IsOwnCall, Moved, View, WroteOnce, Wrote}
use Rattle.processes.proofs.SeenHistoryLemmas.{begins_with}
use Rattle.processes.proofs.StandingLemmas.{IsAmong}
use Rattle.processes.proofs.TalkLemmas.{WereTold}

-- what is left of a DEL has the same names
same_count : (delta : Option ℕ) (deletion rest : Deletion) → left_over delta deletion ≡ Some rest → count_of rest ≡ count_of deletion
same_count delta deletion rest left = go (is_written_again delta deletion.made) (nat_lt 1 _) left
  where
    go : (again more : Bool) →
        cond again (Some (record deletion { made = deletion.made + 1 }))
        (cond more (Some (record deletion { done = deletion.done + 1; made = 0 })) None) ≡ Some rest →
        count_of rest ≡ count_of deletion
    go true more e = ap count_of (sym (same_Some (record deletion { made = deletion.made + 1 }) rest e))
    go false true e = ap count_of (sym (same_Some (record deletion { done = deletion.done + 1; made = 0 }) rest e))
    go false false e = absurd (cc)

pub all_same_count : (view : View) (from : ℕ) (delta : Option ℕ) (count : ℕ) (first now : Deletion) →
    Wrote view from delta count first now → count_of now ≡ count_of first
all_same_count view from delta zero first now same = ap count_of (sym same)
all_same_count view from delta (suc count) first now is =
    all_same_count view from delta count is.1 now is.3 ∙ same_count delta first is.1 is.2

module _ (seen : List Notice) (histories : (name : List ℕ) → SeenHistory seen name)
    (last : (name : List ℕ) (index time : ℕ) (entry : Entry) (notice : Notice) → slice_get (histories name).calls index ≡ Some entry →
    slice_get seen time ≡ Some notice → id_begun notice ≡ Some entry.call → time ≤ (histories name).of.begins index) where
  -- a call of a history that began as this notice says, and its answer, which was told
  pub record IsFound (from to : ℕ) (notice : Notice) (ended : Ended) : Type 0 where
    pub name : List ℕ
    pub index : ℕ
    pub entry : Entry
    pub at : slice_get (histories name).calls index ≡ Some entry
    pub begun : IsBegunAs name notice entry
    pub kind : entry.kind ≡ ended.kind
    pub value : entry.value ≡ ended.value
    pub answered : IsSome entry.answered
    pub began : from ≤ (histories name).of.begins index
    pub place : ℕ
    pub told : slice_get seen place ≡ Some (Notice.Tells name ended)
    pub same : ended.id ≡ entry.call
    pub in_time : place < to

  pub found : (from to : ℕ) (notice : Notice) (id : ℕ) (told : List Notice) (ids : CallIds) (name : List ℕ) (ended : Ended) →
      IsOwnCall (record { seen = seen; told = told; ids = ids }) from notice id → IsAmong told (Notice.Tells name ended) → ended.id ≡ id →
      WereTold seen to told → IsFound from to notice ended
  found from to notice id told ids name ended own among same were = record {
    name = name;
    index = here.index;
    entry = here.entry;
    at = here.at;
    begun = subst (λ n. IsBegunAs name n here.entry) (get_same seen begins own.place there.0 notice there.1 own.at equal) there.2;
    kind = here.kind;
    value = here.value;
    answered = here.answered;
    began = let after = own.after in let e = equal in omega arith;
    place = tells.0;
    told = tells.1;
    same = sym here.call;
    in_time = tells.2;
  }
    where
      tells : (place : ℕ) × (slice_get seen place ≡ Some (Notice.Tells name ended)) × (place < to)
      tells = were (Notice.Tells name ended) among

      here : IsToldAt (histories name).calls (histories name).of.begins tells.0 ended
      here = (histories name).of.told tells.0 ended tells.1

      begins : ℕ
      begins = (histories name).of.begins here.index

      there : (notice : Notice) × (slice_get seen begins ≡ Some notice) × IsBegunAs name notice here.entry
      there = (histories name).of.begun here.index here.entry here.at

      call_is : here.entry.call ≡ id
      call_is = here.call ∙ same

      equal : begins ≡ own.place
      equal =
          let first : begins ≤ own.place =
          own.last begins there.0 there.1 (begins_with name there.0 here.entry there.2 ∙ ap Some call_is) in
          let second : own.place ≤ begins =
          last name here.index own.place here.entry notice here.at own.at (own.begins ∙ ap Some (sym call_is)) in omega arith

  -- as one of the kinds of calls
  pub call_of : (from to : ℕ) (notice : Notice) (ended : Ended) (is : IsFound from to notice ended) (name : List ℕ) (kind : Operation)
      (value : Option (List ℕ)) → name ≡ is.name → is.entry.kind ≡ kind → is.entry.value ≡ value →
      IsCallOf seen histories name from to kind value
  call_of from to notice ended is name kind value same kinds values =
      subst (λ n. IsCallOf seen histories n from to kind value) (sym same) (record {
        index = is.index;
        entry = is.entry;
        at = is.at;
        is_kind = kinds;
        is_value = values;
        answered = is.answered;
        began = is.began;
        place = is.place;
        ended = ended;
        told = is.told;
        same_id = is.same;
        same_value = sym is.value;
        in_time = is.in_time;
      })

  once_of : (from to : ℕ) (told : List Notice) (ids : CallIds) (name : List ℕ) → WereTold seen to told →
      WroteOnce (record { seen = seen; told = told; ids = ids }) from name →
      IsCallOf seen histories name from to operation.Write (Some [])
  once_of from to told ids name were once =
      let is = found from to (Notice.Writes name once.id []) once.id told ids once.other once.ended once.call once.told once.same were in
      call_of from to (Notice.Writes name once.id []) once.ended is name operation.Write (Some []) is.begun.0 is.begun.2 is.begun.3

  -- a move
  pub moved_of : (from to : ℕ) (told : List Notice) (ids : CallIds) (name : List ℕ) (layout : Layout) → WereTold seen to told →
      Moved (record { seen = seen; told = told; ids = ids }) from name layout →
      (value : Option (List ℕ)) × IsCallOf seen histories name from to operation.Move value
  moved_of from to told ids name layout were was =
      let is = found from to (Notice.Moves name was.id layout) was.id told ids was.other was.ended was.call was.told was.same were in (
        was.ended.value,
        call_of from to (Notice.Moves name was.id layout) was.ended is name operation.Move was.ended.value is.begun.0 is.begun.2
            is.value,
      )

  -- all writes of a DEL
  pub written_of : (from to : ℕ) (told : List Notice) (ids : CallIds) (delta : Option ℕ) (count : ℕ) (first now : Deletion) →
      WereTold seen to told → Wrote (record { seen = seen; told = told; ids = ids }) from delta count first now →
      IsCallOf seen histories (name_now now) from to operation.Write (Some []) → left_over delta now ≡ None →
      AreWritten seen histories delta from to (suc count) (Some first)
  written_of from to told ids delta zero first now were same call none = (
    subst (λ d. IsCallOf seen histories (name_now d) from to operation.Write (Some [])) (sym same) call,
    subst (AreWritten seen histories delta from to zero) (sym (ap (left_over delta) same ∙ none)) tt,
  )
  written_of from to told ids delta (suc count) first now were is call none = (
    once_of from to told ids (name_now first) were is.0,
    subst (AreWritten seen histories delta from to (suc count)) (sym is.2)
        (written_of from to told ids delta count is.1 now were is.3 call none),
  )
