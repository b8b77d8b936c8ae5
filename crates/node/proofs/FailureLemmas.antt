-- Why parts of a node fail, and why the node fails then.
use Rattle.std.proofs.Common.{◌≡◌, ◌⊎◌, inl, inr, ◌<◌, ℕ, zero, suc, Bool, true, false, List, [], ◌∷◌, ◌++◌, length, take, drop}
use Rattle.std.proofs.Common.{Option, None, Some, Result, Ok, Err, IfErr, get_or, map, arith, ap, refl, sym, subst, ◌∙◌}
use Rattle.std.specs.Result.{IsErrAnd}
use Rattle.std.proofs.lemmas.List.{map-id}
use Rattle.std.proofs.lemmas.Result.{err_from_is_err_and}
use Rattle.tag.specs.declared.refusal.Refusal.{Refusal}
use Rattle.deeds.specs.Named.{NamedLetter as Named}
use Rattle.letter.specs.declared.letter.NamedLetter.{NamedLetter}
use Rattle.client_commands.specs.Reading.{Found}
use Rattle.node_messages.specs.Reading.{message_from}
use Rattle.node_messages.specs.declared.error.Fault.{Fault}
use Rattle.node_messages.specs.declared.message.NodeMessage.{NodeMessage}
use Rattle.node_strings.specs.Arrival.{arrival_at}
use Rattle.node_strings.specs.Strings.{Strings}
use Rattle.node_strings.specs.declared.arrival.Arrival.{Arrival}
use Rattle.node_strings.specs.declared.arrival.Arrival.TheVariants as came
use Rattle.node_effects.specs.Errors.{IsUnwritten}
use Rattle.node_effects.specs.declared.error.NodeError.{NodeError}
use Rattle.node_effects.specs.declared.error.NodeError.TheVariants as errors
use Rattle.node_effects.specs.declared.work.Work.{Work}
use Rattle.node_clients.specs.Connections.{asked, waiting_on}
use Rattle.node_clients.specs.Desk.{connection_of}
use Rattle.node_clients.specs.declared.next.Next.{Next}
use Rattle.node_clients.specs.declared.next.Next.TheVariants.{Came}
use Rattle.node_keeper.specs.Beginning.{Beginning, IsNotBegun}
use Rattle.node_keeper.specs.NextIds.{next_id_of}
use Rattle.node_keeper.specs.Sendings.{Sending}
use Rattle.node_keeper.specs.declared.keeper.Keeper.{Keeper}
use Rattle.node.specs.Failures.{CanBeginNext, Fails, FailsAged, FailsArrival, FailsAsked, FailsBehind, FailsFirst, FailsIf, FailsRead}
use Rattle.node.specs.Failures.{FailsStep, FailsTicks, IsFailure}
use Rattle.node.specs.Frames.{is_admitted, letters_in, sender_or}
use Rattle.node.specs.FitNodes.{CameInBytes, IsFitAtWork, IsFitNode}
use Rattle.node.specs.Handles.{HasActed}
use Rattle.node.specs.Serving.{ServedSince}
use Rattle.node.specs.Ticks.{AreTicked}
use Rattle.node.specs.declared.node.Node.{Node}

-- a function fails as the one that it called
pub same_error : {T : Type 0} (P : NodeError → Type 0) (result : Result T NodeError) (error : NodeError) →
    IsErrAnd result (λ y. y ≡ error) → P error → IfErr result P
same_error P result error is p =
    let q = err_from_is_err_and result is in
    subst (λ r. IfErr r P) (sym q.1) (subst P (sym q.2) p)

-- what holds of an error holds of the error of a result
pub if_err_weaker : {T : Type 0} (P Q : NodeError → Type 0) (result : Result T NodeError) → ((e : NodeError) → P e → Q e) →
    IfErr result P → IfErr result Q
if_err_weaker P Q (Ok done) f p = tt
if_err_weaker P Q (Err error) f p = f error p

-- memory may always be refused
pub memory_fails : (ends fits : Type 0) (error : NodeError) → error ≡ errors.NoMemory → IsFailure ends fits error
memory_fails ends fits error is = subst (IsFailure ends fits) (sym is) tt

-- what is written is a part of what has to fit
pub unwritten_fails : (ends part whole : Type 0) → (whole → part) → (error : NodeError) → IsUnwritten part error →
    IsFailure ends whole error
unwritten_fails ends part whole of errors.NoMemory is = tt
unwritten_fails ends part whole of errors.NoMoreIds is = absurd is
unwritten_fails ends part whole of errors.Unwritable is = λ fits. is (of fits)
unwritten_fails ends part whole of (errors.Refused refusal) is = absurd is

-- where everything fits, memory was refused
pub only_memory : (fits : Type 0) → fits → (error : NodeError) → IsUnwritten fits error → error ≡ errors.NoMemory
only_memory fits all errors.NoMemory is = refl
only_memory fits all errors.NoMoreIds is = absurd is
only_memory fits all errors.Unwritable is = absurd (is all)
only_memory fits all (errors.Refused refusal) is = absurd is

-- what does not fit is a part of a whole that does not fit
pub failure_of_part : (ends part whole : Type 0) → (whole → part) → (error : NodeError) → IsFailure ends part error →
    IsFailure ends whole error
failure_of_part ends part whole of errors.NoMemory is = tt
failure_of_part ends part whole of errors.NoMoreIds is = is
failure_of_part ends part whole of errors.Unwritable is = λ fits. is (of fits)
failure_of_part ends part whole of (errors.Refused refusal) is = absurd is

-- a call that did not begin
pub not_begun_fails : (ends : Type 0) (call : Beginning) (keeper : Keeper) → (next_id_of keeper.ids ≡ None → ends) →
    (error : NodeError) → IsNotBegun call keeper error → IsFailure ends (CanBeginNext call keeper) error
not_begun_fails ends call keeper of errors.NoMemory is = tt
not_begun_fails ends call keeper of errors.NoMoreIds is = of is
not_begun_fails ends call keeper of errors.Unwritable is = λ can. is.2 (can is.0 is.1)
not_begun_fails ends call keeper of (errors.Refused refusal) is = absurd is

-- Ticks

-- a list with an item at some place is what is before it, the item, and what is behind it
split_at : (ids : List ℕ) (n id : ℕ) → n < length ids → id ≡ get_or ids n id → ids ≡ take n ids ++ id ∷ drop (suc n) ids
split_at [] n id lt same = absurd (no_place n lt)
  where
    no_place : (n : ℕ) → n < 0 → ⊥
    no_place n lt = omega arith
split_at (x ∷ xs) zero id lt same = ap (λ (y : ℕ). y ∷ xs) (sym same)
split_at (x ∷ xs) (suc n) id lt same =
    let le : suc n < suc (length xs) = lt in
    ap (λ (ys : List ℕ). x ∷ ys) (split_at xs n id (omega arith) same)

-- the first of the calls got older, and the node cannot go on with the next one
pub ticks_fail : (ids items first : List ℕ) (id : ℕ) (old middle : Node) (sends : List Sending) (error : NodeError) →
    items ≡ ids → map (λ (y : ℕ). y) first ≡ take (length first) items →
    (length first < length items) × (id ≡ get_or items (length first) id) → AreTicked first old sends middle →
    FailsAged id middle error → FailsTicks ids old error
ticks_fail ids items first id old middle sends error same so_far next ticked fails = record {
  first = first;
  id = id;
  rest = drop (suc (length first)) items;
  all = sym same ∙ split_at items (length first) id next.0 next.1
      ∙ ap (λ (xs : List ℕ). xs ++ id ∷ drop (suc (length first)) items) (sym so_far ∙ map-id first);
  middle = middle;
  sends = sends;
  ticked = ticked;
  fails = fails;
}

-- Frames

-- a refusal is no refused memory
not_memory : (why : Refusal) → errors.Refused why ≡ errors.NoMemory → ⊥
not_memory why e = cc

never_asked : (node : Node) (client : ℕ) (found : Found) (why : Refusal) → FailsAsked node client found (errors.Refused why) → ⊥
never_asked node client (Err fault) why is = not_memory why is
never_asked node client (Ok command) why is = is

never_first : (node : Node) (client : ℕ) (waiting : List Next) (why : Refusal) →
    FailsFirst node client waiting (errors.Refused why) → ⊥
never_first node client [] why is = is
never_first node client (next ∷ waiting) why is = never_asked node client (asked next) why is

never_if : (admitted : Bool) (sender : ℕ) (it : NamedLetter) (node : Node) (why : Refusal) →
    FailsIf admitted sender it node (errors.Refused why) → ⊥
never_if true sender it node why is = is
never_if false sender it node why is = not_memory why is

never_read : (sender : ℕ) (read : Result NodeMessage Fault) (node : Node) (why : Refusal) →
    FailsRead sender read node (errors.Refused why) → ⊥
never_read sender (Ok message) node why is = never_if (is_admitted node.keeper sender message) sender message.named node why is
never_read sender (Err fault) node why is = not_memory why is

-- what has come never makes a node fail with a refusal
never_here : (arrival : Option Arrival) (node : Node) (why : Refusal) → FailsArrival arrival node (errors.Refused why) → ⊥
never_here None node why is = is
never_here (Some (came.Command client frame)) node why (inl is) = not_memory why is
never_here (Some (came.Command client frame)) node why (inr is) =
    never_first node client (waiting_on (connection_of node.desk client) ++ Came frame ∷ []) why is.1
never_here (Some (came.Left client)) node why is = is
never_here (Some (came.Message sender frame)) node why is = never_read sender (message_from frame) node why is
never_here (Some (came.Tick heard)) node why (inl is) = not_memory why is
never_here (Some (came.Tick heard)) node why (inr is) = is.fails

-- a step never makes a node fail with a refusal
never_step : (node : Node) (own : List NamedLetter) (due : List ℕ) (why : Refusal) →
    FailsStep node own due (errors.Refused why) → ⊥
never_step node (it ∷ own) due why is = is
never_step node [] (client ∷ due) why is = never_first node client (waiting_on (connection_of node.desk client)) why is.1
never_step node [] [] why is = is

-- a node fails with what has come
pub fails_first : (old : Node) (frame : Strings) (error : NodeError) → FailsArrival (arrival_at frame) old error →
    Fails old frame error
fails_first old frame errors.NoMemory is = tt
fails_first old frame errors.NoMoreIds is = inl is
fails_first old frame errors.Unwritable is = inl is
fails_first old frame (errors.Refused why) is = absurd (never_here (arrival_at frame) old why is)

-- a node fails behind what has come
fails_behind : (old : Node) (frame : Strings) (error : NodeError) →
    FailsBehind (sender_or old.keeper.ids.node (arrival_at frame)) (letters_in old.keeper frame) (arrival_at frame) old error →
    Fails old frame error
fails_behind old frame errors.NoMemory is = tt
fails_behind old frame errors.NoMoreIds is = inr is
fails_behind old frame errors.Unwritable is = inr is
fails_behind old frame (errors.Refused why) is =
    absurd (never_step is.middle is.work.own.items is.work.due.items why is.fails)

-- the same of a node that did what came
pub fails_then : (old now : Node) (work : Work) (frame : Strings) (error : NodeError) →
    HasActed (sender_or old.keeper.ids.node (arrival_at frame)) (letters_in old.keeper frame) old.keeper now.keeper work →
    ServedSince (arrival_at frame) old now work.to_clients.items work.notices.items work.outputs.items →
    (error ≡ errors.NoMemory) ⊎ ((asker : ℕ) (got : List Named) (came : Option Arrival) (first : Node) →
    HasActed asker got first.keeper now.keeper work →
    ServedSince came first now work.to_clients.items work.notices.items work.outputs.items →
    (CameInBytes came → IsFitNode first → IsFitAtWork now work) → FailsBehind asker got came first error) →
    (CameInBytes (arrival_at frame) → IsFitNode old → IsFitAtWork now work) → Fails old frame error
fails_then old now work frame error acted served (inl is) fit = subst (Fails old frame) (sym is) tt
fails_then old now work frame error acted served (inr why) fit =
    fails_behind old frame error (why (sender_or old.keeper.ids.node (arrival_at frame)) (letters_in old.keeper frame)
    (arrival_at frame) old acted served fit)
