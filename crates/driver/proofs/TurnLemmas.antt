-- What a round and the step behind it make together: a turn, or a refused one.
use Rattle.std.proofs.Common.{◌≡◌, ◌≢◌, ℕ, pred, ◌⊎◌, Bool, List, Some, None, refl, sym, ap, subst, ◌∙◌, Vec, Global}
use Rattle.tag.specs.Cause.{IsRefusalBy}
use Rattle.tag.specs.declared.refusal.Refusal.{Refusal}
use Rattle.tag.specs.declared.refusal.Refusal.TheVariants.{NoMemory}
use Rattle.decoder.specs.Pieces.{IsInterpolated}
use Rattle.decoder.proofs.ValuePrefixLemmas.{IsInterpolated-pieces_of}
use Rattle.piece.specs.declared.piece.Piece.{Piece}
use Rattle.record.specs.Steps.{Step}
use Rattle.record.specs.declared.stage.Want.{Want}
use Rattle.record.specs.declared.stage.Want.TheVariants as want
use Rattle.register.specs.Causes.{supplying_cause}
use Rattle.register.specs.View.{want_at, fetched_pieces}
use Rattle.cluster.specs.Cluster.{Cluster}
use Rattle.cluster.specs.Causes.{next, object_cause}
use Rattle.cluster.specs.Preconditions.{MayMake}
use Rattle.cluster.specs.Steps.{with_step}
use Rattle.driver.specs.declared.round.Round.{Round}
use Rattle.driver.specs.declared.round.Round.TheVariants as round
use Rattle.driver.specs.Coding.{settling_cause}
use Rattle.driver.specs.Driver.{wanted, turn_cause, IsNotAnswered, IsNext, IsDue, IsTurn, IsRefused}
use Rattle.driver.specs.Rounds.{IsToEncode, IsToDecode, SettlesOwn, MakesRound}
use Rattle.driver.proofs.NamedObjectLemmas.{read_there, is_there}
use Rattle.driver.proofs.OpenCallLemmas.{turn_open}
use Rattle.driver.proofs.StepRefusalLemmas.{settle_refused, supply_refused}

pub same_want : (a b : Want) → Some a ≡ Some b → a ≡ b
same_want a b e = cc

same_pieces : (a b : List Piece) → Some a ≡ Some b → a ≡ b
same_pieces a b e = cc

module _ {C : Type 0} (chooses : C → ℕ → ℕ → C → Type 0) (name : List ℕ) (call : ℕ) (again : Bool) (old : Cluster) (before : C) where
  abbrev Made : Cluster → C → Type 0
  Made new after = IsTurn chooses name call again old before new after × IsNotAnswered new name call

  no_answer : (after : C) (step : Step) → IsDue chooses name call old again before after step → step ≢ Step.AnswerCall (pred call)
      → wanted old name call ≢ Some want.Answer
  no_answer after step due other e =
      let is = same_want due.want want.Answer
      (sym due.wants ∙ sym (read_there old name due.state (λ object. want_at object call) due.there) ∙ e) in
      let n = subst (λ w. IsNext chooses name call old due.state.object again before after step w) is due.next in
      other n.1

  made : (new : Cluster) (after : C) (step : Step) → IsDue chooses name call old again before after step
      → step ≢ Step.AnswerCall (pred call)
      → turn_cause old name call step ≡ None → MayMake old name step → new ≡ with_step old name step → Made new after
  made new after step due other room may is =
      let turn : IsTurn chooses name call again old before new after =
      record { step = step; due = due; room = room; may = may; made = is } in
      (turn, turn_open chooses name call again old before new after turn (no_answer after step due other))

  no_supply : Step.Supply (pred call) ≢ Step.AnswerCall (pred call)
  no_supply e = cc

  no_settle : (value : List ℕ) → Step.Settle (pred call) value ≢ Step.AnswerCall (pred call)
  no_settle value e = cc

  pub stepped_turn : (new : Cluster) (after : C) (o : Round) → o ≡ round.Stepped → MakesRound chooses name call again old before new after o
      → Made new after
  stepped_turn new after o is made =
      let r = subst (λ o. MakesRound chooses name call again old before new after o) is made in
      (r.0, turn_open chooses name call again old before new after r.0 r.1)

  module _ (middle : Cluster) (after : C) (o : Round) (made_by : MakesRound chooses name call again old before middle after o) where
    pub encode_turn : (value : List ℕ) (k n : ℕ) (new : Cluster) → o ≡ round.Encode value k n
        → object_cause middle name (λ object. supplying_cause (next middle) object call) ≡ None
        → MayMake middle name (Step.Supply (pred call))
        → new ≡ with_step middle name (Step.Supply (pred call)) → Made new after
    encode_turn value k n new is room may step =
        let r = subst (λ o. MakesRound chooses name call again old before middle after o) is made_by in
        made new after (Step.Supply (pred call))
        (subst (λ a. IsDue chooses name call old again before a (Step.Supply (pred call))) (sym r.1) r.2) no_supply
        (subst (λ (m : Cluster). object_cause m name (λ object. supplying_cause (next m) object call) ≡ None) r.0 room)
        (subst (λ (m : Cluster). MayMake m name (Step.Supply (pred call))) r.0 may)
        (step ∙ ap (λ m. with_step m name (Step.Supply (pred call))) r.0)

    pub encode_ready : (value : List ℕ) (k n : ℕ) → o ≡ round.Encode value k n → IsToEncode middle name call k n value
    encode_ready value k n is =
        let r = subst (λ o. MakesRound chooses name call again old before middle after o) is made_by in
        subst (λ m. IsToEncode m name call k n value) (sym r.0) r.3

    pub decode_ready : (pieces : Vec Piece Global) (k len : ℕ) → o ≡ round.Decode pieces k len
        → IsToDecode middle name call k len pieces.items
    decode_ready pieces k len is =
        let r = subst (λ o. MakesRound chooses name call again old before middle after o) is made_by in
        subst (λ m. IsToDecode m name call k len pieces.items) (sym r.0) r.2

    pub encode_refused : (value : List ℕ) (k n : ℕ) (refusal : Refusal) → o ≡ round.Encode value k n
        → IsRefusalBy (object_cause middle name (λ object. supplying_cause (next middle) object call)) refusal
        → IsRefused chooses name call old again before after refusal
    encode_refused value k n refusal is by =
        let r = subst (λ o. MakesRound chooses name call again old before middle after o) is made_by in
        subst (λ a. IsRefused chooses name call old again before a refusal) (sym r.1)
        (supply_refused chooses name call old again before k n value refusal r.2 r.3.sent
        (subst (λ (m : Cluster). IsRefusalBy (object_cause m name (λ object. supplying_cause (next m) object call)) refusal) r.0 by))

    pub decode_turn : (pieces : Vec Piece Global) (k len : ℕ) (new : Cluster) → o ≡ round.Decode pieces k len
        → object_cause middle name (λ object. settling_cause (next middle) object call) ≡ None → SettlesOwn middle name call new
        → Made new after
    decode_turn pieces k len new is room settles =
        let r = subst (λ o. MakesRound chooses name call again old before middle after o) is made_by in
        let own = subst (λ m. SettlesOwn m name call new) r.0 settles in
        let s = is_there old name (λ object. want_at object call) (want.Settle own.k own.len) own.wants in
        let read : fetched_pieces s.0.object call ≡ own.pieces =
        same_pieces _ _ (sym (read_there old name s.0 (λ object. Some (fetched_pieces object call)) s.1) ∙ own.taken) in
        let given = subst (λ (ps : List Piece). IsInterpolated own.k own.len ps own.value) (sym read) own.given in
        made new after (Step.Settle (pred call) own.value)
        (record { state = s.0; there = s.1; want = want.Settle own.k own.len; wants = s.2; next = (r.1, (own.value, refl, given)) })
        (no_settle own.value)
        (subst (λ (m : Cluster). object_cause m name (λ object. settling_cause (next m) object call) ≡ None) r.0 room) own.may own.made

    pub decode_refused : (pieces : Vec Piece Global) (k len : ℕ) (refusal : Refusal) → o ≡ round.Decode pieces k len
        → (object_cause middle name (λ object. settling_cause (next middle) object call) ≡ Some refusal)
        ⊎ ((object_cause middle name (λ object. settling_cause (next middle) object call) ≡ None) × (refusal ≡ NoMemory))
        → IsRefused chooses name call old again before after refusal
    decode_refused pieces k len refusal is by =
        let r = subst (λ o. MakesRound chooses name call again old before middle after o) is made_by in
        subst (λ a. IsRefused chooses name call old again before a refusal) (sym r.1)
        (settle_refused chooses name call old again before k len refusal r.2.wants
        (λ state there. (
          r.2.give.0,
          subst (λ (ps : List Piece). IsInterpolated k len ps r.2.give.0)
              (sym (same_pieces _ _ (sym (read_there old name state (λ object. Some (fetched_pieces object call)) there) ∙ r.2.taken)))
              (IsInterpolated-pieces_of r.2.give.0 k len pieces.items r.2.give.1 r.2.give.2),
        ))
        (subst (λ (m : Cluster). (object_cause m name (λ object. settling_cause (next m) object call) ≡ Some refusal)
        ⊎ ((object_cause m name (λ object. settling_cause (next m) object call) ≡ None) × (refusal ≡ NoMemory))) r.0 by))
