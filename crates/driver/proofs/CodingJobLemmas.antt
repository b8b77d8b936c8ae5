-- What is handed out of a cluster to be coded or decoded.
use Rattle.std.proofs.Common.{◌≡◌, ℕ, suc, pred, ◌≤◌, inl, inr, List, Option, Some, None, Result, Ok, Err, OnOk, sym, subst, ◌∙◌}
use Rattle.tag.specs.declared.refusal.Refusal.{Refusal}
use Rattle.tag.specs.Refusal.{IsByCause}
use Rattle.tag.specs.declared.limits.TheConstants.{MOST_STEPS}
use Rattle.encoder.specs.Fragment.{fragment}
use Rattle.piece.specs.declared.piece.Piece.{Piece}
use Rattle.decoder.specs.Decoded.{Decoding}
use Rattle.decoder.specs.Pieces.{ArePiecesOf, IsInterpolated}
use Rattle.decoder.proofs.ValuePrefixLemmas.{IsInterpolated-pieces_of}
use Rattle.soundness.specs.Sound.{IsSound}
use Rattle.record.specs.Steps.{Step}
use Rattle.record.specs.declared.stage.Want.TheVariants as want
use Rattle.register.specs.Causes.{supply_cause, supplying_cause, settle_cause, value_cause}
use Rattle.register.specs.State.{State}
use Rattle.register.specs.View.{want_at, coding_at, fetched_pieces}
use Rattle.cluster.specs.Cluster.{Cluster, named, if_named}
use Rattle.cluster.specs.Causes.{next, if_object, object_cause}
use Rattle.cluster.specs.Preconditions.{MayMake}
use Rattle.cluster.specs.Steps.{with_step}
use Rattle.driver.specs.Coding.{settling_cause}
use Rattle.driver.specs.Driver.{wanted}
use Rattle.driver.specs.Rounds.{IsToEncode, IsToDecode, SettlesOwn}
use Rattle.driver.proofs.NamedObjectLemmas.{read_there, cause_there, same_cause, one_state}
use Rattle.driver.proofs.CompleteFetchLemmas.{pieces_are}
use Rattle.driver.proofs.SuppliedValueLemmas.{codable, supply_is, value_refused}
use Rattle.driver.proofs.SettledValueLemmas.{settle_is, settling_none}

some_same : {X : Type 0} (x y : X) → Some x ≡ Some y → x ≡ y
some_same x y e = cc

module _ (cluster : Cluster) (name : List ℕ) (call : ℕ) where
  pub to_encode : (state : State) (k n : ℕ) (value : List ℕ) → named cluster.objects name ≡ Some state
      → IsSound fragment state.object state.last
      → object_cause cluster name (λ object. supplying_cause (next cluster) object call) ≡ None
      → if_named cluster name (λ object. coding_at object call) ≡ Some (value, k, n) → IsToEncode cluster name call k n value
  to_encode state k n value there sound room sent = record {
    sent = sent;
    lawful = codable state.object state.last call k n value sound
        (sym (read_there cluster name state (λ object. coding_at object call) there) ∙ sent);
    room = room;
  }

  pub to_decode : (state : State) (k len : ℕ) (pieces : List Piece) → named cluster.objects name ≡ Some state
      → IsSound fragment state.object state.last
      → wanted cluster name call ≡ Some (want.Settle k len) → suc cluster.counter ≤ MOST_STEPS
      → if_named cluster name (λ object. Some (fetched_pieces object call)) ≡ Some pieces → IsToDecode cluster name call k len pieces
  to_decode state k len pieces there sound wants within taken =
      let here : want_at state.object call ≡ Some (want.Settle k len) =
      sym (read_there cluster name state (λ object. want_at object call) there) ∙ wants in
      let given = pieces_are state.object state.last call k len sound here in
      let same : fetched_pieces state.object call ≡ pieces =
      some_same _ _ (sym (read_there cluster name state (λ object. Some (fetched_pieces object call)) there) ∙ taken) in
      record {
        wants = wants;
        taken = taken;
        give = (given.0, given.1, subst (λ (ps : List Piece). ArePiecesOf given.0 k ps) same given.2);
        room = cause_there cluster name state (λ object. settling_cause (next cluster) object call) there
            ∙ settling_none state.object call k len (next cluster) here within;
      }

  pub supply_same : (k n : ℕ) (value : List ℕ) → IsToEncode cluster name call k n value
      → object_cause cluster name (λ object. supply_cause (next cluster) object call (record { k = k; n = n; value = value }))
      ≡ object_cause cluster name (λ object. supplying_cause (next cluster) object call)
  supply_same k n value is =
      same_cause cluster name (λ object. supply_cause (next cluster) object call (record { k = k; n = n; value = value }))
      (λ object. supplying_cause (next cluster) object call)
      (λ state there. supply_is state.object call k n (next cluster) value
      (sym (read_there cluster name state (λ object. coding_at object call) there) ∙ is.sent))

  pub settle_same : (k len : ℕ) (pieces : List Piece) (decoded : Decoding) → IsToDecode cluster name call k len pieces → decoded.k ≡ k
      → decoded.pieces ≡ pieces
      → object_cause cluster name (λ object. settle_cause (next cluster) object call decoded) ≡ object_cause cluster name
      (λ object. settling_cause (next cluster) object call)
  settle_same k len pieces decoded is same_k same_pieces =
      same_cause cluster name (λ object. settle_cause (next cluster) object call decoded)
      (λ object. settling_cause (next cluster) object call)
      (λ state there. settle_is state.object call k len (next cluster) decoded
      (sym (read_there cluster name state (λ object. want_at object call) there) ∙ is.wants)
      same_k (same_pieces
      ∙ some_same _ _ (sym is.taken ∙ read_there cluster name state (λ object. Some (fetched_pieces object call)) there)))

  -- the value that the pieces give was settled, or the settle was refused
  pub settled_own : {T : Type 0} (r : Result T Refusal) (k len : ℕ) (pieces : List Piece) (value : List ℕ) (new : Cluster)
      → IsToDecode cluster name call k len pieces → IsInterpolated k len pieces value
      → OnOk r (MayMake cluster name (Step.Settle (pred call) value))
      → OnOk r (new ≡ with_step cluster name (Step.Settle (pred call) value)) → OnOk r (SettlesOwn cluster name call new)
  settled_own (Ok x) k len pieces value new is given may made = record {
    k = k;
    len = len;
    wants = is.wants;
    pieces = pieces;
    taken = is.taken;
    value = value;
    given = given;
    may = may;
    made = made;
  }
  settled_own (Err e) k len pieces value new is given may made = tt

  -- the pieces give a value
  pub given_there : (old : State) (k len : ℕ) → named cluster.objects name ≡ Some old → IsSound fragment old.object old.last
      → wanted cluster name call ≡ Some (want.Settle k len) → (state : State) → named cluster.objects name ≡ Some state
      → (value : List ℕ) × IsInterpolated k len (fetched_pieces state.object call) value
  given_there old k len there sound wants state at =
      let here : want_at old.object call ≡ Some (want.Settle k len) =
      sym (read_there cluster name old (λ object. want_at object call) there) ∙ wants in
      let given = pieces_are old.object old.last call k len sound here in
      let value = IsInterpolated-pieces_of given.0 k len (fetched_pieces old.object call) given.1 given.2 in (
        given.0,
        subst (λ (s : State). IsInterpolated k len (fetched_pieces s.object call) given.0)
            (one_state cluster name old state there at) value,
      )

  -- a value that is refused, though no limit refuses its supply, is refused for want of memory
  pub value_by : {T : Type 0} (r : Result T Refusal)
      → object_cause cluster name (λ object. supplying_cause (next cluster) object call) ≡ None
      → IsByCause (object_cause cluster name (λ object. value_cause object call)) r
      → IsByCause (object_cause cluster name (λ object. supplying_cause (next cluster) object call)) r
  value_by (Ok x) room by = room
  value_by (Err e) room (inr memory) = inr (room, memory.1)
  value_by (Err e) room (inl some) = inl (supplied (named cluster.objects name) some)
    where
      supplied : (o : Option State) → if_object o (λ object. value_cause object call) ≡ Some e
          → if_object o (λ object. supplying_cause (next cluster) object call) ≡ Some e
      supplied None e = e
      supplied (Some state) none = value_refused state.object call (next cluster) e none
