-- If a request to raise a pointer to final was sent to a member of a position, or a pointer there is final, then such a
-- request was sent to each member of the position.
use Rattle.std.proofs.Common.{◌≡◌, ◌⊎◌, inl, inr, ℕ, suc, ◌+◌, ◌<◌, List, [], ◌∷◌, ◌++◌, length, Some, slice_get}
use Rattle.std.proofs.Common.{sym, ap, ◌∙◌, subst, arith}
use Rattle.layout.specs.Layout.{Layout}
use Rattle.piece.specs.declared.piece.Piece.{Piece}
use Rattle.bank.specs.declared.kind.Kind.{Kind}
use Rattle.bank.specs.declared.kind.Kind.TheVariants.{Spread}
use Rattle.bank.specs.declared.request.Request.TheVariants as request
use Rattle.bank.specs.declared.status.Status.TheVariants as status
use Rattle.mail.specs.Message.{body_kind}
use Rattle.mail.specs.declared.message.Body.TheVariants as body
use Rattle.mail.specs.declared.message.Message.{Message}
use Rattle.record.specs.Sending.{request_to, requests}
use Rattle.network.specs.Worlds.{World, known_layout, known_layouts}
use Rattle.network.specs.Premises.{WasSent}
use Rattle.starts.specs.Starts.{HasFinal, WasAskedToRaise, raise_request}
use Rattle.starts.proofs.BankRowLemmas.{row_count}
use Rattle.starts.proofs.BegunPhaseLemmas.{requests_are, split_list}
use Rattle.starts.proofs.FinalPointerLemmas.{Keeps, get_more}
use Rattle.starts.proofs.RaisedBankLemmas.{final_exists}
use Rattle.starts.proofs.ServedReplyLemmas.{requests_at}
use Rattle.starts.proofs.TrueReplyLemmas.{IsTruthful, IsWithin, layout_still}

-- Definitions

-- the message is a request to raise the pointer to final
abbrev pub AsksToRaise : Message → Type 0
AsksToRaise message = message.body ≡ body.Request (request.Spread status.Final)

-- a request to raise the pointer to final was sent to each member of the position
abbrev pub AreAsked : World → (position : ℕ) → Type 0
AreAsked world position = (member : ℕ) → IsWithin world position member → WasAskedToRaise world position member

-- what was sent to one member was sent to all, and where a pointer is final, all members were asked
pub record HasAsked (world : World) : Type 0 where
  pub requests : (message : Message) → WasSent world message → AsksToRaise message → AreAsked world message.position
  pub final : (position member : ℕ) → HasFinal world position member → AreAsked world position

-- a request to raise the pointer of the position to final was sent
abbrev pub IsRaisedAt : World → (position : ℕ) → Type 0
IsRaisedAt world position = (message : Message) × WasSent world message × AsksToRaise message × (message.position ≡ position)

-- what an event adds: what was sent stays sent; a new request to raise a pointer goes to all members of its position;
-- and a pointer becomes final only by such a request that was sent
pub record Adds (world new : World) : Type 0 where
  pub stays : (message : Message) → WasSent world message → WasSent new message
  pub news : (message : Message) → WasSent new message → AsksToRaise message →
      WasSent world message ⊎ AreAsked new message.position
  pub final : (position member : ℕ) → HasFinal new position member → HasFinal world position member ⊎ IsRaisedAt world position

-- One event

-- a member whose pointer is final is one of the position
final_within : (world : World) → IsTruthful world → (position member : ℕ) → HasFinal world position member →
    IsWithin world position member
final_within world truth position member final =
    subst (λ n. member < n) (row_count world.banks (known_layouts world 0) position truth.banks) (final_exists _ member final)

module _ (world new : World) (truth : IsTruthful world) (keeps : Keeps world new) (adds : Adds world new) (has : HasAsked world) where
  -- the members of a position that has one were asked, and are those of the new world
  still_asked : (position member : ℕ) → IsWithin world position member → AreAsked world position → AreAsked new position
  still_asked position member within asked other there =
      let it = asked other
      (subst (λ (l : Layout). other < length l.members) (layout_still world new keeps position member within) there) in
      record { call = it.call; phase = it.phase; sent = adds.stays (raise_request it.call it.phase position other) it.sent }

  asked_by : (message : Message) → WasSent world message → AsksToRaise message → AreAsked new message.position
  asked_by message was asks =
      still_asked message.position message.member (truth.messages message was).within (has.requests message was asks)

  pub adding_asked : HasAsked new
  adding_asked = record {
    requests = λ message was asks. from_request message asks (adds.news message was asks);
    final = λ position member final. from_final position member (adds.final position member final);
  }
    where
      from_request : (message : Message) → AsksToRaise message → WasSent world message ⊎ AreAsked new message.position →
          AreAsked new message.position
      from_request message asks (inl was) = asked_by message was asks
      from_request message asks (inr asked) = asked

      from_final : (position member : ℕ) → HasFinal world position member ⊎ IsRaisedAt world position → AreAsked new position
      from_final position member (inl final) =
          still_asked position member (final_within world truth position member final) (has.final position member final)
      from_final position member (inr raised) = subst (AreAsked new) raised.3 (asked_by raised.0 raised.1 raised.2)

-- Events that send nothing, or a phase's requests

pub adds_same : (world new : World) → new.sent ≡ world.sent → new.banks ≡ world.banks → Adds world new
adds_same world new sent banks = record {
  stays = λ message was. (was.0, ap (λ l. slice_get l was.0) sent ∙ was.1);
  news = λ message was asks. inl (was.0, ap (λ l. slice_get l was.0) (sym sent) ∙ was.1);
  final = λ position member final. inl (subst (λ b. HasFinal (record world { banks = b }) position member) banks final);
}

-- the place of an element in the second of two lists
get_later : {A : Type 0} (xs ys : List A) (i : ℕ) → slice_get (xs ++ ys) (length xs + i) ≡ slice_get ys i
get_later [] ys i = ap (slice_get ys) (let e : 0 + i ≡ i = omega arith in e)
get_later (x ∷ xs) ys i =
    ap (slice_get (x ∷ xs ++ ys)) (let e : length (x ∷ xs) + i ≡ suc (length xs + i) = omega arith in e) ∙ get_later xs ys i

module _ (world new : World) (id number : ℕ) (kind : Kind) (position : ℕ) (layout : Layout) (piece : ℕ → Piece)
    (same : known_layout new 0 position ≡ layout)
    (sent : new.sent ≡ world.sent ++ requests id number kind position layout.members 0 piece) where
  abbrev asked : List Message
  asked = requests id number kind position layout.members 0 piece

  -- the request to each member of the position
  request_there : kind ≡ Spread status.Final → AreAsked new position
  request_there spread member within =
      let here : member < length layout.members = subst (λ (l : Layout). member < length l.members) same within in
      record {
        call = id;
        phase = number;
        sent = (
          length world.sent + member,
          ap (λ l. slice_get l (length world.sent + member)) sent
              ∙ get_later world.sent asked member
              ∙ requests_at id number kind position layout.members 0 piece member here
              ∙ ap (λ (m : ℕ). let it : Message = record {
                call = id;
                phase = number;
                position = position;
                member = m;
                body = body.Request (request_to kind (piece m));
              } in Some it) (let e : 0 + member ≡ member = omega arith in e)
              ∙ ap (λ (k : Kind). let it : Message = record {
                call = id;
                phase = number;
                position = position;
                member = member;
                body = body.Request (request_to k (piece member));
              } in Some it) spread,
        );
      }

  pub adds_phase : ((other member : ℕ) → HasFinal new other member → HasFinal world other member) → Adds world new
  adds_phase final = record {
    stays = λ message was. (was.0, ap (λ l. slice_get l was.0) sent ∙ get_more world.sent asked was.0 message was.1);
    news = λ message was asks.
        go message asks (split_list world.sent asked was.0 message (ap (λ l. slice_get l was.0) (sym sent) ∙ was.1));
    final = λ other member there. inl (final other member there);
  }
    where
      go : (message : Message) → AsksToRaise message →
          ((place : ℕ) × (slice_get world.sent place ≡ Some message)) ⊎ ((place : ℕ) × (slice_get asked place ≡ Some message)) →
          WasSent world message ⊎ AreAsked new message.position
      go message asks (inl before) = inl before
      go message asks (inr request) =
          let is = requests_are id number kind position layout.members 0 piece request.0 message request.1 in
          inr (subst (AreAsked new) (sym is.at) (request_there (sym is.asks ∙ ap body_kind asks)))
