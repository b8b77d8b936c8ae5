-- What a node does with a letter that is to be served.
use Rattle.std.proofs.Common.{◌≡◌, ℕ, suc, ◌+◌, ◌^◌, ◌&&◌, Bool, true, false, cond, ltb, List, [], ◌∷◌, Option, Some, None, slice_get}
use Rattle.std.proofs.Common.{refl, sym, subst, ap, ◌∙◌, eqb-true}
use Rattle.layout.specs.Layout.{Layout}
use Rattle.bank.specs.Serve.{kind_of}
use Rattle.bank.specs.declared.kind.Kind.{Kind}
use Rattle.bank.specs.declared.reply.Reply.{Reply}
use Rattle.bank.specs.declared.request.Request.{Request}
use Rattle.mail.specs.Message.{body_kind}
use Rattle.mail.specs.declared.message.Body.{Body}
use Rattle.mail.specs.declared.message.Body.TheVariants as body
use Rattle.letter.specs.declared.letter.Letter.{Letter}
use Rattle.letter.specs.declared.start.Start.{Start}
use Rattle.letter.specs.declared.telling.Telling.{Telling}
use Rattle.local_object.specs.declared.kept_bank.KeptBank.{KeptBank}
use Rattle.local_object.specs.ChangedBanks.{kept_bank}
use Rattle.local_object.specs.KeptBanks.{kept_reply}
use Rattle.local_object.specs.Reports.{told_by}
use Rattle.local_object.specs.Doing.{IsOutcome, has_member, is_askable, is_member, is_served, names_node, serve_events, stray_events}
use Rattle.mail.specs.Message.{is_request}
use Rattle.local_object.specs.Events.{LocalEvent, reply_letters, served_here}
use Rattle.local_object.specs.Outcomes.{learnt_from, next_in_body}
use Rattle.local_object.specs.Local.{LocalObject, Place, bank_here, bank_in, bank_or_opened, layout_here, layout_in, heard_place}
use Rattle.local_object.specs.Local.{start_at, told_start, told_start_in, with_bank_here}
use Rattle.local_object.specs.May.{IsAddressed}
use Rattle.local_object.proofs.HeardLayoutLemmas.{node_heard}
use Rattle.local_object.proofs.LearntLemmas.{layout_learnt, layout_or}
use Rattle.local_object.proofs.PieceLemmas.{nil_right}
use Rattle.local_object.proofs.PlaceLemmas.{layout_bank}

both_first : (a b : Bool) → (a && b) ≡ true → a ≡ true
both_first true b e = refl
both_first false b e = absurd (cc)

both_second : (a b : Bool) → (a && b) ≡ true → b ≡ true
both_second true b e = e
both_second false b e = absurd (cc)

-- the letter that is sent back
module _ (local : LocalObject) (letter : Letter) (asked : Request) (is : letter.message.body ≡ body.Request asked) where
  abbrev position : ℕ
  position = letter.message.position

  abbrev member : ℕ
  member = letter.message.member

  abbrev made : Option Layout → Option Start → Option Telling → Kind → Reply → Letter
  made next start told kind reply = record {
    layout = letter.layout;
    next = next_in_body (body.Reply kind reply) next;
    start = start;
    asks_piece = false;
    told = told;
    message = record {
      call = letter.message.call;
      phase = letter.message.phase;
      position = position;
      member = member;
      body = body.Reply kind reply;
    };
  }

  -- what the node keeps of its bank afterwards, and all its places then
  abbrev bank : Option KeptBank
  bank = kept_bank (bank_in (heard_place local.places position)) member local.delta asked

  abbrev served_places : List Place
  served_places = with_bank_here local.places position bank

  abbrev tells_in : List Place → Option Telling
  tells_in places = told_by (bank_or_opened (bank_in (heard_place places position)) member local.delta) letter.asks_piece

  pub handled_sent : (places : List Place) (kind : Kind) (reply : Reply) (told : Option Telling) (sent : Letter)
      → places ≡ served_places → kind ≡ kind_of asked
      → Some reply ≡ kept_reply (bank_here local position member) asked → told ≡ tells_in places
      → sent ≡ made (layout_in (heard_place places (suc position))) (told_start_in places local.start) told kind reply
      → sent ∷ [] ≡ (served_here local letter letter.message.body).sent
  handled_sent places kind reply told sent places_are kind_is reply_is told_is sent_is =
      let next : layout_in (heard_place places (suc position)) ≡ layout_here local (suc position) =
      ap (λ (ps : List Place). layout_in (heard_place ps (suc position))) places_are
      ∙ layout_bank local.places position bank (suc position) in
      let begins : told_start_in places local.start ≡ told_start local =
      ap (start_at local.start)
      (ap (λ (ps : List Place). layout_in (heard_place ps local.start)) places_are
      ∙ layout_bank local.places position bank local.start) in
      ap (λ (l : Letter). l ∷ [])
      (sent_is ∙ ap (λ o. made o (told_start_in places local.start) told kind reply) next
      ∙ ap (λ s. made (layout_here local (suc position)) s told kind reply) begins
      ∙ ap (λ t. made (layout_here local (suc position)) (told_start local) t kind reply) (told_is ∙ ap tells_in places_are)
      ∙ ap (λ k. made (layout_here local (suc position)) (told_start local) (tells_in served_places) k reply)
      (kind_is ∙ sym (ap body_kind is)))
      ∙ ap (reply_letters local letter (tells_in served_places)) reply_is
      ∙ sym (ap (λ b. (served_here local letter b).sent) is)

-- Whether a letter is served

pub served_is : (local : LocalObject) (letter : Letter) (asked : Request) (r : Bool) → letter.message.body ≡ body.Request asked
    → ltb (letter.message.position + 1) (2 ^ 32) ≡ true
    → r ≡ has_member (layout_or (layout_here local letter.message.position) letter.layout) letter.message.member local.node
    → r ≡ is_served local letter
served_is local letter asked r is next member =
    let inner = is_member (layout_here (learnt_from local letter) letter.message.position) letter.message.member local.node in
    member
    ∙ sym (ap (λ o. is_member o letter.message.member local.node) (layout_learnt local letter))
    ∙ sym (ap (λ b. b && inner) next)
    ∙ sym (ap (λ b. is_request b && (ltb (letter.message.position + 1) (2 ^ 32) && inner)) is)

request_of : (b : Body) → is_request b ≡ true → (asked : Request) × (b ≡ body.Request asked)
request_of (body.Request asked) e = (asked, refl)
request_of (body.Reply kind made) e = absurd (cc)

named_of : (o : Option ℕ) (node : ℕ) → names_node o node ≡ true → o ≡ Some node
named_of None node e = absurd (cc)
named_of (Some server) node e = ap Some (eqb-true server node e)

member_of : (o : Option Layout) (member node : ℕ) → is_member o member node ≡ true
    → (layout : Layout) × (o ≡ Some layout) × (slice_get layout.members member ≡ Some node)
member_of None member node e = absurd (cc)
member_of (Some layout) member node e = (layout, refl, named_of (slice_get layout.members member) node e)

module _ (old : LocalObject) (letter : Letter) where
  abbrev inner : Bool
  inner = is_member (layout_here (learnt_from old letter) letter.message.position) letter.message.member old.node

  abbrev rest : Bool
  rest = ltb (letter.message.position + 1) (2 ^ 32) && inner

  addressed : is_served old letter ≡ true → IsAddressed (learnt_from old letter) letter
  addressed served =
      subst (λ node. (layout : Layout) × (layout_here (learnt_from old letter) letter.message.position ≡ Some layout)
      × (slice_get layout.members letter.message.member ≡ Some node))
      (sym (node_heard old letter))
      (member_of (layout_here (learnt_from old letter) letter.message.position) letter.message.member old.node
      (both_second (ltb (letter.message.position + 1) (2 ^ 32)) inner
      (both_second (is_request letter.message.body) rest served)))

  pub serve_done : (mid new : LocalObject) (sent : List Letter) → true ≡ is_served old letter
      → mid ≡ learnt_from old letter → new ≡ (served_here mid letter letter.message.body).local
      → sent ≡ (served_here mid letter letter.message.body).sent → IsOutcome old (serve_events old letter) new sent
  serve_done mid new sent served with_heard local letters =
      subst (λ b. IsOutcome old (cond b (LocalEvent.Serve letter ∷ []) (cond (is_askable letter) (stray_events old letter) [])) new sent)
      served (record {
        may = (
          (request_of letter.message.body (both_first (is_request letter.message.body) rest (sym served)), addressed (sym served)),
          tt,
        );
        local = local ∙ ap (λ (l : LocalObject). (served_here l letter letter.message.body).local) with_heard;
        letters = letters ∙ ap (λ (l : LocalObject). (served_here l letter letter.message.body).sent) with_heard
            ∙ sym (nil_right (served_here (learnt_from old letter) letter letter.message.body).sent);
      })
