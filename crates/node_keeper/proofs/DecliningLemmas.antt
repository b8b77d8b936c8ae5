-- Requests that a node serves, and to which its closed bank sends no reply.
use Rattle.std.proofs.Common.{◌≡◌, ◌==◌, ◌≤◌, ◌+◌, ◌^◌, ◌&&◌, ℕ, Bool, true, false, cond, ltb, eqb, eqb-true, Option, None, Some, length}
use Rattle.std.proofs.Common.{slice_get, get_or, refl, sym, ap, ◌∙◌, eq-eqb, arith}
use Rattle.std.specs.List.{position_or_len}
use Rattle.std.proofs.lemmas.Bool.{ltb-false}
use Rattle.std.proofs.lemmas.List.Quantifiers.{position-Some}
use Rattle.std.proofs.lemmas.List.Sums.{fails_before_first}
use Rattle.std.proofs.lemmas.Option.{get_or_from_slice_get, slice_get-get_or, slice_get_within}
use Rattle.bank.specs.declared.request.Request.TheVariants as request
use Rattle.layout.specs.Layout.{IsLawful, Layout}
use Rattle.letter.specs.declared.letter.Letter.{Letter}
use Rattle.mail.specs.Message.{is_request}
use Rattle.mail.specs.declared.message.Body.{Body}
use Rattle.mail.specs.declared.message.Body.TheVariants as body
use Rattle.local_object.specs.declared.kept_bank.KeptBank.{KeptBank}
use Rattle.local_object.specs.declared.kept_bank.KeptBank.TheVariants as kept
use Rattle.local_object.specs.Doing.{has_member, is_member, names_node}
use Rattle.local_object.specs.Local.{LocalObject, Place, bank_in, bank_or_opened, heard_place, layout_in}
use Rattle.local_object.specs.Passed.{member_of}
use Rattle.local_object.proofs.HeardLayoutLemmas.{layout_kept}
use Rattle.local_object.proofs.OneMemberLemmas.{one_member}
use Rattle.object_letters.specs.Closing.{is_closed}
use Rattle.node_keeper.specs.Declining.{declines, fetches, is_declined_by}

-- Which member the node is

module _ (layout : Layout) (member node : ℕ) where
  abbrev is_node : ℕ → Bool
  is_node server = server == node

  -- the node is no member
  pub no_member : member_of (Some layout) node ≡ None → false ≡ has_member layout member node
  no_member none = go (slice_get layout.members member) refl
    where
      past : (b : Bool) → ltb (position_or_len is_node layout.members) (length layout.members) ≡ b →
          cond b (Some (position_or_len is_node layout.members)) None ≡ None →
          length layout.members ≤ position_or_len is_node layout.members
      past true less none = absurd (cc)
      past false less none = ltb-false _ _ less

      go : (o : Option ℕ) → slice_get layout.members member ≡ o → false ≡ names_node o node
      go None at = refl
      go (Some server) at =
          let end = past (ltb (position_or_len is_node layout.members) (length layout.members)) refl none in
          let within = slice_get_within layout.members member server at in
          sym (ap is_node (sym (get_or_from_slice_get layout.members member server 0 at))
          ∙ fails_before_first is_node layout.members member 0 (omega arith))

  -- the node is a member with the number `own`
  pub own_member : IsLawful layout → (own : ℕ) → member_of (Some layout) node ≡ Some own →
      (own == member) ≡ has_member layout member node
  own_member lawful own is = go (eqb own member) refl
    where
      there : slice_get layout.members own ≡ Some node
      there =
          let found = position-Some is_node layout.members own 0 is in
          slice_get-get_or layout.members own 0 found.0
          ∙ ap (λ n. Some n) (eqb-true (get_or layout.members own 0) node found.1)

      apart : (o : Option ℕ) → slice_get layout.members member ≡ o → eqb own member ≡ false → false ≡ names_node o node
      apart None at other = refl
      apart (Some server) at other = no (eqb server node) refl
        where
          no : (b : Bool) → eqb server node ≡ b → false ≡ b
          no false same = refl
          no true same =
              absurd (let at_node : slice_get layout.members member ≡ Some node = at ∙ ap (λ n. Some n) (eqb-true server node same) in
              let wrong : false ≡ true =
              sym other ∙ eq-eqb own member (one_member layout own member node lawful there at_node) in cc)

      go : (b : Bool) → eqb own member ≡ b → b ≡ has_member layout member node
      go true same =
          sym (ap (λ o. names_node o node) (ap (slice_get layout.members) (sym (eqb-true own member same)) ∙ there)
          ∙ eq-eqb node node refl)
      go false other = apart (slice_get layout.members member) refl other

-- What a closed bank declines

fetch_asks : (b : Body) → fetches b ≡ true → is_request b ≡ true
fetch_asks (body.Request asked) is = refl
fetch_asks (body.Reply kind made) is = absurd (cc)

closed_fetch : (bank : Option KeptBank) (member : ℕ) (delta : Option ℕ) (b : Body) → is_closed bank ≡ true → fetches b ≡ true →
    is_declined_by (bank_or_opened bank member delta) b ≡ true
closed_fetch None member delta b closed is = absurd (cc)
closed_fetch (Some (kept.Open bank)) member delta b closed is = absurd (cc)
closed_fetch (Some (kept.Closed bank)) member delta (body.Request (request.Fetch tag)) closed is = refl
closed_fetch (Some (kept.Closed bank)) member delta (body.Request request.Next) closed is = absurd (cc)
closed_fetch (Some (kept.Closed bank)) member delta (body.Request (request.Spread status)) closed is = absurd (cc)
closed_fetch (Some (kept.Closed bank)) member delta (body.Request request.Query) closed is = absurd (cc)
closed_fetch (Some (kept.Closed bank)) member delta (body.Request (request.PreWrite tag piece)) closed is = absurd (cc)
closed_fetch (Some (kept.Closed bank)) member delta (body.Request (request.Finalize tag)) closed is = absurd (cc)
closed_fetch (Some (kept.Closed bank)) member delta (body.Reply kind made) closed is = absurd (cc)

same_with : (x : Bool) → x ≡ (x && true)
same_with true = refl
same_with false = refl

all_of : (a b c d x : Bool) → a ≡ true → b ≡ true → c ≡ x → d ≡ true → x ≡ ((a && (b && c)) && d)
all_of a b c d x asks room member declined =
    same_with x ∙ sym (ap (λ t. (t && (b && c)) && d) asks ∙ ap (λ t. (t && c) && d) room ∙ ap (λ t. t && d) member
    ∙ ap (λ t. x && t) declined)

-- where the bank of a position is closed, a fetch is declined if the node is the member that it names
pub closed_declines : (local : LocalObject) (letter : Letter) (place : Place) →
    heard_place local.places letter.message.position ≡ Some place → is_closed place.bank ≡ true →
    fetches letter.message.body ≡ true → ltb (letter.message.position + 1) (2 ^ 32) ≡ true →
    has_member place.layout letter.message.member local.node ≡ declines local letter
closed_declines local letter place found closed is room =
    let m = letter.message in
    all_of (is_request m.body) (ltb (m.position + 1) (2 ^ 32)) _ _ (has_member place.layout m.member local.node)
    (fetch_asks m.body is) room
    (ap (λ l. is_member l m.member local.node) (layout_kept local letter m.position place.layout (ap layout_in found)))
    (ap (λ o. is_declined_by (bank_or_opened (bank_in o) m.member local.delta) m.body) found
    ∙ closed_fetch place.bank m.member local.delta m.body closed is)
