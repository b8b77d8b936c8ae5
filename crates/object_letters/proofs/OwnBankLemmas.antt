-- The banks of a node stay its own as they serve requests, as their pointers are raised, and as they are closed.
use Rattle.std.proofs.Common.{◌≡◌, ℕ, Bool, true, false, cond, eqb, List, [], ◌∷◌}
use Rattle.std.proofs.Common.{Option, Some, None, IsSome, slice_get, refl, sym, subst, ap, ◌∙◌}
use Rattle.std.specs.List.{AllByRecursion}
use Rattle.std.proofs.lemmas.Option.{same_Some}
use Rattle.layout.specs.Layout.{Layout, IsLawful}
use Rattle.bank.specs.Bank.{opened_bank}
use Rattle.closed_bank.specs.ClosedBank.{ClosedBank, closed_of}
use Rattle.local_object.specs.declared.kept_bank.KeptBank.{KeptBank}
use Rattle.local_object.specs.declared.kept_bank.KeptBank.TheVariants as kept
use Rattle.bank.specs.declared.request.Request.{Request}
use Rattle.bank.specs.declared.request.Request.TheVariants as request
use Rattle.bank.specs.declared.status.Status.TheVariants as status
use Rattle.object_letters.specs.Reached.{IsReachedBank}
use Rattle.object_letters.proofs.LeadingLemmas.{delta_stays, fresh_reached, served_reached}
use Rattle.mail.specs.declared.message.Body.TheVariants as body
use Rattle.letter.specs.declared.letter.Letter.{Letter}
use Rattle.local_object.specs.ChangedBanks.{bank_after, changes_bank, kept_after, kept_bank}
use Rattle.local_object.specs.KeptBanks.{after_closing, after_raising, closed_or, closing}
use Rattle.local_object.specs.Local.{LocalObject, Place, bank_in, bank_or_opened}
use Rattle.local_object.specs.Local.{layout_here, layout_in, heard_place, with_bank_here}
use Rattle.local_object.specs.Events.{closed_here, raised_here, served_here}
use Rattle.local_object.proofs.OneMemberLemmas.{one_member}
use Rattle.object_letters.specs.Rebuildable.{HaveApartPositions, AreElsewhere}
use Rattle.object_letters.specs.Rebuildable.{IsOwnIfOpen, IsOwnKept, IsOwnPlace, IsRebuildable}
use Rattle.object_letters.proofs.PlaceLetterLemmas.{at_place}

-- A bank changes

elsewhere_with : (q p : ℕ) (bank : Option KeptBank) (places : List Place) → AreElsewhere q places
    → AreElsewhere q (with_bank_here places p bank)
elsewhere_with q p bank [] elsewhere = tt
elsewhere_with q p bank (place ∷ places) elsewhere = go (eqb place.position p) (elsewhere_with q p bank places elsewhere.1)
  where
    go : (b : Bool) → AreElsewhere q (with_bank_here places p bank)
        → AreElsewhere q (cond b (record place { bank = bank } ∷ places) (place ∷ with_bank_here places p bank))
    go true rest = elsewhere
    go false rest = (elsewhere.0, rest)

apart_with : (p : ℕ) (bank : Option KeptBank) (places : List Place) → HaveApartPositions places
    → HaveApartPositions (with_bank_here places p bank)
apart_with p bank [] apart = tt
apart_with p bank (place ∷ places) apart = go (eqb place.position p) (apart_with p bank places apart.1)
  where
    go : (b : Bool) → HaveApartPositions (with_bank_here places p bank)
        → HaveApartPositions (cond b (record place { bank = bank } ∷ places) (place ∷ with_bank_here places p bank))
    go true rest = apart
    go false rest = (elsewhere_with place.position p bank places apart.0, rest)

all_with : (P : Place → Type 0) (p : ℕ) (bank : Option KeptBank) (places : List Place) (found : Place) → heard_place places p ≡ Some found
    → P (record found { bank = bank }) → AllByRecursion P places → AllByRecursion P (with_bank_here places p bank)
all_with P p bank [] found e here all = tt
all_with P p bank (place ∷ places) found e here all =
    go (eqb place.position p) e (λ e. all_with P p bank places found e here all.1)
  where
    go : (b : Bool) → cond b (Some place) (heard_place places p) ≡ Some found
        → (heard_place places p ≡ Some found → AllByRecursion P (with_bank_here places p bank))
        → AllByRecursion P (cond b (record place { bank = bank } ∷ places) (place ∷ with_bank_here places p bank))
    go true e rest = (subst (λ (o : Place). P (record o { bank = bank })) (sym (same_Some place found e)) here, all.1)
    go false e rest = (all.0, rest e)

-- the bank of a place served one request more
served_own : (node : ℕ) (delta : Option ℕ) (place : Place) (member : ℕ) (asked : Request) → IsLawful place.layout
    → slice_get place.layout.members member ≡ Some node
    → (o : Option KeptBank) → IsOwnIfOpen node delta place o
    → IsOwnKept node delta place (kept_after (bank_or_opened o member delta) asked)
served_own node delta place member asked lawful named None own = record {
  member = member;
  named = named;
  limited = delta_stays (opened_bank member delta 0) asked;
  reached = served_reached member (opened_bank member delta 0) asked (fresh_reached member delta);
}
served_own node delta place member asked lawful named (Some (kept.Open bank)) own = record {
  member = member;
  named = named;
  limited = delta_stays bank asked ∙ own.limited;
  reached = served_reached member bank asked (subst (λ (m : ℕ). IsReachedBank m bank)
      (one_member place.layout own.member member node lawful own.named named) own.reached);
}
served_own node delta place member asked lawful named (Some (kept.Closed closed)) own = own

-- whether a place's bank is its own depends on the place's layout alone
own_as : (node : ℕ) (delta : Option ℕ) (place : Place) (other o : Option KeptBank) → IsOwnIfOpen node delta place o
    → IsOwnIfOpen node delta (record place { bank = other }) o
own_as node delta place other None own = tt
own_as node delta place other (Some (kept.Open bank)) own =
    record { member = own.member; named = own.named; limited = own.limited; reached = own.reached }
own_as node delta place other (Some (kept.Closed closed)) own = own

-- the bank that a place keeps after it served a request, if it keeps one
kept_own : (node : ℕ) (delta : Option ℕ) (place : Place) (member : ℕ) (asked : Request) → IsLawful place.layout
    → slice_get place.layout.members member ≡ Some node → (o : Option KeptBank) → IsOwnIfOpen node delta place o
    → IsOwnIfOpen node delta place (kept_bank o member delta asked)
kept_own node delta place member asked lawful named (Some bank) own =
    served_own node delta place member asked lawful named (Some bank) own
kept_own node delta place member asked lawful named None own = go (changes_bank (opened_bank member delta 0) asked)
  where
    go : (b : Bool) → IsOwnIfOpen node delta place (cond b (Some (kept.Open (bank_after (opened_bank member delta 0) asked))) None)
    go true = served_own node delta place member asked lawful named None tt
    go false = tt

pub serve_rebuildable : (heard : LocalObject) (letter : Letter) (asked : Request) → IsRebuildable heard
    → (layout : Layout) → layout_here heard letter.message.position ≡ Some layout
    → slice_get layout.members letter.message.member ≡ Some heard.node
    → IsRebuildable (served_here heard letter (body.Request asked)).local
serve_rebuildable heard letter asked is layout known named = go (heard_place heard.places letter.message.position) refl
  where
    go : (o : Option Place) → heard_place heard.places letter.message.position ≡ o
        → IsRebuildable (served_here heard letter (body.Request asked)).local
    go None e = absurd (let wrong : None ≡ Some layout = sym (ap layout_in e) ∙ known in cc)
    go (Some place) e =
        let at = at_place (IsOwnPlace heard.node heard.delta) heard.places letter.message.position place is.places e in
        let same : layout ≡ place.layout = same_Some layout place.layout (sym known ∙ ap layout_in e) in
        let member = letter.message.member in
        let new = kept_bank (bank_in (heard_place heard.places letter.message.position)) member heard.delta asked in
        let own : IsOwnIfOpen heard.node heard.delta place new =
        subst (λ (o : Option Place). IsOwnIfOpen heard.node heard.delta place (kept_bank (bank_in o) member heard.delta asked))
        (sym e) (kept_own heard.node heard.delta place member asked at.0.lawful
        (sym (ap (λ (l : Layout). slice_get l.members member) same) ∙ named)
        place.bank at.0.own) in record {
          apart = apart_with letter.message.position new heard.places is.apart;
          places = all_with (IsOwnPlace heard.node heard.delta) letter.message.position new heard.places place e
              (record { lawful = at.0.lawful; own = own_as heard.node heard.delta place new new own }) is.places;
        }

-- A bank is closed, or its pointer is raised

-- what is left of the node's bank is the node's
closing_own : (node : ℕ) (delta : Option ℕ) (place : Place) (o : Option KeptBank) → IsOwnIfOpen node delta place o
    → IsOwnIfOpen node delta place (after_closing o)
closing_own node delta place None own = tt
closing_own node delta place (Some (kept.Closed closed)) own = own
closing_own node delta place (Some (kept.Open bank)) own = go (closed_of bank)
  where
    go : (left : Option ClosedBank) → IsOwnIfOpen node delta place (closed_or left (Some (kept.Open bank)))
    go None = own
    go (Some closed) = (own.member, own.named)

-- the node's bank has served one request more once its pointer is raised
raising_own : (node : ℕ) (delta : Option ℕ) (place : Place) (o : Option KeptBank) → IsOwnIfOpen node delta place o
    → IsOwnIfOpen node delta place (after_raising o)
raising_own node delta place None own = tt
raising_own node delta place (Some (kept.Closed closed)) own = own
raising_own node delta place (Some (kept.Open bank)) own = record {
  member = own.member;
  named = own.named;
  limited = delta_stays bank (request.Spread status.Final) ∙ own.limited;
  reached = served_reached own.member bank (request.Spread status.Final) own.reached;
}

-- a change of a bank that leaves the node's banks the node's
changed_rebuildable : (local : LocalObject) (p : ℕ) (change : Option KeptBank → Option KeptBank)
    → ((place : Place) (o : Option KeptBank) → IsOwnIfOpen local.node local.delta place o
    → IsOwnIfOpen local.node local.delta place (change o))
    → IsRebuildable local → IsSome (heard_place local.places p)
    → IsRebuildable (record local { places = with_bank_here local.places p (change (bank_in (heard_place local.places p))) })
changed_rebuildable local p change keeps is known = go (heard_place local.places p) refl known
  where
    new : Option KeptBank
    new = change (bank_in (heard_place local.places p))

    go : (o : Option Place) → heard_place local.places p ≡ o → IsSome o
        → IsRebuildable (record local { places = with_bank_here local.places p new })
    go None e some = absurd (cc)
    go (Some place) e some =
        let at = at_place (IsOwnPlace local.node local.delta) local.places p place is.places e in
        let own : IsOwnIfOpen local.node local.delta place new =
        subst (λ (o : Option Place). IsOwnIfOpen local.node local.delta place (change (bank_in o))) (sym e)
        (keeps place place.bank at.0.own) in record {
          apart = apart_with p new local.places is.apart;
          places = all_with (IsOwnPlace local.node local.delta) p new local.places place e
              (record { lawful = at.0.lawful; own = own_as local.node local.delta place new new own }) is.places;
        }

pub close_rebuildable : (local : LocalObject) (p : ℕ) → IsRebuildable local → IsSome (closing (bank_in (heard_place local.places p)))
    → IsRebuildable (closed_here local p)
close_rebuildable local p is can =
    changed_rebuildable local p after_closing (closing_own local.node local.delta) is (go (heard_place local.places p) can)
  where
    go : (o : Option Place) → IsSome (closing (bank_in o)) → IsSome o
    go None some = absurd (cc)
    go (Some place) some = refl

pub raise_rebuildable : (local : LocalObject) (p : ℕ) → IsRebuildable local → IsSome (bank_in (heard_place local.places p))
    → IsRebuildable (raised_here local p)
raise_rebuildable local p is kept =
    changed_rebuildable local p after_raising (raising_own local.node local.delta) is (go (heard_place local.places p) kept)
  where
    go : (o : Option Place) → IsSome (bank_in o) → IsSome o
    go None some = absurd (cc)
    go (Some place) some = refl
