-- A node raises the pointer of its bank of a position before its start.
use Rattle.std.proofs.Common.{◌≡◌, ℕ, suc, ◌==◌, ◌&&◌, true, false, cond, ltb, eqb-true, List, [], ◌∷◌, Option, None, Some}
use Rattle.std.proofs.Common.{is_some, IsSome, get_or, refl, ap, sym, subst, ◌∙◌}
use Rattle.std.proofs.lemmas.Bool.{ltb-true}
use Rattle.std.proofs.lemmas.List.Quantifiers.{position-Some}
use Rattle.std.proofs.lemmas.Option.{slice_get-get_or}
use Rattle.std.specs.List.{slice_get}
use Rattle.layout.specs.Layout.{Layout}
use Rattle.bank.specs.declared.request.Request.TheVariants as request
use Rattle.bank.specs.declared.status.Status.TheVariants as status
use Rattle.local_object.specs.declared.kept_bank.KeptBank.{KeptBank}
use Rattle.local_object.specs.ChangedBanks.{kept_bank}
use Rattle.local_object.specs.Doing.{IsOutcome}
use Rattle.local_object.specs.Events.{LocalEvent}
use Rattle.local_object.specs.KeptBanks.{after_raising}
use Rattle.local_object.specs.Local.{LocalObject, Place, bank_in, heard_place, layout_here, with_bank_here}
use Rattle.local_object.specs.May.{IsMemberBefore}
use Rattle.local_object.specs.Passed.{can_raise, is_below_final, member_of, raise_events}
use Rattle.local_object.proofs.NewObjectLemmas.{both}

-- a bank whose pointer is below final is there
pub bank_there : (o : Option KeptBank) → is_below_final o ≡ true → IsSome o
bank_there None e = absurd cc
bank_there (Some bank) e = refl

-- a bank that is there is kept as the raised one after it served the request
pub kept_raised : (o : Option KeptBank) (member : ℕ) (delta : Option ℕ) → is_below_final o ≡ true
    → kept_bank o member delta (request.Spread status.Final) ≡ after_raising o
kept_raised None member delta e = absurd cc
kept_raised (Some bank) member delta e = refl

-- a number of a node as a member of a layout, if it has one
pub record IsNamedMember (l : Option Layout) (node member : ℕ) : Type 0 where
  pub layout : Layout
  pub is : l ≡ Some layout
  pub server : slice_get layout.members member ≡ Some node

pub member_named : (l : Option Layout) (node member : ℕ) → member_of l node ≡ Some member → IsNamedMember l node member
member_named None node member e = absurd cc
member_named (Some layout) node member e =
    let found = position-Some (λ server. server == node) layout.members member 0 e in record {
      layout = layout;
      is = refl;
      server = slice_get-get_or layout.members member 0 found.0
          ∙ ap (λ n. Some n) (eqb-true (get_or layout.members member 0) node found.1);
    }

some_member : (o : Option ℕ) → is_some o ≡ true → (member : ℕ) × (o ≡ Some member)
some_member None e = absurd cc
some_member (Some member) e = (member, refl)

-- what is so if a node can raise a pointer
pub raisable : (local : LocalObject) (p : ℕ) → can_raise local p ≡ true
    → IsMemberBefore local p × (is_below_final (bank_in (heard_place local.places p)) ≡ true)
raisable local p e =
    let below = is_below_final (bank_in (heard_place local.places p)) in
    let named = is_some (member_of (layout_here local p) local.node) in
    let next = is_some (layout_here local (suc p)) in
    let one = both (ltb p local.start) (below && (named && next)) e in
    let two = both below (named && next) one.1 in
    let three = both named next two.1 in
    let member = some_member (member_of (layout_here local p) local.node) three.0 in
    let is = member_named (layout_here local p) local.node member.0 member.1 in (
      record {
        before = ltb-true p local.start one.0;
        bank = bank_there (bank_in (heard_place local.places p)) two.0;
        layout = is.layout;
        known = is.is;
        member = member.0;
        server = is.server;
        next = three.1;
      },
      two.0,
    )

-- a pointer that is raised by a request
pub raise_done : (local : LocalObject) (p member : ℕ) (new : List Place) → can_raise local p ≡ true
    → new ≡ with_bank_here local.places p
    (kept_bank (bank_in (heard_place local.places p)) member local.delta (request.Spread status.Final))
    → IsOutcome local (raise_events local p) (record local { places = new }) []
raise_done local p member new can is =
    let may = raisable local p can in
    subst (λ b. IsOutcome local (cond b (LocalEvent.Raise p ∷ []) []) (record local { places = new }) []) (sym can)
    (record {
      may = (may.0, tt);
      local = ap (λ (ps : List Place). record local { places = ps })
          (is ∙ ap (with_bank_here local.places p) (kept_raised (bank_in (heard_place local.places p)) member local.delta may.1));
      letters = refl;
    })

-- a pointer that cannot be raised
pub raise_none : (local : LocalObject) (p : ℕ) → can_raise local p ≡ false → IsOutcome local (raise_events local p) local []
raise_none local p cannot =
    subst (λ b. IsOutcome local (cond b (LocalEvent.Raise p ∷ []) []) local []) (sym cannot)
    (record { may = tt; local = refl; letters = refl })
