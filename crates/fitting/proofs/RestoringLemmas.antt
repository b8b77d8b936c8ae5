-- The letters that lead to the banks of a fit object are fit, and so is the one with which a node asks itself to raise a
-- pointer.
use Rattle.std.proofs.Common.{◌≡◌, ℕ, suc, ◌<◌, Bool, true, false, cond, List, [], ◌∷◌, ◌++◌, length, map, Option, Some, None, IsSome, refl}
use Rattle.std.proofs.Common.{sym, subst, arith}
use Rattle.std.specs.FinMap as map
use Rattle.std.specs.List.{AllByRecursion, position}
use Rattle.std.specs.Prelude.{IfSome, is_some, ◌==◌}
use Rattle.std.proofs.lemmas.List.Quantifiers.{position-Some}
use Rattle.bank.specs.Bank.{piece_that_came}
use Rattle.bank.specs.Pointer.{status_of}
use Rattle.bank.specs.declared.request.Request.{Request}
use Rattle.bank.specs.declared.request.Request.TheVariants as request
use Rattle.bank.specs.declared.row.Arrival.{Arrival}
use Rattle.bank.specs.declared.row.Label.{Label}
use Rattle.bank.specs.declared.row.Label.TheVariants as label
use Rattle.bank.specs.declared.row.Row.{Row}
use Rattle.bank.specs.declared.status.Pointer.{Pointer}
use Rattle.bank.specs.declared.status.Pointer.TheVariants as pointer
use Rattle.bank.specs.declared.status.Status.TheVariants as status
use Rattle.layout.specs.Layout.{Layout}
use Rattle.local_object.specs.Local.{LocalObject, Place, heard_place, layout_here, layout_in}
use Rattle.local_object.specs.Outcomes.{next_in_request}
use Rattle.local_object.specs.Passed.{can_raise, member_of}
use Rattle.local_object.specs.declared.kept_bank.KeptBank.{KeptBank}
use Rattle.local_object.specs.declared.kept_bank.KeptBank.TheVariants as kept
use Rattle.local_object.proofs.PassedLemmas.{raisable}
use Rattle.mail.specs.Message.{request_names_next, status_names_next}
use Rattle.node_messages.specs.Message.{IsTag}
use Rattle.object_letters.specs.Letters.{bank_letters, letter_to, places_letters}
use Rattle.object_letters.specs.Raising.{raising_to}
use Rattle.object_letters.specs.Requests.{arrival_requests, label_requests, piece_or_empty, pointer_requests, requests_for, row_requests}
use Rattle.object_letters.specs.Requests.{rows_requests}
use Rattle.object_letters.proofs.PlaceLetterLemmas.{at_place}
use Rattle.open_calls.proofs.ListLemmas.{all_append}
use Rattle.piece.specs.declared.piece.Piece.{Piece}
use Rattle.tag.specs.Tag.{opening_tag, tag_eq}
use Rattle.tag.specs.declared.tag.Tag.{Tag}
use Rattle.fitting.specs.Letters.{IsFitLayout, IsFitLetter, IsFitPiece}
use Rattle.fitting.specs.Objects.{IsFitKept, IsFitObject, IsFitPlace, IsFitRow, says_next}
use Rattle.fitting.specs.Restoring.{RaisingLettersAreFit, RestoringLettersAreFit}
use Rattle.fitting.proofs.BankLemmas.{IsFitRequest, entries_fit}
use Rattle.fitting.proofs.KnownLemmas.{known_fit}
use Rattle.fitting.proofs.RequestLemmas.{knows_fit, pointed_fit, pointed_there, starts_fit}

-- Requests that lead to a bank

-- a request fits, and says that there is a next position only if the bank does
abbrev pub IsFitAt : (says : Bool) → Request → Type 0
IsFitAt says asked = IsFitRequest asked × (request_names_next asked ≡ true → says ≡ true)

pointer_requests_fit : (p : Pointer) → AllByRecursion (IsFitAt (status_names_next (status_of p))) (pointer_requests p)
pointer_requests_fit pointer.Unset = tt
pointer_requests_fit (pointer.Pending since) = (((tt, omega arith), λ names. refl), tt)
pointer_requests_fit (pointer.Final pending since) = (((tt, omega arith), λ names. refl), tt)

piece_fit : (o : Option Piece) → IfSome o IsFitPiece → IsFitPiece (piece_or_empty o)
piece_fit None fit = record { numbers = (omega arith, omega arith); bytes = omega arith }
piece_fit (Some piece) fit = fit

label_requests_fit : (says : Bool) (tag : Tag) (l : Label) → IsTag tag → AllByRecursion (IsFitAt says) (label_requests tag l)
label_requests_fit says tag (label.PreWritten since) is = tt
label_requests_fit says tag (label.Finalized since) is = (((is, omega arith), λ names. absurd (cc)), tt)

arrival_requests_fit : (says : Bool) (tag : Tag) (row : Row) → IsFitRow tag row → (o : Option Arrival) → row.arrival ≡ o →
    AllByRecursion (IsFitAt says) (arrival_requests tag o)
arrival_requests_fit says tag row is None e = tt
arrival_requests_fit says tag row is (Some arrival) e =
    let came : IfSome arrival.piece IsFitPiece = subst (λ (o : Option Arrival). IfSome (piece_that_came o) IsFitPiece) e is.piece in
    let piece = piece_fit arrival.piece came in
    ((((is.numbers, piece.numbers), piece.bytes), λ names. absurd (cc)), tt)

row_requests_fit : (says : Bool) (tag : Tag) (row : Row) → IsFitRow tag row → AllByRecursion (IsFitAt says) (row_requests tag row)
row_requests_fit says tag row is = go (tag_eq tag opening_tag)
  where
    go : (b : Bool) →
        AllByRecursion (IsFitAt says) (cond b [] (label_requests tag row.label ++ arrival_requests tag row.arrival))
    go true = tt
    go false =
        all_append (IsFitAt says) (label_requests tag row.label) (arrival_requests tag row.arrival)
        (label_requests_fit says tag row.label is.numbers) (arrival_requests_fit says tag row is row.arrival refl)

rows_requests_fit : (says : Bool) (es : List (Tag × Row)) → AllByRecursion (λ (e : Tag × Row). IsFitRow e.0 e.1) es →
    AllByRecursion (IsFitAt says) (rows_requests es)
rows_requests_fit says [] fit = tt
rows_requests_fit says (e ∷ es) fit =
    all_append (IsFitAt says) (row_requests e.0 e.1) (rows_requests es) (row_requests_fit says e.0 e.1 fit.0)
    (rows_requests_fit says es fit.1)

requests_fit : (bank : KeptBank) → IsFitKept bank → AllByRecursion (IsFitAt (says_next (Some bank))) (requests_for bank)
requests_fit (kept.Open bank) fit =
    let says = status_names_next (status_of bank.pointer) in
    all_append (IsFitAt says) (pointer_requests bank.pointer) (rows_requests (map.entries bank.rows))
    (pointer_requests_fit bank.pointer) (rows_requests_fit says (map.entries bank.rows) (entries_fit bank fit))
requests_fit (kept.Closed closed) fit = (((tt, omega arith), λ names. refl), (((fit, omega arith), λ names. refl), tt))

-- Letters with these requests

asked_next : (asked : Request) (o : Option Layout) → (request_names_next asked ≡ true → IsSome o) →
    is_some (next_in_request asked o) ≡ request_names_next asked
asked_next request.Next o known = refl
asked_next (request.Spread said) o known = pointed_there said o known
asked_next request.Query o known = refl
asked_next (request.PreWrite tag piece) o known = refl
asked_next (request.Finalize tag) o known = refl
asked_next (request.Fetch tag) o known = refl

asked_lawful : (asked : Request) (o : Option Layout) → IfSome o IsFitLayout → IfSome (next_in_request asked o) IsFitLayout
asked_lawful request.Next o fit = tt
asked_lawful (request.Spread said) o fit = pointed_fit said o fit
asked_lawful request.Query o fit = tt
asked_lawful (request.PreWrite tag piece) o fit = tt
asked_lawful (request.Finalize tag) o fit = tt
asked_lawful (request.Fetch tag) o fit = tt

-- the place at which a member stands is one of the list
within_list : (test : ℕ → Bool) (xs : List ℕ) → IfSome (position test xs) (λ m. m < length xs)
within_list test xs = go (position test xs) refl
  where
    go : (o : Option ℕ) → position test xs ≡ o → IfSome o (λ m. m < length xs)
    go None e = tt
    go (Some m) e = (position-Some test xs m 0 e).0

module _ (local : LocalObject) (fit : IsFitObject local) where
  letter_fit : (place : Place) → IsFitPlace local.places place → (member : ℕ) → member < length place.layout.members → (asked : Request) →
      IsFitRequest asked → (request_names_next asked ≡ true → IsSome (layout_here local (suc place.position))) →
      IsFitLetter (letter_to local place member asked)
  letter_fit place is member within asked fits known = record {
    layout = is.layout;
    call = omega arith;
    phase = omega arith;
    position = is.position;
    member = within;
    body = fits.0;
    named = asked_next asked (layout_here local (suc place.position)) known;
    next = asked_lawful asked (layout_here local (suc place.position)) (known_fit local fit (suc place.position));
    start = starts_fit local (knows_fit local fit);
    short = fits.1;
    role = refl;
    told = tt;
  }

  some_fit : (place : Place) → IsFitPlace local.places place → (member : ℕ) → member < length place.layout.members →
      (requests : List Request) → AllByRecursion (IsFitAt (says_next place.bank)) requests →
      AllByRecursion IsFitLetter (map (letter_to local place member) requests)
  some_fit place is member within [] fits = tt
  some_fit place is member within (asked ∷ requests) fits = (
    letter_fit place is member within asked fits.0.0 (λ names. is.next (fits.0.1 names)),
    some_fit place is member within requests fits.1,
  )

  bank_fit : (place : Place) → IsFitPlace local.places place → (m : Option ℕ) → IfSome m (λ m. m < length place.layout.members) →
      (o : Option KeptBank) → place.bank ≡ o → AllByRecursion IsFitLetter (bank_letters local place m o)
  bank_fit place is m within None e = tt
  bank_fit place is None within (Some bank) e = tt
  bank_fit place is (Some member) within (Some bank) e =
      some_fit place is member within (requests_for bank)
      (subst (λ (o : Option KeptBank). AllByRecursion (IsFitAt (says_next o)) (requests_for bank)) (sym e)
      (requests_fit bank (subst (λ (o : Option KeptBank). IfSome o IsFitKept) e is.bank)))

  places_fit : (node : ℕ) (places : List Place) → AllByRecursion (IsFitPlace local.places) places →
      AllByRecursion IsFitLetter (places_letters node local places)
  places_fit node [] is = tt
  places_fit node (place ∷ places) is =
      let m = position (λ server. server == node) place.layout.members in
      all_append IsFitLetter (bank_letters local place m place.bank) (places_letters node local places)
      (bank_fit place is.0 m (within_list (λ server. server == node) place.layout.members) place.bank refl)
      (places_fit node places is.1)

  raising_to_fit : (q : ℕ) → IsSome (layout_here local (suc q)) → (o : Option Place) → heard_place local.places q ≡ o →
      IfSome (raising_to local o (member_of (layout_in o) local.node)) IsFitLetter
  raising_to_fit q next None e = tt
  raising_to_fit q next (Some place) e =
      go (position (λ server. server == local.node) place.layout.members)
      (within_list (λ server. server == local.node) place.layout.members)
    where
      at : IsFitPlace local.places place × (place.position ≡ q)
      at = at_place (IsFitPlace local.places) local.places q place fit.places e

      go : (m : Option ℕ) → IfSome m (λ m. m < length place.layout.members) → IfSome (raising_to local (Some place) m) IsFitLetter
      go None within = tt
      go (Some member) within =
          letter_fit place at.0 member within (request.Spread status.Final) (tt, omega arith)
          (λ names. subst (λ n. IsSome (layout_here local (suc n))) (sym at.1) next)

pub restoring_fit : RestoringLettersAreFit
restoring_fit node local fit = places_fit local fit node local.places fit.places

pub raising_fit : RaisingLettersAreFit
raising_fit local q fit = go (can_raise local q) refl
  where
    go : (b : Bool) → can_raise local q ≡ b →
        IfSome (cond b (raising_to local (heard_place local.places q) (member_of (layout_here local q) local.node)) None) IsFitLetter
    go true e = raising_to_fit local fit q (raisable local q e).0.next (heard_place local.places q) refl
    go false e = tt
