-- What a fit keeper writes as it closes banks of positions before a start can go to its log, and the keeper stays fit.
use Rattle.std.proofs.Common.{◌≡◌, ◌<◌, ◌^◌, ℕ, Bool, true, false, cond, List, [], ◌∷◌, length, Option, Some, None, is_some, refl, sym}
use Rattle.std.proofs.Common.{subst}
use Rattle.std.specs.List.{AllByRecursion}
use Rattle.std.specs.Prelude.{IfSome}
use Rattle.cluster_file.specs.declared.file.TheConstants.{DIGEST_LENGTH}
use Rattle.fitting.specs.Letters.{IsFitLetter}
use Rattle.fitting.specs.Objects.{IsFitObject, IsFitPlace}
use Rattle.fitting.proofs.EventLemmas.{events_fit}
use Rattle.fitting.proofs.OutcomeLemmas.{close_room, closing_fit, raise_room}
use Rattle.fitting.proofs.RestoringLemmas.{raising_fit}
use Rattle.letter.specs.declared.letter.Letter.{Letter}
use Rattle.local_object.specs.Doing.{can_close, close_events}
use Rattle.local_object.specs.KeptBanks.{closing}
use Rattle.local_object.specs.Local.{LocalObject, Place, bank_in, heard_place}
use Rattle.local_object.specs.Passed.{passed_positions, raise_events}
use Rattle.node_effects.specs.Work.{no_growth}
use Rattle.node_effects.specs.declared.work.Work.{Work}
use Rattle.node_keeper.specs.Acts.{logged_growth}
use Rattle.node_keeper.specs.Closing.{CanClosePassed, ClosesPassed, PassesBank, PassesBanks, after_pass, after_raise, all_passed_records}
use Rattle.node_keeper.specs.Closing.{closed_records, passed_records, raised_records, serving_records}
use Rattle.node_keeper.specs.Fitting.{IsLoggable}
use Rattle.node_keeper.specs.Objects.{objects_of}
use Rattle.node_keeper.specs.declared.keeper.Keeper.{Keeper}
use Rattle.object_letters.specs.Raising.{raising_letter}
use Rattle.object_letters.proofs.PlaceLetterLemmas.{at_place}
use Rattle.open_calls.proofs.ListLemmas.{all_append}
use Rattle.recoveries.specs.Records.{LogRecord}
use Rattle.writable.specs.Keepers.{IsFitKeeper, IsLeftFit, IsShortName}
use Rattle.writable.proofs.KeeperLemmas.{outcome_fit, rest_fit, same_own}
use Rattle.writable.proofs.SendableLemmas.{closes_loggable, serves_loggable}

-- Objects

after_raise_fit : (local : LocalObject) (position : ℕ) → IsFitObject local → IsFitObject (after_raise local position)
after_raise_fit local position fit = (events_fit local (raise_events local position) fit (raise_room local position)).0

after_pass_fit : (local : LocalObject) (position : ℕ) → IsFitObject local → IsFitObject (after_pass local position)
after_pass_fit local position fit =
    let raised = after_raise local position in
    (events_fit raised (close_events raised position) (after_raise_fit local position fit) (close_room raised position)).0

-- a bank that can be closed is at a position that fits 32 bits
closed_small : (local : LocalObject) (position : ℕ) → IsFitObject local → can_close local position ≡ true → position < 2 ^ 32
closed_small local position fit can = go (heard_place local.places position) refl can
  where
    go : (o : Option Place) → heard_place local.places position ≡ o → is_some (closing (bank_in o)) ≡ true → position < 2 ^ 32
    go None e can = absurd (cc)
    go (Some place) e can =
        let at = at_place (IsFitPlace local.places) local.places position place fit.places e in
        subst (λ n. n < 2 ^ 32) at.1 at.0.position

-- Records

module _ (digest name : List ℕ) (whole : length digest ≡ DIGEST_LENGTH) (short : IsShortName name) where
  serving_loggable : (o : Option Letter) → IfSome o IsFitLetter → AllByRecursion (IsLoggable digest) (serving_records name o)
  serving_loggable None fit = tt
  serving_loggable (Some letter) fit =
      (serves_loggable digest whole (record { name = name; letter = letter }) (record { name = short; letter = fit }), tt)

  raised_loggable : (local : LocalObject) (position : ℕ) → IsFitObject local →
      AllByRecursion (IsLoggable digest) (raised_records name local position)
  raised_loggable local position fit = serving_loggable (raising_letter local position) (raising_fit local position fit)

  closed_loggable : (local : LocalObject) (position : ℕ) → IsFitObject local →
      AllByRecursion (IsLoggable digest) (closed_records name local position)
  closed_loggable local position fit = go (can_close local position) refl
    where
      go : (b : Bool) → can_close local position ≡ b →
          AllByRecursion (IsLoggable digest) (cond b (LogRecord.Closes name position ∷ []) [])
      go true can = (closes_loggable digest whole name position short (closed_small local position fit can), tt)
      go false can = tt

  passed_loggable : (local : LocalObject) (position : ℕ) → IsFitObject local →
      AllByRecursion (IsLoggable digest) (passed_records name local position)
  passed_loggable local position fit =
      all_append (IsLoggable digest) (raised_records name local position) (closed_records name (after_raise local position) position)
      (raised_loggable local position fit) (closed_loggable (after_raise local position) position (after_raise_fit local position fit))

  all_passed_loggable : (local : LocalObject) (positions : List ℕ) → IsFitObject local →
      AllByRecursion (IsLoggable digest) (all_passed_records name local positions)
  all_passed_loggable local [] fit = tt
  all_passed_loggable local (position ∷ positions) fit =
      all_append (IsLoggable digest) (passed_records name local position) (all_passed_records name (after_pass local position) positions)
      (passed_loggable local position fit) (all_passed_loggable (after_pass local position) positions (after_pass_fit local position fit))

  pub can_close_passed : (local : LocalObject) → IsFitObject local → CanClosePassed digest name local
  can_close_passed local fit = all_passed_loggable local (passed_positions local) fit

-- The keeper stays fit

passes_fit : (name : List ℕ) (position : ℕ) (old new : Keeper) (before after : Work) → IsFitKeeper old →
    PassesBank name position old before new after → IsLeftFit before new after
passes_fit name position old new before after fit is =
    let raises = is.raises in
    let closes = is.closes in
    let local = objects_of old.objects name in
    let raised = objects_of is.middle.objects name in
    let middle : IsFitKeeper is.middle =
    rest_fit old is.middle fit (record { file = raises.file; digest = raises.digest; ids = raises.ids })
    (outcome_fit old.objects is.middle.objects name (raise_events local position) [] fit.objects
    (closing_fit local position (fit.objects name)).0 raises.done).0 in record {
      keeper = rest_fit is.middle new middle (record { file = closes.file; digest = closes.digest; ids = closes.ids })
          (outcome_fit is.middle.objects new.objects name (close_events raised position) [] middle.objects
          (closing_fit raised position (middle.objects name)).1 closes.done).0;
      own = λ own. same_own is.between after (logged_growth is.middle.digest (closed_records name raised position)) closes.grown refl
          (same_own before is.between (logged_growth old.digest (raised_records name local position)) raises.grown refl own);
    }

all_pass_fit : (name : List ℕ) (positions : List ℕ) (old new : Keeper) (before after : Work) → IsFitKeeper old →
    PassesBanks name positions old before new after → IsLeftFit before new after
all_pass_fit name [] old new before after fit is =
    record { keeper = subst IsFitKeeper (sym is.0) fit; own = same_own before after no_growth is.1 refl }
all_pass_fit name (position ∷ positions) old new before after fit is =
    let first = passes_fit name position old is.0 before is.1 fit is.2 in
    let rest = all_pass_fit name positions is.0 new is.1 after first.keeper is.3 in
    record { keeper = rest.keeper; own = λ own. rest.own (first.own own) }

pub closes_fit : (name : List ℕ) (old new : Keeper) (before after : Work) → IsFitKeeper old → ClosesPassed name old before new after →
    IsLeftFit before new after
closes_fit name old new before after fit is =
    all_pass_fit name (passed_positions (objects_of old.objects name)) old new before after fit is
