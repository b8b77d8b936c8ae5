-- Where two splits of a list of turns lie, and the events of turns one after another.
use Rattle.std.proofs.Common.{◌≡◌, ◌⊎◌, inl, inr, List, [], ◌∷◌, ◌++◌, append_assoc, refl, sym, ap, ◌∙◌}
use Rattle.told_queries.specs.Courses.{Turn, events_of, turn_events}

pub events_append : (first second : List Turn) → events_of (first ++ second) ≡ events_of first ++ events_of second
events_append [] second = refl
events_append (turn ∷ first) second =
    ap (λ events. turn_events turn ++ events) (events_append first second)
    ∙ sym (append_assoc (turn_events turn) (events_of first) (events_of second))

-- the second turn lies before the first one, is the same, or lies behind it
pub record IsBefore (before after_that : List Turn) (that : Turn) (before_that : List Turn) : Type 0 where
  pub middle : List Turn
  pub split : before ≡ before_that ++ that ∷ middle

pub record IsSame (before : List Turn) (turn : Turn) (before_that : List Turn) (that : Turn) : Type 0 where
  pub same_before : before_that ≡ before
  pub same_turn : that ≡ turn

pub record IsBehind (before : List Turn) (turn : Turn) (after before_that : List Turn) (that : Turn) (after_that : List Turn)
    : Type 0 where
  pub middle : List Turn
  pub before_is : before_that ≡ before ++ turn ∷ middle
  pub after_is : after ≡ middle ++ that ∷ after_that

abbrev pub Lies : (before : List Turn) (turn : Turn) (after before_that : List Turn) (that : Turn) (after_that : List Turn) → Type 0
Lies before turn after before_that that after_that = IsBefore before after_that that before_that
    ⊎ (IsSame before turn before_that that ⊎ IsBehind before turn after before_that that after_that)

pub lies : (before : List Turn) (turn : Turn) (after before_that : List Turn) (that : Turn) (after_that : List Turn) →
    before ++ turn ∷ after ≡ before_that ++ that ∷ after_that → Lies before turn after before_that that after_that
lies [] turn after [] that after_that e =
    let same : that ≡ turn = cc in inr (inl (record { same_before = refl; same_turn = same }))
lies [] turn after (first ∷ before_that) that after_that e =
    let same : first ≡ turn = cc in
    let later : after ≡ before_that ++ that ∷ after_that = cc in
    inr (inr (record { middle = before_that; before_is = ap (λ t. t ∷ before_that) same; after_is = later }))
lies (first ∷ before) turn after [] that after_that e =
    let same : first ≡ that = cc in inl (record { middle = before; split = ap (λ t. t ∷ before) same })
lies (first ∷ before) turn after (other ∷ before_that) that after_that e =
    let same : other ≡ first = cc in
    let later : before ++ turn ∷ after ≡ before_that ++ that ∷ after_that = cc in
    go same (lies before turn after before_that that after_that later)
  where
    go : other ≡ first → Lies before turn after before_that that after_that →
        Lies (first ∷ before) turn after (other ∷ before_that) that after_that
    go same (inl is) = inl (record {
      middle = is.middle;
      split = ap (λ t. t ∷ before) (sym same) ∙ ap (λ l. other ∷ l) is.split;
    })
    go same (inr (inl is)) = inr (inl (record {
      same_before = ap (λ t. t ∷ before_that) same ∙ ap (λ l. first ∷ l) is.same_before;
      same_turn = is.same_turn;
    }))
    go same (inr (inr is)) = inr (inr (record {
      middle = is.middle;
      before_is = ap (λ t. t ∷ before_that) same ∙ ap (λ l. first ∷ l) is.before_is;
      after_is = is.after_is;
    }))
