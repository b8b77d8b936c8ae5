-- Where phases lead a reading.
use Rattle.std.proofs.Common.{◌≡◌, ℕ, suc, Bool, eqb, List, [], ◌∷◌, Option, Some, None, refl, ap, sym, ◌∙◌, subst₂}
use Rattle.std.proofs.lemmas.Bool.{cond_both}
use Rattle.std.specs.Prelude.{IsSome, ◌≢◌}
use Rattle.tag.specs.declared.tag.Tag.{Tag}
use Rattle.bank.specs.declared.kind.Kind.{Kind}
use Rattle.bank.specs.declared.kind.Kind.TheVariants as kind
use Rattle.bank.specs.declared.status.Status.{Status}
use Rattle.bank.specs.declared.status.Status.TheVariants.{Unset, Pending, Final}
use Rattle.mail.specs.Phase.{Phase, lacks_pieces}
use Rattle.mail.specs.declared.phase.Taken.{Taken}
use Rattle.record.specs.declared.call.CallKind.{CallKind}
use Rattle.record.specs.declared.stage.Stage.{Stage}
use Rattle.record.specs.PhaseOrder.{begun_at, greatest_status, after_next, after_again, after, passed, stage_after}
use Rattle.record.specs.declared.stage.Stage.TheVariants as stage
use Rattle.record.specs.Grammar.{Asks, IsReading, finalized_after}
use Rattle.call.specs.declared.reading.Reading.{Reading}
use Rattle.call.specs.declared.reading.Reading.TheVariants.{Next, Spread, Ended}
use Rattle.call.specs.Reading.{next_phase_of, found_at, first_of, again_of}
use Rattle.call.specs.Laws.{led_on, LeadsReading, AreComplete, ReadingsLeadToTheEnd, ReadingsAreStages}

passed-ended : (kind : CallKind) (number : ℕ) (stage : Stage) (end : Option ℕ) (replies : List Taken) (lacks : Bool)
    → IsSome end → passed kind number stage end replies lacks ≡ after kind number stage replies lacks
passed-ended kind number stage None replies lacks some = absurd (cc)
passed-ended kind number stage (Some end) replies lacks some = refl

-- what a status leads to

first_of-found_at : (status : Status) (position finalized : ℕ)
    → after_next status position finalized ≡ first_of (found_at status position finalized)
first_of-found_at Unset position finalized = refl
first_of-found_at Pending position finalized = refl
first_of-found_at Final position finalized = refl

again_of-found_at : (last : ℕ) (tag : Tag) (status : Status) (position finalized : ℕ)
    → after_again status last position tag ≡ again_of last tag (found_at status position finalized)
again_of-found_at last tag Unset position finalized = refl
again_of-found_at last tag Pending position finalized = refl
again_of-found_at last tag Final position finalized = refl

-- a complete phase that was next leads a call as it leads the reading

first_after : (kind : CallKind) (number : ℕ) (reading : Reading) (phase : Phase) → next_phase_of reading ≡ Some (phase.kind, phase.position)
    → after kind number (first_of reading) phase.replies (lacks_pieces phase) ≡ first_of (led_on reading (greatest_status phase.replies))
first_after kind number (Next position finalized) phase asks = first_of-found_at (greatest_status phase.replies) position finalized
first_after kind number (Spread position finalized Unset) phase asks = refl
first_after kind number (Spread position finalized Pending) phase asks = refl
first_after kind number (Spread position finalized Final) phase asks = refl
first_after kind number (Ended last finalized) phase asks = absurd (cc)

again_after : (kind : CallKind) (number last : ℕ) (tag : Tag) (reading : Reading) (phase : Phase)
    → next_phase_of reading ≡ Some (phase.kind, phase.position)
    → after kind number (again_of last tag reading) phase.replies (lacks_pieces phase)
    ≡ again_of last tag (led_on reading (greatest_status phase.replies))
again_after kind number last tag (Next position finalized) phase asks =
    again_of-found_at last tag (greatest_status phase.replies) position finalized
again_after kind number last tag (Spread position finalized status) phase asks = refl
again_after kind number last tag (Ended end finalized) phase asks = absurd (cc)

-- a reading that goes on has begun

first_begun : (reading : Reading) (position : ℕ) → begun_at (first_of reading) position ≡ first_of reading
first_begun (Next at finalized) position = refl
first_begun (Spread at finalized status) position = refl
first_begun (Ended last finalized) position = refl

again_begun : (last : ℕ) (tag : Tag) (reading : Reading) (position : ℕ)
    → begun_at (again_of last tag reading) position ≡ again_of last tag reading
again_begun last tag (Next at finalized) position = refl
again_begun last tag (Spread at finalized status) position = refl
again_begun last tag (Ended end finalized) position =
    cond_both (eqb end last) (stage.Ended last tag) (stage.PreWriteAt end tag) (λ s. begun_at s position ≡ s) (λ e. refl) (λ e. refl)

first_stages : (kind : CallKind) (number : ℕ) (reading to : Reading) (phases : List Phase) → LeadsReading reading phases to
    → AreComplete phases → stage_after kind number (first_of reading) phases ≡ first_of to
first_stages kind number reading to [] leads ended = ap first_of leads
first_stages kind number reading to (phase ∷ phases) leads ended =
    let passes = passed-ended kind number (begun_at (first_of reading) phase.position) phase.end phase.replies (lacks_pieces phase) ended.0
    ∙ ap (λ s. after kind number s phase.replies (lacks_pieces phase)) (first_begun reading phase.position) in
    ap (λ s. stage_after kind number s phases) (passes ∙ first_after kind number reading phase leads.0)
    ∙ first_stages kind number (led_on reading (greatest_status phase.replies)) to phases leads.1 ended.1

again_stages : (kind : CallKind) (number last : ℕ) (tag : Tag) (reading to : Reading) (phases : List Phase) → LeadsReading reading phases to
    → AreComplete phases → stage_after kind number (again_of last tag reading) phases ≡ again_of last tag to
again_stages kind number last tag reading to [] leads ended = ap (again_of last tag) leads
again_stages kind number last tag reading to (phase ∷ phases) leads ended =
    let passes = passed-ended kind number (begun_at (again_of last tag reading) phase.position) phase.end phase.replies (lacks_pieces phase)
    ended.0 ∙ ap (λ s. after kind number s phase.replies (lacks_pieces phase)) (again_begun last tag reading phase.position) in
    ap (λ s. stage_after kind number s phases) (passes ∙ again_after kind number last tag reading phase leads.0)
    ∙ again_stages kind number last tag (led_on reading (greatest_status phase.replies)) to phases leads.1 ended.1

pub readings_are_stages : ReadingsAreStages
readings_are_stages kind number reading to phases leads ended =
    (first_stages kind number reading to phases leads ended, λ last tag. again_stages kind number last tag reading to phases leads ended)

-- what a phase asks, as a pair and part by part

abbrev asked : Kind → (position : ℕ) → Option (Kind × ℕ)
asked kind position = Some (kind, position)

abbrev kind_or : Kind → Option (Kind × ℕ) → Kind
kind_or other None = other
kind_or other (Some pair) = pair.0

abbrev position_or : ℕ → Option (Kind × ℕ) → ℕ
position_or other None = other
position_or other (Some pair) = pair.1

asked_parts : (kind : Kind) (position : ℕ) (phase : Phase) → asked kind position ≡ asked phase.kind phase.position
    → Asks phase kind position
asked_parts kind position phase e = (ap (kind_or kind) (sym e), ap (position_or position) (sym e))

asked_pair : (kind : Kind) (position : ℕ) (phase : Phase) → Asks phase kind position → asked kind position ≡ asked phase.kind phase.position
asked_pair kind position phase asks = subst₂ (λ k p. asked kind position ≡ asked k p) (sym asks.0) (sym asks.1) refl

-- the phases of a reading lead to its end

leads_spread : (status : Status) (position finalized : ℕ) (to : Reading) (spread : Phase) (later : List Phase) → status ≢ Unset
    → Asks spread (kind.Spread status) position
    → LeadsReading (Next (suc position) (finalized_after status position finalized)) later to
    → LeadsReading (found_at status position finalized) (spread ∷ later) to
leads_spread Unset position finalized to spread later found asks leads = absurd (found refl)
leads_spread Pending position finalized to spread later found asks leads = (asked_pair (kind.Spread Pending) position spread asks, leads)
leads_spread Final position finalized to spread later found asks leads = (asked_pair (kind.Spread Final) position spread asks, leads)

leads_reading : (position finalized last to : ℕ) (phases : List Phase) → IsReading position finalized phases last to
    → LeadsReading (Next position finalized) phases (Ended last to)
leads_reading position finalized last to [] reading = absurd reading
leads_reading position finalized last to (next ∷ []) reading =
    let found = ap (λ status. found_at status position finalized) reading.1 in
    let ended : Ended position finalized ≡ Ended last to = cc (reading.2, reading.3) in
    (asked_pair kind.Next position next reading.0, found ∙ ended)
leads_reading position finalized last to (next ∷ spread ∷ later) reading =
    let status = greatest_status next.replies in
    let further = leads_reading (suc position) (finalized_after status position finalized) last to later reading.3 in (
      asked_pair kind.Next position next reading.0,
      leads_spread status position finalized (Ended last to) spread later reading.1 reading.2 further,
    )

-- what leads to the end is a reading

leads_ended : (status : Status) (position finalized last to : ℕ) → found_at status position finalized ≡ Ended last to → (status ≡ Unset)
    × (last ≡ position) × (to ≡ finalized)
leads_ended Unset position finalized last to e = (refl, (cc), (cc))
leads_ended Pending position finalized last to e = absurd (cc)
leads_ended Final position finalized last to e = absurd (cc)

leads_further : (status : Status) (position finalized : ℕ) (to : Reading) (spread : Phase) (later : List Phase)
    → LeadsReading (found_at status position finalized) (spread ∷ later) to
    → (status ≢ Unset) × Asks spread (kind.Spread status) position
    × LeadsReading (Next (suc position) (finalized_after status position finalized)) later to
leads_further Unset position finalized to spread later leads = let none = leads.0 in absurd (cc)
leads_further Pending position finalized to spread later leads =
    ((λ e. (cc)), asked_parts (kind.Spread Pending) position spread leads.0, leads.1)
leads_further Final position finalized to spread later leads =
    ((λ e. (cc)), asked_parts (kind.Spread Final) position spread leads.0, leads.1)

reading_leads : (position finalized last to : ℕ) (phases : List Phase) → LeadsReading (Next position finalized) phases (Ended last to)
    → IsReading position finalized phases last to
reading_leads position finalized last to [] leads = absurd (cc)
reading_leads position finalized last to (next ∷ []) leads =
    let ended = leads_ended (greatest_status next.replies) position finalized last to leads.1 in
    (asked_parts kind.Next position next leads.0, ended.0, ended.1, ended.2)
reading_leads position finalized last to (next ∷ spread ∷ later) leads =
    let status = greatest_status next.replies in
    let further = leads_further status position finalized (Ended last to) spread later leads.1 in (
      asked_parts kind.Next position next leads.0,
      further.0,
      further.1,
      reading_leads (suc position) (finalized_after status position finalized) last to later further.2,
    )

pub readings_lead_to_the_end : ReadingsLeadToTheEnd
readings_lead_to_the_end position finalized last to phases =
    (leads_reading position finalized last to phases, reading_leads position finalized last to phases)
