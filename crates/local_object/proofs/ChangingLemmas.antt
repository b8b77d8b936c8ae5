-- Letters that change nothing but what a node has heard of.
use Rattle.std.proofs.Common.{◌≡◌, ℕ, ◌&&◌, ◌||◌, Bool, true, false, cond, eqb, eqb-true, eq-eqb, is_some, [], ◌∷◌, ◌++◌, Option}
use Rattle.std.proofs.Common.{Some, None, refl, sym, subst, ap, ◌∙◌, arith}
use Rattle.std.proofs.lemmas.Bool.{false≢true}
use Rattle.encoder.specs.Fragment.{fragment}
use Rattle.layout.specs.Layout.{Layout}
use Rattle.bank.specs.declared.request.Request.{Request}
use Rattle.mail.specs.declared.message.Body.{Body}
use Rattle.mail.specs.declared.message.Body.TheVariants as body
use Rattle.letter.specs.declared.letter.Letter.{Letter}
use Rattle.local_object.specs.declared.kept_bank.KeptBank.{KeptBank}
use Rattle.local_object.specs.ChangedBanks.{changes_kept, kept_bank}
use Rattle.local_object.specs.Changing.{HasOnlyHeard, IsUnchangedBy, changes_in_body, is_changed_by}
use Rattle.local_object.specs.Distinct.{IsBankInOrderIfOpen}
use Rattle.local_object.specs.Doing.{is_askable, is_sent_back, is_served, stray_events}
use Rattle.local_object.specs.Events.{LocalEvent, all_done, served_here}
use Rattle.local_object.specs.Outcomes.{learnt_from}
use Rattle.local_object.specs.Local.{LocalObject, Place, bank_here, bank_in, bank_or_opened, heard_place, is_later_start_if}
use Rattle.local_object.specs.Local.{with_bank_here}
use Rattle.local_object.proofs.HeardLayoutLemmas.{bank_heard, bank_here_heard, bank_put_elsewhere, bank_put_there, calls_heard, delta_heard}
use Rattle.local_object.proofs.HeardLayoutLemmas.{layout_kept, node_heard, start_heard}
use Rattle.local_object.proofs.LearntLemmas.{known_learnt}
use Rattle.local_object.proofs.PlaceLemmas.{layout_bank}
use Rattle.local_object.proofs.UnchangedBankLemmas.{kept_unchanged}

neither_first : (a b : Bool) → (a || b) ≡ false → a ≡ false
neither_first true b e = absurd (cc)
neither_first false b e = refl

module _ (local : LocalObject) (letter : Letter) where
  abbrev position : ℕ
  position = letter.message.position

  abbrev heard : LocalObject
  heard = learnt_from local letter

  -- what was only heard of
  only_heard : HasOnlyHeard local letter heard
  only_heard = record {
    node = node_heard local letter;
    delta = delta_heard local letter;
    start = start_heard local letter;
    calls = calls_heard local letter;
    kept = layout_kept local letter;
    heard = λ m layout e. e;
    banks = λ m member. bank_here_heard local letter m member;
  }

  -- nothing at all happened
  nothing : HasOnlyHeard local letter local
  nothing = record {
    node = refl;
    delta = refl;
    start = omega arith;
    calls = refl;
    kept = λ m layout e. e;
    heard = layout_kept local letter;
    banks = λ m member. refl;
  }

  -- the letter was not served
  unserved_heard : HasOnlyHeard local letter (all_done fragment local (cond (is_askable letter) (stray_events local letter) [])).local
  unserved_heard = go (is_askable letter) (is_some letter.start) (is_sent_back local letter)
    where
      go : (asked told back : Bool) → HasOnlyHeard local letter (all_done fragment local
          (cond asked (cond told (LocalEvent.Hear letter ∷ []) [] ++ cond back (LocalEvent.Redirect letter ∷ []) []) [])).local
      go false told back = nothing
      go true true true = only_heard
      go true true false = only_heard
      go true false true = nothing
      go true false false = nothing

  abbrev old : Option KeptBank
  old = bank_in (heard_place local.places position)

  abbrev served : Request → Option KeptBank
  served asked = kept_bank (bank_in (heard_place heard.places position)) letter.message.member heard.delta asked

  -- the bank is put back as it was
  module _ (order : IsBankInOrderIfOpen (bank_in (heard_place local.places position))) where
    same : (asked : Request) → changes_kept (bank_here local position letter.message.member) asked ≡ false
        → served asked ≡ bank_in (heard_place local.places position)
    same asked e =
        ap (λ o. kept_bank o letter.message.member heard.delta asked) (bank_heard local letter position)
        ∙ ap (λ d. kept_bank old letter.message.member d asked) (delta_heard local letter)
        ∙ kept_unchanged old letter.message.member local.delta asked order e

    banks : (asked : Request) → changes_kept (bank_here local position letter.message.member) asked ≡ false → (m member : ℕ)
        → (b : Bool) → eqb m position ≡ b
        → bank_or_opened (bank_in (heard_place (with_bank_here heard.places position (served asked)) m)) member heard.delta
        ≡ bank_here local m member
    banks asked e m member true t =
        let here = eqb-true m position t in
        ap (λ k. bank_or_opened (bank_in (heard_place (with_bank_here heard.places position (served asked)) k)) member heard.delta) here
        ∙ ap (λ o. bank_or_opened o member heard.delta)
        (bank_put_there heard.places position (served asked) (known_learnt local letter) ∙ same asked e)
        ∙ ap (λ k. bank_or_opened (bank_in (heard_place local.places k)) member heard.delta) (sym here)
        ∙ ap (bank_or_opened (bank_in (heard_place local.places m)) member) (delta_heard local letter)
    banks asked e m member false t =
        ap (λ o. bank_or_opened o member heard.delta)
        (bank_put_elsewhere heard.places position (served asked) m (λ e. false≢true (sym t ∙ eq-eqb m position e)))
        ∙ bank_here_heard local letter m member

    put_back : (asked : Request) → changes_kept (bank_here local position letter.message.member) asked ≡ false
        → HasOnlyHeard local letter (served_here heard letter (body.Request asked)).local
    put_back asked e = record {
      node = node_heard local letter;
      delta = delta_heard local letter;
      start = start_heard local letter;
      calls = calls_heard local letter;
      kept = λ m layout k. layout_bank heard.places position (served asked) m ∙ layout_kept local letter m layout k;
      heard = λ m layout k. sym (layout_bank heard.places position (served asked) m) ∙ k;
      banks = λ m member. banks asked e m member (eqb m position) refl;
    }

    in_body : (b : Body) → changes_in_body (bank_here local position letter.message.member) b ≡ false
        → HasOnlyHeard local letter (served_here heard letter b).local
    in_body (body.Request asked) e = put_back asked e
    in_body (body.Reply kind made) e = only_heard

    pub unchanged : is_changed_by local letter ≡ false → IsUnchangedBy local letter
    unchanged e = go (is_served local letter) e
      where
        go : (b : Bool) → (b && (changes_in_body (bank_here local position letter.message.member) letter.message.body
            || is_later_start_if local letter.start)) ≡ false
            → HasOnlyHeard local letter (all_done fragment local
            (cond b (LocalEvent.Serve letter ∷ []) (cond (is_askable letter) (stray_events local letter) []))).local
        go true e =
            in_body letter.message.body
            (neither_first (changes_in_body (bank_here local position letter.message.member) letter.message.body)
            (is_later_start_if local letter.start) e)
        go false e = unserved_heard

-- of an object of which the node has not heard
none_open : (first : Layout) (b : Bool)
    → IsBankInOrderIfOpen (bank_in (cond b (Some (let p : Place = record { position = 0; layout = first; bank = None } in p)) None))
none_open first true = tt
none_open first false = tt

-- a letter that is not served
pub unserved : (local : LocalObject) (letter : Letter) → is_served local letter ≡ false → IsUnchangedBy local letter
unserved local letter e =
    subst (λ b. HasOnlyHeard local letter (all_done fragment local
    (cond b (LocalEvent.Serve letter ∷ []) (cond (is_askable letter) (stray_events local letter) []))).local) (sym e)
    (unserved_heard local letter)

pub unserved_is : (local : LocalObject) (letter : Letter) → is_served local letter ≡ false → false ≡ is_changed_by local letter
unserved_is local letter e =
    sym (ap (λ b. b && (changes_in_body (bank_here local letter.message.position letter.message.member) letter.message.body
    || is_later_start_if local letter.start)) e)

-- whether a letter that is served changes the object
pub changed_is : (o local : LocalObject) → o ≡ local → (letter : Letter) (r : Bool) → is_served local letter ≡ true
    → r ≡ (changes_in_body (bank_here o letter.message.position letter.message.member) letter.message.body
    || is_later_start_if local letter.start)
    → r ≡ is_changed_by local letter
changed_is o local view letter r served is =
    let message = letter.message in
    let changes : LocalObject → Bool = λ l. changes_in_body (bank_here l message.position message.member) message.body in
    let later = is_later_start_if local letter.start in
    is ∙ ap (λ (l : LocalObject). changes l || later) view ∙ sym (ap (λ b. b && (changes local || later)) served)
