-- Deeds, and then more deeds.
use Rattle.std.proofs.Common.{◌≡◌, ℕ, List, [], ◌∷◌, ◌++◌, refl, sym, ap, ◌∙◌, append_assoc}
use Rattle.record.specs.Fragments.{Code}
use Rattle.local_object.specs.Local.{LocalObject}
use Rattle.deeds.specs.Deeds.{Deed, after_deed, after_deeds}
use Rattle.deeds.specs.May.{MayAllBeDone}

pub objects_append : (fragment : Code) (objects : List ℕ → LocalObject) (first second : List Deed) →
    (after_deeds fragment objects (first ++ second)).objects
    ≡ (after_deeds fragment (after_deeds fragment objects first).objects second).objects
objects_append fragment objects [] second = refl
objects_append fragment objects (deed ∷ first) second =
    objects_append fragment (after_deed fragment objects deed).objects first second

pub sent_append : (fragment : Code) (objects : List ℕ → LocalObject) (first second : List Deed) →
    (after_deeds fragment objects (first ++ second)).sent
    ≡ (after_deeds fragment objects first).sent ++ (after_deeds fragment (after_deeds fragment objects first).objects second).sent
sent_append fragment objects [] second = refl
sent_append fragment objects (deed ∷ first) second =
    let done = after_deed fragment objects deed in
    let rest = after_deeds fragment done.objects first in
    ap (λ xs. done.sent ++ xs) (sent_append fragment done.objects first second)
    ∙ sym (append_assoc done.sent rest.sent (after_deeds fragment rest.objects second).sent)

pub notices_append : (fragment : Code) (objects : List ℕ → LocalObject) (first second : List Deed) →
    (after_deeds fragment objects (first ++ second)).notices
    ≡ (after_deeds fragment objects first).notices
    ++ (after_deeds fragment (after_deeds fragment objects first).objects second).notices
notices_append fragment objects [] second = refl
notices_append fragment objects (deed ∷ first) second =
    let done = after_deed fragment objects deed in
    let rest = after_deeds fragment done.objects first in
    ap (λ xs. done.notices ++ xs) (notices_append fragment done.objects first second)
    ∙ sym (append_assoc done.notices rest.notices (after_deeds fragment rest.objects second).notices)

pub deeds_append : (fragment : Code) (objects : List ℕ → LocalObject) (first second : List Deed) →
    MayAllBeDone fragment objects first →
    MayAllBeDone fragment (after_deeds fragment objects first).objects second →
    MayAllBeDone fragment objects (first ++ second)
deeds_append fragment objects [] second a b = b
deeds_append fragment objects (deed ∷ first) second a b =
    (a.0, deeds_append fragment (after_deed fragment objects deed).objects first second a.1 b)
