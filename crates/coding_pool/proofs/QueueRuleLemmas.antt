-- Each step keeps the rule of the queue.
use Rattle.std.proofs.Common.{◌≡◌, ℕ, zero, suc, ◌+◌, ◌-◌, ◌<◌, ◌≤◌, ◌==◌, List, []}
use Rattle.std.proofs.Common.{◌∷◌, ◌++◌, length, set, refl, sym, ap, ◌∙◌, arith, length-append}
use Rattle.std.specs.Prelude.{if◌then◌else◌, sum_by}
use Rattle.std.proofs.lemmas.List.Sums.{sum_by-cons, sum_by-append}
use Rattle.std.proofs.lemmas.Bool.Decides.{nat_tests}
use mathlib.Core.Option.{some, some-ne-none, some-injective}
use lib.ListN.{get_elem?}
use Rattle.crossbeam_queue.specs.Fifo.{Pushes, Pops, Forks, Merges, Learns}
use Rattle.coding_pool.specs.declared.jobs.Known.{Known}
use Rattle.coding_pool.specs.Jobs.{known, PARTS, times, once_below, IsIdle, AreIdle, HaveEachJobOnce, IsWhole, HasNoMore}

-- the sum after a change of one view
sum_set : (f : Known → ℕ) (views : List Known) (pass : ℕ) (v w : Known) → get_elem? views pass ≡ some v →
    sum_by f (set views pass w) + f v ≡ sum_by f views + f w
sum_set f [] pass v w at = absurd (some-ne-none v (sym at))
sum_set f (u ∷ us) zero v w at =
    let e = ap f (some-injective _ _ at) in omega (arith, e, sum_by-cons f u us, sum_by-cons f w us)
sum_set f (u ∷ us) (suc pass) v w at =
    omega (arith, sum_set f us pass v w at, sum_by-cons f u us, sum_by-cons f u (set us pass w))

-- the sum after a view is added
sum_more : (f : Known → ℕ) (views : List Known) (w : Known) → sum_by f (views ++ w ∷ []) ≡ sum_by f views + f w
sum_more f views w = omega (arith, sum_by-append f views (w ∷ []), sum_by-cons f w [])

sum_at : (f : Known → ℕ) (views : List Known) (pass : ℕ) (v : Known) → get_elem? views pass ≡ some v → f v ≤ sum_by f views
sum_at f [] pass v at = absurd (some-ne-none v (sym at))
sum_at f (u ∷ us) zero v at = let e = ap f (some-injective _ _ at) in omega (arith, e, sum_by-cons f u us)
sum_at f (u ∷ us) (suc pass) v at = omega (arith, sum_at f us pass v at, sum_by-cons f u us)

pub times-append : (job : ℕ) (xs ys : List ℕ) → times job (xs ++ ys) ≡ times job xs + times job ys
times-append job xs ys = sum_by-append (λ j. if j == job then 1 else 0) xs ys

idle_set : (views : List Known) (pass : ℕ) (w : Known) → IsIdle w → AreIdle views → AreIdle (set views pass w)
idle_set [] pass w i h = tt
idle_set (v ∷ vs) zero w i h = (i, h.1)
idle_set (v ∷ vs) (suc pass) w i h = (h.0, idle_set vs pass w i h.1)

idle_more : (views : List Known) (w : Known) → IsIdle w → AreIdle views → AreIdle (views ++ w ∷ [])
idle_more [] w i h = (i, tt)
idle_more (v ∷ vs) w i h = (h.0, idle_more vs w i h.1)

-- whoever has a part is not idle
has_part : (v : Known) → 0 < v.parts → IsIdle v
has_part v part none = absurd (omega (arith, part, none))

-- f is 0 for each holder that has no part, and so has pushed and popped nothing
abbrev IsOfParts : (Known → ℕ) → Type 0
IsOfParts f = (v : Known) → v.parts ≡ 0 → IsIdle v → f v ≡ 0

sum_idle : (f : Known → ℕ) → IsOfParts f → (views : List Known) → AreIdle views → sum_by (λ v. v.parts) views ≡ 0 →
    sum_by f views ≡ 0
sum_idle f z [] h n = refl
sum_idle f z (v ∷ vs) h n =
    let split = sum_by-cons (λ (u : Known). u.parts) v vs in
    let a = z v (omega (arith, split, n)) h.0 in
    let b = sum_idle f z vs h.1 (omega (arith, split, n)) in
    omega (arith, a, b, sum_by-cons f v vs)

-- the view with every part has the whole sum
sum_alone : (f : Known → ℕ) → IsOfParts f → (views : List Known) (pass : ℕ) (v : Known) → AreIdle views →
    get_elem? views pass ≡ some v → sum_by (λ u. u.parts) views ≡ v.parts → sum_by f views ≡ f v
sum_alone f z [] pass v h at n = absurd (some-ne-none v (sym at))
sum_alone f z (u ∷ us) zero v h at n =
    let e = some-injective _ _ at in
    let p : u.parts ≡ v.parts = ap (λ (w : Known). w.parts) e in
    let split = sum_by-cons (λ (w : Known). w.parts) u us in
    let b = sum_idle f z us h.1 (omega (arith, split, n, p)) in
    let q = ap f e in
    omega (arith, b, q, sum_by-cons f u us)
sum_alone f z (u ∷ us) (suc pass) v h at n =
    let m = sum_at (λ w. w.parts) us pass v at in
    let split = sum_by-cons (λ (w : Known). w.parts) u us in
    let a = z u (omega (arith, split, n, m)) h.0 in
    let b = sum_alone f z us pass v h.1 at (omega (arith, split, n, m)) in
    omega (arith, a, b, sum_by-cons f u us)

popped_of_parts : (job : ℕ) → IsOfParts (λ v. times job v.popped)
popped_of_parts job v n h = ap (times job) (h n).1

pushed_of_parts : IsOfParts (λ v. v.pushed)
pushed_of_parts v n h = (h n).0

pub once_more : (job n : ℕ) → once_below (n + 1) job ≡ once_below n job + times job (n ∷ [])
once_more job n = grind (arith, nat_tests)

-- the next job is pushed by the pass with every part
pub pushes : (n pass : ℕ) (v : Known) (job : ℕ) → v.parts ≡ PARTS → job ≡ v.pushed →
    Pushes HaveEachJobOnce n pass v job (λ w. w ≡ known v.parts (v.pushed + 1) v.popped)
pushes n pass v job whole next items views room b at =
    let w = known v.parts (v.pushed + 1) v.popped in
    let alone = sum_alone (λ u. u.pushed) pushed_of_parts views pass v b.idle at (b.parts ∙ sym whole) in
    let p = sum_set (λ u. u.pushed) views pass v w at in
    let now : sum_by (λ (u : Known). u.pushed) (set views pass w) ≡ v.pushed + 1 = omega (arith, p, alone) in (
      w,
      record {
        parts = let s = sum_set (λ u. u.parts) views pass v w at in let q = b.parts in omega (arith, s, q);
        each = λ j.
            let s = sum_set (λ u. times j u.popped) views pass v w at in
            let q = b.each j ∙ ap (λ (m : ℕ). once_below m j) alone in
            let m = once_more j v.pushed in
            let e : times j (job ∷ []) ≡ times j (v.pushed ∷ []) = ap (λ (z : ℕ). times j (z ∷ [])) next in
            let a = times-append j items (job ∷ []) in
            let r = ap (λ (m : ℕ). once_below m j) now in
            omega (arith, s, q, m, e, a, r);
        count =
            let s = sum_set (λ u. length u.popped) views pass v w at in
            let q = b.count in
            omega (arith, s, q, now, alone, length-append items (job ∷ []));
        idle = idle_set views pass w (has_part w (omega (arith, whole))) b.idle;
      },
      refl,
    )

pub pops : (pass : ℕ) (v : Known) → 0 < v.parts →
    Pops HaveEachJobOnce pass v (λ job w. w ≡ known v.parts v.pushed (v.popped ++ job ∷ []))
pops pass v part job items views b at =
    let w = known v.parts v.pushed (v.popped ++ job ∷ []) in
    let p = sum_set (λ u. u.pushed) views pass v w at in
    let same : sum_by (λ (u : Known). u.pushed) (set views pass w) ≡ sum_by (λ (u : Known). u.pushed) views = omega (arith, p) in (
      w,
      record {
        parts = let s = sum_set (λ u. u.parts) views pass v w at in let q = b.parts in omega (arith, s, q);
        each = λ j.
            let s = sum_set (λ u. times j u.popped) views pass v w at in
            let q = b.each j in
            let a = times-append j v.popped (job ∷ []) in
            let c = times-append j (job ∷ []) items in
            let r = ap (λ (m : ℕ). once_below m j) same in
            omega (arith, s, q, a, c, r);
        count =
            let s = sum_set (λ u. length u.popped) views pass v w at in
            let q = b.count in
            omega (arith, s, q, same, length-append v.popped (job ∷ []));
        idle = idle_set views pass w (has_part w part) b.idle;
      },
      refl,
    )

pub forks : (pass : ℕ) (v : Known) → 1 < v.parts → Forks HaveEachJobOnce pass v (known (v.parts - 1) v.pushed v.popped) (known 1 0 [])
forks pass v more items views b at =
    let l = known (v.parts - 1) v.pushed v.popped in
    let r = known 1 0 [] in
    let vs = set views pass l in
    let p = sum_set (λ u. u.pushed) views pass v l at in
    let p' = sum_more (λ u. u.pushed) vs r in
    let same : sum_by (λ (u : Known). u.pushed) (vs ++ r ∷ []) ≡ sum_by (λ (u : Known). u.pushed) views = omega (arith, p, p') in
    record {
      parts =
          let s = sum_set (λ u. u.parts) views pass v l at in
          let t = sum_more (λ u. u.parts) vs r in
          let q = b.parts in
          omega (arith, s, t, q, more);
      each = λ j.
          let s = sum_set (λ u. times j u.popped) views pass v l at in
          let t = sum_more (λ u. times j u.popped) vs r in
          let q = b.each j in
          let e = ap (λ (m : ℕ). once_below m j) same in
          omega (arith, s, t, q, e);
      count =
          let s = sum_set (λ u. length u.popped) views pass v l at in
          let t = sum_more (λ u. length u.popped) vs r in
          let q = b.count in
          omega (arith, s, t, q, same);
      idle = idle_more vs r (has_part r (omega arith)) (idle_set views pass l (has_part l (omega (arith, more))) b.idle);
    }

pub merges : (pass : ℕ) (v : Known) (other : ℕ) (u : Known) → 0 < v.parts →
    Merges HaveEachJobOnce pass v other u (known (v.parts + u.parts) (v.pushed + u.pushed) (v.popped ++ u.popped)) (known 0 0 [])
merges pass v other u part items views b at apart there =
    let w = known (v.parts + u.parts) (v.pushed + u.pushed) (v.popped ++ u.popped) in
    let z = known 0 0 [] in
    let vs = set views pass w in
    let p = sum_set (λ h. h.pushed) views pass v w at in
    let p' = sum_set (λ h. h.pushed) vs other u z there in
    let same : sum_by (λ (h : Known). h.pushed) (set vs other z) ≡ sum_by (λ (h : Known). h.pushed) views = omega (arith, p, p') in
    record {
      parts =
          let s = sum_set (λ h. h.parts) views pass v w at in
          let t = sum_set (λ h. h.parts) vs other u z there in
          let q = b.parts in
          omega (arith, s, t, q);
      each = λ j.
          let s = sum_set (λ h. times j h.popped) views pass v w at in
          let t = sum_set (λ h. times j h.popped) vs other u z there in
          let q = b.each j in
          let a = times-append j v.popped u.popped in
          let e = ap (λ (m : ℕ). once_below m j) same in
          omega (arith, s, t, q, a, e);
      count =
          let s = sum_set (λ h. length h.popped) views pass v w at in
          let t = sum_set (λ h. length h.popped) vs other u z there in
          let q = b.count in
          omega (arith, s, t, q, same, length-append v.popped u.popped);
      idle = idle_set vs other z (λ _. (refl, refl)) (idle_set views pass w (has_part w (omega (arith, part))) b.idle);
    }

pub learns_whole : (pass : ℕ) (v : Known) → Learns HaveEachJobOnce pass v (IsWhole v)
learns_whole pass v items views b at whole job =
    let one = sum_alone (λ u. times job u.popped) (popped_of_parts job) views pass v b.idle at (b.parts ∙ sym whole) in
    let two = sum_alone (λ u. u.pushed) pushed_of_parts views pass v b.idle at (b.parts ∙ sym whole) in
    let q = b.each job in
    let e = ap (λ (m : ℕ). once_below m job) two in
    omega (arith, one, q, e)

pub learns_no_more : (pass : ℕ) (v : Known) → Learns HaveEachJobOnce pass v (HasNoMore v)
learns_no_more pass v items views b at whole =
    let two = sum_alone (λ u. u.pushed) pushed_of_parts views pass v b.idle at (b.parts ∙ sym whole) in
    let q = b.count in
    omega (arith, two, q)
