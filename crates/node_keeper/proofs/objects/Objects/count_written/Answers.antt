use Rattle.std.proofs.Common.{[], ◌≡◌, ◌<◌, ◌≤◌, ◌+◌, ◌∙◌, ℕ, List, Bool, true, false, cond, length, get_or, sym, subst, ap}
use Rattle.std.proofs.Common.{arith, MatchOption, take}
use Rattle.std.specs.List.{filter}
use Rattle.std.proofs.lemmas.List.Filters.{length-filter_more}
use Rattle.std.proofs.lemmas.Option.{slice_get-get_or}
use Rattle.node_keeper.specs.Objects.{heard_names, objects_of}
use Rattle.node_keeper.specs.Written.{is_written}
use Rattle.node_keeper.proofs.objects.Objects.count_written.Goals as goal

-- 1 or 0 is at most 1
at_most_one : (b : Bool) → cond b 1 0 ≤ 1
at_most_one true = omega arith
at_most_one false = omega arith

pub loop-index-preserved : goal.loop-index-preserved
loop-index-preserved c =
    let objects = c.args.self.now in
    let written : List ℕ → Bool = λ name. is_written (objects_of objects name) in
    let names = heard_names objects in
    let i = c.loop-index.index in
    let less : i < length names = omega (arith, c.count-index-end.ensures.count, c.loop-index-test.true) in
    let is : c.is_written_at.result ≡ written (get_or names i []) =
    subst (λ o. MatchOption o (c.is_written_at.result ≡ false) (λ name. c.is_written_at.result ≡ written name))
    (slice_get-get_or names i [] less) c.is_written_at.ensures in
    let one : c.one_if-count.result ≡ cond (written (get_or names i [])) 1 0 = c.one_if-count.ensures ∙ ap (λ b. cond b 1 0) is in
    let few : c.one_if-count.result ≤ 1 = subst (λ n. n ≤ 1) (sym c.one_if-count.ensures) (at_most_one c.is_written_at.result) in
    let more = length-filter_more written names i [] less in
    let all : c.loop-index.count + c.one_if-count.result
    ≡ length (filter written (take i names)) + cond (written (get_or names i [])) 1 0 =
    ap (λ n. n + c.one_if-count.result) c.loop-index.invariant.0 ∙ ap (λ n. length (filter written (take i names)) + n) one in
    (all ∙ sym more, let before = c.loop-index.invariant.1 in omega arith)
