-- What the run of a script comes to, line by line.
use Rattle.std.proofs.Common.{◌≡◌, ◌+◌, ◌<◌, Bor, map, get_or, ℕ, zero, suc, List, [], ◌∷◌, ◌++◌}
use Rattle.std.proofs.Common.{length, take, drop, Option, Some, None, Result, Ok, Err, refl, sym, ap, ◌∙◌, subst, inl, inr, arith}
use Rattle.std.specs.Prelude.{option_map, slice_get, MatchResult}
use Rattle.std.specs.Result.{IsErrAnd}
use Rattle.std.proofs.lemmas.Option.{slice_get-map, slice_get-get_or}
use Rattle.std.specs.Str.Lines.{lines}
use Rattle.std.specs.Io.KnownBytes.{Appends}
use Rattle.std.proofs.KnownBytes.{Appends-nil, Appends-trans, Appends-kept}
use Rattle.cluster.specs.Cluster.{Cluster}
use Rattle.player.specs.declared.run.End.{End}
use Rattle.player.specs.declared.run.End.TheVariants as end
use Rattle.words.specs.Written.{Written}
use Rattle.player.specs.Script.{PlaysLines, IsPlayedTo, IsPlayedFrom, LosesLine}
use Rattle.player.specs.Script.{LosesOutput, EndsLine, EndsAt}
use Rattle.player.specs.Script.PlaysLines.{none, then_plays}

-- The lines of a script

-- so many lines are played, and their text printed
pub record IsPlayedSoFar (all : List (List ℕ)) (count : ℕ) (state : Option Cluster) (old new : Written) : Type 0 where
  pub text : List ℕ
  pub played : PlaysLines (take count all) state text
  pub printed : Appends old new text

pub nothing_played : (all : List (List ℕ)) (old : Written) → IsPlayedSoFar all 0 None old old
nothing_played all old = record { text = []; played = none; printed = Appends-nil old }

take_one : {X : Type 0} (xs : List X) (i : ℕ) (x : X) → slice_get xs i ≡ Some x → take (suc i) xs ≡ take i xs ++ x ∷ []
take_one [] i x at = absurd (cc)
take_one (y ∷ ys) zero x at = let same : y ≡ x = cc in ap (λ z. z ∷ []) same
take_one (y ∷ ys) (suc i) x at = ap (λ zs. y ∷ zs) (take_one ys i x at)

parted_at : {X : Type 0} (xs : List X) (i : ℕ) (x : X) → slice_get xs i ≡ Some x → xs ≡ take i xs ++ x ∷ drop (suc i) xs
parted_at [] i x at = absurd (cc)
parted_at (y ∷ ys) zero x at = let same : y ≡ x = cc in ap (λ z. z ∷ ys) same
parted_at (y ∷ ys) (suc i) x at = ap (λ zs. y ∷ zs) (parted_at ys i x at)

length_taken : {X : Type 0} (xs : List X) (i : ℕ) (x : X) → slice_get xs i ≡ Some x → length (take i xs) ≡ i
length_taken [] i x at = absurd (cc)
length_taken (y ∷ ys) zero x at = refl
length_taken (y ∷ ys) (suc i) x at = let rest = length_taken ys i x at in omega (arith, rest)

module _ (all : List (List ℕ)) (count : ℕ) (words : List ℕ) (at : slice_get all count ≡ Some words) where
  more : suc count ≡ count + 1
  more = omega arith

  pub one_more : (state after : Option Cluster) (old middle new : Written) → IsPlayedSoFar all count state old middle →
      IsPlayedFrom state words after middle new → IsPlayedSoFar all (count + 1) after old new
  one_more state after old middle new so_far from = record {
    text = so_far.text ++ from.0;
    played = subst (λ n. PlaysLines (take n all) after (so_far.text ++ from.0)) more
        (subst (λ front. PlaysLines front after (so_far.text ++ from.0)) (sym (take_one all count words at))
        (then_plays words so_far.played from.1));
    printed = Appends-trans old middle new so_far.text from.0 so_far.printed from.2;
  }

  to_here : (script : List ℕ) (state : Option Cluster) (text : List ℕ) → all ≡ lines script →
      PlaysLines (take count all) state text → IsPlayedTo (lines script) (take count all) words state text
  to_here script state text is so_far =
      record { rest = drop (suc count) all; parted = sym is ∙ parted_at all count words at; played = so_far }

  lost_line : (script : List ℕ) (state : Option Cluster) (text : List ℕ) → all ≡ lines script →
      PlaysLines (take count all) state text → LosesLine state words → LosesOutput script
  lost_line script state text is so_far lost = record {
    front = take count all;
    words = words;
    state = state;
    after = lost.1;
    text = text;
    more = lost.2;
    played = to_here script state text is so_far;
    command = lost.0;
    spelled = lost.3;
    carried_out = lost.4;
  }

  pub last_line : (script : List ℕ) (state : Option Cluster) (old middle new : Written) (why : End) → all ≡ lines script →
      IsPlayedSoFar all count state old middle → EndsLine (count + 1) state words middle new why → EndsAt script old new why
  last_line script state old middle new end.Unread is so_far ends = ends
  last_line script state old middle new end.NoRoom is so_far ends = ends
  last_line script state old middle new end.NoMemory is so_far (inl ends) = inl (record {
    front = take count all;
    words = words;
    state = state;
    text = so_far.text;
    played = to_here script state so_far.text is so_far.played;
    lacks = ends.0;
    printed = Appends-kept old middle new so_far.text so_far.printed ends.1;
  })
  last_line script state old middle new end.NoMemory is so_far (inr lost) = inr (lost_line script state so_far.text is so_far.played lost)
  last_line script state old middle new (end.BadLine number) is so_far ends = record {
    front = take count all;
    words = words;
    state = state;
    text = so_far.text;
    played = to_here script state so_far.text is so_far.played;
    numbered = ends.0 ∙ sym more ∙ ap suc (sym (length_taken all count words at));
    bad = ends.1;
    printed = Appends-kept old middle new so_far.text so_far.printed ends.2;
  }
  last_line script state old middle new end.OutputLost is so_far lost = lost_line script state so_far.text is so_far.played lost

-- what stands in the list of lines at a place
pub line_at : (all : List (Bor (List ℕ))) (i : ℕ) (d : Bor (List ℕ)) → i < length all
    → slice_get (map (λ (line : Bor (List ℕ)). line.now) all) i ≡ Some (get_or all i d).now
line_at all i d within = slice_get-map (λ (line : Bor (List ℕ)). line.now) all i
    ∙ ap (option_map (λ (line : Bor (List ℕ)). line.now)) (slice_get-get_or all i d within)

-- the line stopped the script
pub stopped : (r : Result Unit End) (why : End) (Done : Type 0) (P : End → Type 0) → IsErrAnd r (λ end. end ≡ why) → P why →
    MatchResult r (λ _. Done) P
stopped (Ok x) why Done P is holds = absurd is
stopped (Err y) why Done P is holds = subst P (sym is) holds
