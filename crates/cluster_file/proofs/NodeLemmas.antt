-- A list of nodes as a loop reads it, and nodes that are apart.
use Rattle.std.proofs.Common.{◌≡◌, ℕ, suc, ◌+◌, ◌<◌, ◌≤◌, ◌||◌, Bool, false}
use Rattle.std.proofs.Common.{nat_eq, List, [], ◌∷◌, ◌++◌, length, get_or, drop, drop-cons}
use Rattle.std.proofs.Common.{Ok, Err, refl, sym, ap, subst, ◌∙◌, append_assoc, arith, Bor}
use Rattle.std.proofs.lemmas.List.{drop_all, length-append}
use Rattle.std.proofs.lemmas.List.Folds.{list_any-append}
use Rattle.std.specs.Prelude.{◌==◌}
use Rattle.std.specs.List.{IsDistinct}
use Rattle.layout.specs.Quorum.{has}
use Rattle.layout.proofs.DistinctMemberLemmas.{distinct_push}
use Rattle.tag.specs.declared.limits.TheConstants.{MOST_SERVERS}
use Rattle.cluster_file.specs.declared.error.FileFault.{FileFault}
use Rattle.cluster_file.specs.File.{AreApart}
use Rattle.words.specs.Word.{Word}
use Rattle.cluster_file.specs.Numbers.{node_from}
use Rattle.cluster_file.specs.Reading.{OrFault, placed_at, nodes_from}
use Rattle.cluster_file.proofs.LineLemmas.{texts_of}

-- one word after another
nodes_go : (others listed : List ℕ) (line node : ℕ) (word : Word) (words : List Word)
    → placed_at line (length listed + 2) (node_from others listed word) ≡ Ok node
    → nodes_from others listed line (word ∷ words) ≡ nodes_from others (listed ++ node ∷ []) line words
unfolding nodes_from
nodes_go others listed line node word words e = rw e refl

nodes_stop : (others listed : List ℕ) (line : ℕ) (fault : FileFault) (word : Word) (words : List Word)
    → placed_at line (length listed + 2) (node_from others listed word) ≡ Err fault
    → nodes_from others listed line (word ∷ words) ≡ Err fault
unfolding nodes_from
nodes_stop others listed line fault word words e = rw e refl

nodes_end : (others listed : List ℕ) (line : ℕ) → nodes_from others listed line [] ≡ Ok listed
unfolding nodes_from
nodes_end others listed line = refl

pub nodes_go_on : (others listed new : List ℕ) (line node i : ℕ) (words : List (Bor Word)) (d : Bor Word) (whole : OrFault (List ℕ))
    → i < length words → Ok node ≡ placed_at line (length listed + 2) (node_from others listed (get_or words i d).now)
    → new ≡ listed ++ node ∷ [] → nodes_from others listed line (texts_of (drop i words)) ≡ whole
    → nodes_from others new line (texts_of (drop (i + 1) words)) ≡ whole
nodes_go_on others listed new line node i words d whole lt e pushed before =
    let next : suc i ≡ i + 1 = omega arith in
    sym (ap (λ (ws : List (Bor Word)). nodes_from others listed line (texts_of ws)) (drop-cons words i d lt)
    ∙ nodes_go others listed line node (get_or words i d).now (texts_of (drop (suc i) words)) (sym e)
    ∙ ap (λ (ns : List ℕ). nodes_from others ns line (texts_of (drop (suc i) words))) (sym pushed)
    ∙ ap (λ (k : ℕ). nodes_from others new line (texts_of (drop k words))) next)
    ∙ before

pub nodes_stop_at : (others listed : List ℕ) (line i : ℕ) (fault : FileFault) (words : List (Bor Word)) (d : Bor Word)
    (whole : OrFault (List ℕ)) → i < length words
    → Err fault ≡ placed_at line (length listed + 2) (node_from others listed (get_or words i d).now)
    → nodes_from others listed line (texts_of (drop i words)) ≡ whole → whole ≡ Err fault
nodes_stop_at others listed line i fault words d whole lt e before =
    sym before
    ∙ ap (λ (ws : List (Bor Word)). nodes_from others listed line (texts_of ws)) (drop-cons words i d lt)
    ∙ nodes_stop others listed line fault (get_or words i d).now (texts_of (drop (suc i) words)) (sym e)

pub nodes_end_at : (others listed : List ℕ) (line i : ℕ) (words : List (Bor Word)) (whole : OrFault (List ℕ)) → length words ≤ i
    → nodes_from others listed line (texts_of (drop i words)) ≡ whole → whole ≡ Ok listed
nodes_end_at others listed line i words whole le before =
    sym before
    ∙ ap (λ (ws : List (Bor Word)). nodes_from others listed line (texts_of ws)) (drop_all i words le)
    ∙ nodes_end others listed line

-- ---- nodes that are apart

pub neither : (a b : Bool) → a ≡ false → b ≡ false → (a || b) ≡ false
neither a b ea eb = rw (ea, eb) refl

-- one more node
pub apart_more : (others listed new : List ℕ) (node : ℕ) → AreApart others listed → has others node ≡ false
    → has listed node ≡ false → length others + length listed < MOST_SERVERS → new ≡ listed ++ node ∷ []
    → AreApart others new
apart_more others listed new node apart none none_listed room pushed =
    let all = append_assoc others listed (node ∷ []) in
    let absent : has (others ++ listed) node ≡ false =
    list_any-append (λ (j : ℕ). j == node) others listed ∙ neither (has others node) (has listed node) none none_listed in
    let more : AreApart others (listed ++ node ∷ []) = record {
      distinct = subst (IsDistinct nat_eq) all (distinct_push (others ++ listed) node absent apart.distinct);
      few = omega (
        arith,
        room,
        length-append others (listed ++ node ∷ []),
        length-append listed (node ∷ []),
      );
    } in
    subst (AreApart others) (sym pushed) more

-- no nodes are apart
pub none_apart : AreApart [] []
unfolding IsDistinct
none_apart = record { distinct = tt; few = omega arith }
