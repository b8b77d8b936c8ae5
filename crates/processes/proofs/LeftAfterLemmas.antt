-- What a stop may leave of a log, where less of it is kept than was found, or where it grew.
use Rattle.std.proofs.Common.{◌≡◌, ◌≤◌, inl, inr, ℕ, zero, suc, List, [], ◌∷◌, ◌++◌, length, take, drop, replicate}
use Rattle.std.proofs.Common.{refl, sym, ap, ◌∙◌, append_assoc, append-nil, arith}
use Rattle.std.proofs.lemmas.List.{take-append-drop, take-append-le}
use Rattle.node_log.specs.Entry.{chain_behind, first_chain}
use Rattle.node_strings.specs.Strings.{Strings}
use Rattle.node_store.specs.Laws.{IsLeft}
use Rattle.node_store.specs.Recovery.{log_bytes}
use Rattle.node_store.proofs.GrowthLemmas.{same_rest}
use Rattle.node_store.proofs.LogBytesLemmas.{bytes_then}
use Rattle.processes.proofs.WrittenRoundLemmas.{IsPart, parted}

-- of two fronts of the same bytes, the longer one begins with the other
longer_front : (xs ys now rest : List ℕ) → xs ++ ys ≡ now ++ rest → length xs ≤ length now →
    (more : List ℕ) × (now ≡ xs ++ more)
longer_front [] ys now rest same long = (now, refl)
longer_front (x ∷ xs) ys [] rest same long = absurd (omega arith)
longer_front (x ∷ xs) ys (y ∷ now) rest same long =
    let more = longer_front xs ys now rest (cc) (omega arith) in
    (more.0, ap (λ (t : List ℕ). y ∷ t) more.1 ∙ ap (λ (h : ℕ). h ∷ (xs ++ more.0)) (sym first))
  where
    first : x ≡ y
    first = cc

zeros_front : (count : ℕ) (more rest : List ℕ) → replicate count 0 ≡ more ++ rest →
    (zeros : ℕ) × (more ≡ replicate zeros 0)
zeros_front count [] rest same = (0, refl)
zeros_front zero (x ∷ more) rest same = absurd (cc)
zeros_front (suc count) (x ∷ more) rest same =
    let zeros = zeros_front count more rest (cc) in
    (suc zeros.0, ap (λ (t : List ℕ). x ∷ t) zeros.1 ∙ ap (λ (h : ℕ). h ∷ replicate zeros.0 0) (sym first))
  where
    first : 0 ≡ x
    first = cc

-- A front of what a stop may leave is such, too, if it has the bytes of the synced entries.
pub left_front : (log : List Strings) (synced : ℕ) (disk now rest : List ℕ) → IsLeft log synced disk → disk ≡ now ++ rest →
    length (log_bytes first_chain (take synced log)) ≤ length now → IsLeft log synced now
left_front log synced disk now rest left cut long =
    go (parted now rest left.front zeros (sym cut ∙ left.disk_is))
  where
    least : List ℕ
    least = log_bytes first_chain (take synced log)

    zeros : List ℕ
    zeros = replicate left.zeros 0

    go : IsPart now rest left.front zeros → IsLeft log synced now
    go (inl (more, front_is, zeros_are)) =
        let has = longer_front least left.more now more (sym left.kept ∙ front_is) long in record {
          front = now;
          more = has.0;
          lost = more ++ left.lost;
          zeros = 0;
          kept = has.1;
          all = left.all ∙ ap (λ (t : List ℕ). t ++ left.lost) front_is ∙ append_assoc now more left.lost;
          disk_is = sym (append-nil now);
        }
    go (inr (more, now_is)) =
        let behind : zeros ≡ more ++ rest =
        same_rest left.front zeros (more ++ rest)
        (sym left.disk_is ∙ cut ∙ ap (λ (t : List ℕ). t ++ rest) now_is ∙ append_assoc left.front more rest) in
        let some = zeros_front left.zeros more rest behind in record {
          front = left.front;
          more = left.more;
          lost = left.lost;
          zeros = some.0;
          kept = left.kept;
          all = left.all;
          disk_is = now_is ∙ ap (λ (t : List ℕ). left.front ++ t) some.1;
        }

-- at least the bytes of the synced entries are there
pub left_least : (log : List Strings) (synced : ℕ) (disk : List ℕ) → IsLeft log synced disk →
    (rest : List ℕ) × (disk ≡ log_bytes first_chain (take synced log) ++ rest)
left_least log synced disk left = (
  left.more ++ replicate left.zeros 0,
  left.disk_is ∙ ap (λ (t : List ℕ). t ++ replicate left.zeros 0) left.kept
      ∙ append_assoc (log_bytes first_chain (take synced log)) left.more (replicate left.zeros 0),
)

-- So may the bytes of first entries be left, at least of the synced ones, and some first bytes of the others.
pub left_grown : (read more : List Strings) (synced : ℕ) (added back : List ℕ) → synced ≤ length read →
    log_bytes (chain_behind first_chain read) more ≡ added ++ back →
    IsLeft (read ++ more) synced (log_bytes first_chain read ++ added)
left_grown read more synced added back within same =
    let kept = take synced read in
    let others = log_bytes (chain_behind first_chain kept) (drop synced read) in
    let read_is : log_bytes first_chain read ≡ log_bytes first_chain kept ++ others =
    ap (log_bytes first_chain) (sym (take-append-drop synced read)) ∙ bytes_then first_chain kept (drop synced read) in
    let front = log_bytes first_chain read ++ added in record {
      front = front;
      more = others ++ added;
      lost = back;
      zeros = 0;
      kept = ap (λ (t : List ℕ). t ++ added) read_is ∙ append_assoc (log_bytes first_chain kept) others added
          ∙ ap (λ (es : List Strings). log_bytes first_chain es ++ (others ++ added))
          (sym (take-append-le synced read more within));
      all = bytes_then first_chain read more ∙ ap (λ (t : List ℕ). log_bytes first_chain read ++ t) same
          ∙ sym (append_assoc (log_bytes first_chain read) added back);
      disk_is = sym (append-nil front);
    }
