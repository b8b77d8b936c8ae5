-- A start of the program, put together from what its functions do.
use Rattle.std.proofs.Common.{◌≡◌, ◌≤◌, ◌+◌, ◌-◌, ◌^◌, ℕ, List, length, min, take, Option, None, Some, Ok, Err}
use Rattle.std.proofs.Common.{refl, sym, subst, ap, ◌∙◌, arith, length-append}
use Rattle.std.proofs.lemmas.List.{length-take-le}
use Rattle.std.specs.Io.KnownBytes.{Appends, Keeps}
use Rattle.deeds.specs.Kept.{FileOfNames}
use Rattle.node.specs.Recovering.{CarriesOutEntry}
use Rattle.node.specs.Starts.{start_entries}
use Rattle.node.specs.declared.node.Node.{Node}
use Rattle.node_log.specs.Entry.{first_chain}
use Rattle.node_log.specs.Reading.{HadLeft, IsEnd}
use Rattle.node_store.specs.Disk.{IsFrontOf}
use Rattle.node_store.specs.Recovery.{BeginsWith, HasRecovered, StopsFor, log_bytes}
use Rattle.node_store.specs.declared.end.LogEnd.{LogEnd}
use Rattle.node_store.specs.declared.error.StoreError.{StoreError}
use Rattle.node_strings.specs.Strings.{Strings}
use Rattle.processes.specs.Programs.{IsNewAndIdle, IsPerhapsRewritten, IsRewrittenIf}
use Rattle.casd.specs.Opening.{HasBegun, HasStarted, IsCountOf}
use Rattle.casd.proofs.CutLemmas.{Known}
use Rattle.casd.proofs.FormLemmas.{HasNoOldForm}

-- what was carried out again is what the log has, where the reader has the same
had_kept : (P : List ℕ → Type 0) (a b : Known) → Keeps a b → HadLeft P b → HadLeft P a
had_kept P None b keeps had = tt
had_kept P (Some xs) None keeps had = absurd keeps
had_kept P (Some xs) (Some ys) keeps had = subst P keeps had

pub recovered_kept : (a b : Known) (old new : Node) (end : LogEnd) → Keeps a b →
    HasRecovered CarriesOutEntry old new b (Ok end) → HasRecovered CarriesOutEntry old new a (Ok end)
recovered_kept a b old new end keeps (entries, (all, folds, long, had), chained) = (
  entries,
  (all, folds, long, had_kept (BeginsWith first_chain entries IsEnd) a b keeps had),
  chained,
)

pub damage_kept : (a b : Known) (old new : Node) (error : StoreError) → Keeps a b →
    HasRecovered CarriesOutEntry old new b (Err error) → HasRecovered CarriesOutEntry old new a (Err error)
damage_kept a b old new error keeps (entries, between, (all, folds, long, had)) = (
  entries,
  between,
  (all, folds, long, had_kept (BeginsWith first_chain entries (StopsFor error.at error.fault)) a b keeps had),
)

-- How many bytes the log has

-- the entries have no more bytes than the log
pub within_log : (new copy : Node) (disk : List ℕ) (end : LogEnd) →
    HasRecovered CarriesOutEntry new copy (Some disk) (Ok end) → end.length ≤ length disk
within_log new copy disk end (entries, (all, folds, long, (rest, begins, ends)), chained) =
    let lengths = ap length begins ∙ length-append (log_bytes first_chain entries) rest in omega arith

-- these bytes are known, and are so many
abbrev AreSoMany : Known → (count : ℕ) → Type 0
AreSoMany known count = (bytes : List ℕ) × (known ≡ Some bytes) × (length bytes ≡ count)

-- the log that was cut, and perhaps written anew, has as many bytes as its end says
renewed_count : (anew : Option (List Strings)) (disk : List ℕ) (end later : LogEnd) (kept : Known) → end.length ≤ length disk →
    IsRewrittenIf anew (Some (take end.length disk)) end kept later → AreSoMany kept later.length
renewed_count None disk end later kept few (same, here) = (
  take end.length disk,
  same,
  subst (λ (e : LogEnd). length (take end.length disk) ≡ e.length) (sym here) (length-take-le end.length disk few),
)
renewed_count (Some entries) disk end later kept few (becomes, ends) = (log_bytes first_chain entries, becomes, sym ends.long)

-- and so does the log that got more bytes
begun_count : (kept keeps : Known) (more : List ℕ) (count last : ℕ) → AreSoMany kept count → Appends kept keeps more →
    last ≡ min (count + length more) (2 ^ 64 - 1) → IsCountOf keeps last
begun_count None keeps more count last (bytes, is, long) appends sum = absurd (cc)
begun_count (Some xs) None more count last many appends sum = absurd appends
begun_count (Some xs) (Some ys) more count last (bytes, is, long) appends sum =
    let same : xs ≡ bytes = cc in
    let longs = ap length same in
    let lengths = ap length appends ∙ length-append xs more in
    let all : count + length more ≡ length ys = omega arith in
    (ys, refl, sum ∙ ap (λ (n : ℕ). min n (2 ^ 64 - 1)) all)

-- what the functions of a start did is a start
pub started : (names : FileOfNames) (number : ℕ) (found : Known) (new copy node : Node) (end later last : LogEnd)
    (cut kept keeps : Known) → HasNoOldForm found → IsNewAndIdle names number new →
    HasRecovered CarriesOutEntry new copy found (Ok end) → IsFrontOf end.length found cut →
    IsPerhapsRewritten copy cut end kept later → HasBegun copy node later kept keeps (Ok last) →
    HasStarted names number found node last keeps
started names number None new copy node end later last cut kept keeps form is_new recovered front renewed (begun, sum) = record {
  new = new;
  copy = copy;
  entries = recovered.0;
  is_new = is_new;
  whole = recovered.1.0;
  carried = recovered.1.1;
  named = begun.named;
  started = begun.started;
  desk = begun.desk;
}
started names number (Some disk) new copy node end later last cut kept keeps form is_new recovered front renewed (begun, sum) =
    let rewritten = subst (λ (old : Known). IsRewrittenIf renewed.0 old end kept later) front renewed.2 in (
      form,
      record {
        new = new;
        copy = copy;
        end = end;
        then = later;
        anew = renewed.0;
        kept = kept;
        is_new = is_new;
        recovered = recovered;
        renewed = renewed.1;
        rewritten = rewritten;
        named = begun.named;
        started = begun.started;
        desk = begun.desk;
        appended = begun.appended;
        chained = begun.chained;
      },
      begun_count kept keeps (log_bytes later.chain.state (start_entries copy)) later.length last.length
          (renewed_count renewed.0 disk end later kept (within_log new copy disk end recovered) rewritten) begun.appended sum,
    )
