-- What is known of all that has passed on the connections of a process's clients.
use Rattle.std.proofs.Common.{◌≡◌, ◌⊎◌, inl, inr, ◌<◌, ◌+◌, ℕ, List, [], ◌∷◌, ◌++◌, length, Some, slice_get}
use Rattle.std.proofs.Common.{refl, sym, subst, ap, ◌∙◌, arith}
use Rattle.std.proofs.lemmas.List.{length-append}
use Rattle.cluster_file.specs.File.{FileContents}
use Rattle.deeds.specs.CallId.{CallIds}
use Rattle.deeds.specs.Deeds.{Notice}
use Rattle.node_strings.specs.Strings.{Strings}
use Rattle.recoveries.specs.OwnCalls.{WasGiven}
use Rattle.refinement.proofs.PlaceLemmas.{get_first, get_split}
use Rattle.processes.specs.Answers.{Passed, answers_to, passed_at}
use Rattle.processes.specs.Events.{call_begun as id_begun}
use Rattle.processes.specs.Processes.{WaitingAnswers}
use Rattle.processes.proofs.CommandViewLemmas.{AreReplied, IsReplied, View, Widens, replies_wider, reply_wider}
use Rattle.processes.proofs.GivenIdLemmas.{BeginsAt}
use Rattle.processes.proofs.StandingLemmas.{IsAmong, among_first, among_second}
use Rattle.processes.proofs.RepliesInOrderLemmas.{replied_more}

-- what clients were told before a time, at a place of what they saw
abbrev pub WereTold : (seen : List Notice) → (time : ℕ) → (told : List Notice) → Type 0
WereTold seen time told =
    (notice : Notice) → IsAmong told notice → (place : ℕ) × (slice_get seen place ≡ Some notice) × (place < time)

-- what is told behind these notices by answers that wait
abbrev pub all_told : List Notice → List WaitingAnswers → List Notice
all_told told [] = told
all_told told (first ∷ rest) = all_told (told ++ first.told) rest

-- Lists of what is told

pub among_both : (xs ys more : List Notice) → ((notice : Notice) → IsAmong xs notice → IsAmong ys notice) → (notice : Notice) →
    IsAmong (xs ++ more) notice → IsAmong (ys ++ more) notice
among_both xs ys more among notice is = go (get_split xs more is.0 notice is.1)
  where
    go : (slice_get xs is.0 ≡ Some notice) ⊎ ((k : ℕ) × (is.0 ≡ length xs + k) × (slice_get more k ≡ Some notice)) →
        IsAmong (ys ++ more) notice
    go (inl at) = among_first ys more notice (among notice (is.0, at))
    go (inr at) = among_second ys more notice (at.0, at.2)

pub all_wider : (told now : List Notice) → ((notice : Notice) → IsAmong told notice → IsAmong now notice) →
    (answers : List WaitingAnswers) → (notice : Notice) → IsAmong (all_told told answers) notice → IsAmong (all_told now answers) notice
all_wider told now among [] = among
all_wider told now among (first ∷ rest) =
    all_wider (told ++ first.told) (now ++ first.told) (among_both told now first.told among) rest

pub all_pushed : (told : List Notice) (answers : List WaitingAnswers) (last : WaitingAnswers) →
    all_told told (answers ++ last ∷ []) ≡ all_told told answers ++ last.told
all_pushed told [] last = refl
all_pushed told (first ∷ rest) last = all_pushed (told ++ first.told) rest last

-- Written and waiting answers

module _ (number client : ℕ) (file : FileContents) where
  abbrev view_of : List Notice → List Notice → CallIds → View
  view_of seen told ids = record { seen = seen; told = told; ids = ids }

  -- the answers that were written are those to the first commands, and these commands are left
  abbrev pub WereWritten : (seen : List Notice) → CallIds → (answers commands left : List Passed) → Type 0
  WereWritten seen ids [] commands left = commands ≡ left
  WereWritten seen ids (written ∷ answers) [] left = ⊥
  WereWritten seen ids (written ∷ answers) (command ∷ commands) left =
      (told : List Notice) × WereTold seen written.time told
      × IsReplied number client file (record { seen = seen; told = told; ids = ids }) command written.strings
      × WereWritten seen ids answers commands left

  -- the answers that wait are those to the next commands, and these commands are left
  abbrev pub AreWaiting : (seen : List Notice) → CallIds → (told : List Notice) → List WaitingAnswers →
      (commands left : List Passed) → Type 0
  AreWaiting seen ids told [] commands left = commands ≡ left
  AreWaiting seen ids told (first ∷ rest) commands left =
      (middle : List Passed)
      × AreReplied number client file (record { seen = seen; told = told ++ first.told; ids = ids }) (answers_to client first.frames)
      commands middle × AreWaiting seen ids (told ++ first.told) rest middle left

  -- What stays

  module _ (seen more : List Notice) (ids later : CallIds) (given : (id : ℕ) → WasGiven ids id → WasGiven later id)
      (fresh : (place id : ℕ) → BeginsAt more place id → WasGiven ids id → ⊥) where
    -- more was seen, and as much was told or more
    pub view_wider : (told now : List Notice) → ((notice : Notice) → IsAmong told notice → IsAmong now notice) →
        Widens (view_of seen told ids) (view_of (seen ++ more) now later)
    view_wider told now among = record {
      longer = let e = length-append seen more in omega arith;
      at = λ place notice e. get_first seen more place notice e;
      fresh = λ place id notice e begins was. go place id notice begins was (get_split seen more place notice e);
      among = among;
      given = given;
    }
      where
        go : (place id : ℕ) (notice : Notice) → id_begun notice ≡ Some id → WasGiven ids id →
            (slice_get seen place ≡ Some notice) ⊎ ((k : ℕ) × (place ≡ length seen + k) × (slice_get more k ≡ Some notice)) →
            slice_get seen place ≡ Some notice
        go place id notice begins was (inl is) = is
        go place id notice begins was (inr is) = absurd (fresh is.0 id (notice, is.2, begins) was)

    pub written_wider : (answers commands left : List Passed) → WereWritten seen ids answers commands left →
        WereWritten (seen ++ more) later answers commands left
    written_wider [] commands left same = same
    written_wider (written ∷ answers) [] left is = absurd is
    written_wider (written ∷ answers) (command ∷ commands) left is = (
      is.0,
      λ notice among. (let there = is.1 notice among in (there.0, get_first seen more there.0 notice there.1, there.2)),
      reply_wider (view_of seen is.0 ids) (view_of (seen ++ more) is.0 later) (view_wider is.0 is.0 (λ notice among. among))
          number client file command written.strings is.2,
      written_wider answers commands left is.3,
    )

    pub waiting_wider : (told now : List Notice) → ((notice : Notice) → IsAmong told notice → IsAmong now notice) →
        (answers : List WaitingAnswers) (commands left : List Passed) → AreWaiting seen ids told answers commands left →
        AreWaiting (seen ++ more) later now answers commands left
    waiting_wider told now among [] commands left same = same
    waiting_wider told now among (first ∷ rest) commands left is =
        let both = among_both told now first.told among in (
          is.0,
          replies_wider (view_of seen (told ++ first.told) ids) (view_of (seen ++ more) (now ++ first.told) later)
              (view_wider (told ++ first.told) (now ++ first.told) both) number client file (answers_to client first.frames) commands
              is.0 is.1,
          waiting_wider (told ++ first.told) (now ++ first.told) both rest is.0 left is.2,
        )

  -- Commands that came in later are left

  pub written_more : (seen : List Notice) (ids : CallIds) (answers commands left more : List Passed) →
      WereWritten seen ids answers commands left → WereWritten seen ids answers (commands ++ more) (left ++ more)
  written_more seen ids [] commands left more same = ap (λ cs. cs ++ more) same
  written_more seen ids (written ∷ answers) [] left more is = absurd is
  written_more seen ids (written ∷ answers) (command ∷ commands) left more is =
      (is.0, is.1, is.2, written_more seen ids answers commands left more is.3)

  pub waiting_more : (seen : List Notice) (ids : CallIds) (told : List Notice) (answers : List WaitingAnswers)
      (commands left more : List Passed) → AreWaiting seen ids told answers commands left →
      AreWaiting seen ids told answers (commands ++ more) (left ++ more)
  waiting_more seen ids told [] commands left more same = ap (λ cs. cs ++ more) same
  waiting_more seen ids told (first ∷ rest) commands left more is = (
    is.0 ++ more,
    replied_more number client file (view_of seen (told ++ first.told) ids) (answers_to client first.frames) commands is.0 more is.1,
    waiting_more seen ids (told ++ first.told) rest is.0 left more is.2,
  )

  -- Answers behind others

  -- answers are written: those to the next commands
  pub written_then : (seen : List Notice) (ids : CallIds) (told : List Notice) (time : ℕ) → WereTold seen time told →
      (answers : List Passed) (now : List Strings) (commands middle left : List Passed) →
      WereWritten seen ids answers commands middle →
      AreReplied number client file (record { seen = seen; told = told; ids = ids }) now middle left →
      WereWritten seen ids (answers ++ passed_at time now) commands left
  written_then seen ids told time were [] [] commands middle left same replied = same ∙ replied
  written_then seen ids told time were [] (strings ∷ now) commands [] left same replied = absurd replied
  written_then seen ids told time were [] (strings ∷ now) commands (command ∷ middle) left same replied =
      subst (λ cs. WereWritten seen ids (passed_at time (strings ∷ now)) cs left) (sym same)
      (told, were, replied.0, written_then seen ids told time were [] now middle middle left refl replied.1)
  written_then seen ids told time were (written ∷ answers) now [] middle left is replied = absurd is
  written_then seen ids told time were (written ∷ answers) now (command ∷ commands) middle left is replied =
      (is.0, is.1, is.2, written_then seen ids told time were answers now commands middle left is.3 replied)

  -- answers wait behind all others
  pub waiting_then : (seen : List Notice) (ids : CallIds) (told : List Notice) (answers : List WaitingAnswers) (last : WaitingAnswers)
      (commands middle left : List Passed) → AreWaiting seen ids told answers commands middle →
      AreReplied number client file (record { seen = seen; told = all_told told answers ++ last.told; ids = ids })
      (answers_to client last.frames) middle left → AreWaiting seen ids told (answers ++ last ∷ []) commands left
  waiting_then seen ids told [] last commands middle left same replied = (
    left,
    subst (λ cs. AreReplied number client file (view_of seen (told ++ last.told) ids) (answers_to client last.frames) cs left)
        (sym same) replied,
    refl,
  )
  waiting_then seen ids told (first ∷ rest) last commands middle left is replied =
      (is.0, is.1, waiting_then seen ids (told ++ first.told) rest last is.0 middle left is.2 replied)
