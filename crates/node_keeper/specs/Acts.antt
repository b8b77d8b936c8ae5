-- What a node does, and what it wants done afterwards.
use Rattle.std.specs.Prelude.{◌≡◌, ◌<◌, ◌^◌, ◌⊎◌, ℕ, suc, List, ◌++◌, map, None, Some}
use Rattle.std.specs.List.{AllByRecursion}
use Rattle.encoder.specs.Fragment.{fragment}
use Rattle.deeds.specs.CallId.{CallIds, HasRanges, after_given, with_next_epoch, next_given_id}
use Rattle.deeds.specs.Named.{NamedLetter as Named}
use Rattle.recoveries.specs.LoggedIds.{HaveLoggedIds}
use Rattle.recoveries.specs.Records.{LogRecord}
use Rattle.recoveries.specs.Stops.{IsHandledSafely}
use Rattle.node_effects.specs.Seen.{all_seen}
use Rattle.node_effects.specs.Work.{Growth, IsGrown, log_all, no_growth, one_entry}
use Rattle.node_effects.specs.declared.notice.Notice.{Notice}
use Rattle.node_effects.specs.declared.work.Work.{Work}
use Rattle.node_keeper.specs.Fitting.{IsSendable}
use Rattle.node_keeper.specs.Keeping.{kept_of}
use Rattle.node_keeper.specs.Logging.{IsReadBack, log_entry_of, start_entry}
use Rattle.node_keeper.specs.Sendings.{IsDirected, to_itself}
use Rattle.node_keeper.specs.Wants.{Want, left_by, outputs_of, records_in, sends_in}
use Rattle.node_keeper.specs.declared.keeper.Keeper.{Keeper}

-- what is added to a node's work if its log gets these records
abbrev pub logged_growth : (digest : List ℕ) → List LogRecord → Growth
logged_growth digest records = record no_growth { outputs = log_all (map (log_entry_of digest) records) }

-- between the first work and the second, clients saw exactly these notices
abbrev pub ClientsSee : (before after : Work) → List Notice → Type 0
ClientsSee before after notices = after.notices.items ≡ before.notices.items ++ notices

-- a call got its id: the next one of the epoch; or the epoch had none left, and the next epoch began and gave its first
abbrev pub GivesId : (old : CallIds) → (id : ℕ) → (new : CallIds) → (before after : Work) → Type 0
GivesId old id new before after =
    ((next_given_id old ≡ Some id) × (new ≡ after_given old) × IsGrown before after no_growth)
    ⊎ ((suc old.epoch < 2 ^ 24) × (next_given_id (with_next_epoch old) ≡ Some id)
    × (new ≡ after_given (with_next_epoch old)) × IsGrown before after (one_entry start_entry)
    × (next_given_id old ≡ None))

-- The node did deeds with these letters, which had come; `asker` is the node that had asked. Its work grew by the log
-- entries of the records that its log needs, by the letters that it sent, and by what its clients saw. Each letter goes
-- to the node to which it has to go, or, as one of the letters that had come, back to `asker`, or, as a request for the
-- next position, to any node. The entries are read back as these records, and the frames as messages with these
-- letters. Entries and letters stand in such an order that each letter may go out once the log has all entries before
-- it. The entries tell of the ids that the node gave.
pub record Acts (asker : ℕ) (got : List Named) (old : Keeper) (before : Work) (new : Keeper)
    (after : Work) : Type 0 where
  pub wants : List Want
  pub growth : Growth
  pub grown : IsGrown before after growth
  pub outputs : growth.outputs ≡ outputs_of old.ids.node old.digest wants
  pub read : AllByRecursion (IsReadBack old.digest) (records_in wants)
  pub sent : AllByRecursion (IsSendable old.ids.node old.digest) (sends_in wants)
  pub own : growth.own ≡ to_itself old.ids.node (sends_in wants)
  pub addressed : AllByRecursion (IsDirected old.ids.node asker got) (sends_in wants)
  pub ids : HaveLoggedIds old.ids (records_in wants) new.ids
  pub handled : HasRanges old.ids → IsHandledSafely fragment (kept_of old) got (left_by wants) (kept_of new)
      (all_seen growth.notices)
  pub node : new.ids.node ≡ old.ids.node
  pub digest : new.digest ≡ old.digest
