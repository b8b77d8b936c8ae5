-- Records carried out again: from or to a node that keeps the same, and two lists of records in a row.
use Rattle.std.proofs.Common.{ℕ, suc, ◌<◌, ◌^◌, cond, List, [], ◌∷◌, sym, subst, ap, ap₂, ◌∙◌}
use Rattle.deeds.specs.CallId.{CallIds}
use Rattle.local_object.specs.Doing.{IsOutcome, close_events, is_taken, serve_events}
use Rattle.local_object.specs.Events.{LocalEvent}
use Rattle.local_object.specs.Local.{LocalObject, with_heard}
use Rattle.local_object.specs.Replies.{IsReplyOutcome}
use Rattle.deeds.specs.Kept.{KeptNode}
use Rattle.deeds.specs.Named.{is_same_name}
use Rattle.recoveries.specs.Laws.{TwoAreRecovered}
use Rattle.recoveries.specs.Records.{IsNamedOutcome, IsKeptUnder, IsSame, LogRecord, Recovers, RecoversOne}
use Rattle.recoveries.proofs.LoggedLemmas.{begun_within}
use Rattle.recoveries.proofs.NodeCopyLemmas.{same_then}

module _ (a b c : KeptNode) (same : IsSame a b) where
  put_from : (name : List ℕ) (local : LocalObject) → IsKeptUnder b name local c → IsKeptUnder a name local c
  put_from name local put = record {
    file = put.file ∙ same.file;
    node = put.node ∙ same.node;
    epoch = put.epoch ∙ same.epoch;
    objects = λ q. put.objects q ∙ ap (λ l. cond (is_same_name name q) local l) (same.objects q);
  }

  done_from : (name : List ℕ) (events : LocalObject → List LocalEvent) → IsNamedOutcome b name (events (b.objects name)) c →
      IsNamedOutcome a name (events (a.objects name)) c
  done_from name events done = record {
    local = done.local;
    sent = done.sent;
    done = subst (λ l. IsOutcome l (events l) done.local done.sent) (same.objects name) done.done;
    put = put_from name done.local done.put;
  }

  -- a record is carried out again by a node that keeps the same
  one_from : (one : LogRecord) → RecoversOne one b c → RecoversOne one a c
  one_from LogRecord.Starts started =
      let more : suc a.ids.epoch < 2 ^ 24 = subst (λ e. suc e < 2 ^ 24) same.epoch started.more in record {
        file = started.file ∙ same.file;
        more = more;
        ids = started.ids ∙ begun_within b.ids started.more
            ∙ ap₂ (λ n e. let ids : CallIds = record { node = n; epoch = suc e; given = 0 } in ids) same.node same.epoch
            ∙ sym (begun_within a.ids more);
        objects = λ name. started.objects name ∙ same.objects name;
      }
  one_from (LogRecord.Serves name letter) done = done_from name (λ local. serve_events local letter) done
  one_from (LogRecord.Moves name id layout) done = done_from name (λ local. LocalEvent.BeginMove id layout ∷ []) done
  one_from (LogRecord.Closes name position) done = done_from name (λ local. close_events local position) done
  one_from (LogRecord.Hears name position layout) heard = record {
    lawful = heard.lawful;
    put = put_from name (with_heard (a.objects name) position layout)
        (subst (λ (l : LocalObject). IsKeptUnder b name (with_heard l position layout) c) (same.objects name) heard.put);
  }
  one_from (LogRecord.Takes name letter) taken = record {
    local = taken.local;
    sent = taken.sent;
    ended = taken.ended;
    taken = subst (λ l. IsReplyOutcome (is_taken l letter) l letter taken.local taken.sent taken.ended) (same.objects name) taken.taken;
    put = put_from name taken.local taken.put;
  }

-- and so are some records
pub recovers_from : (records : List LogRecord) (a b c : KeptNode) → IsSame a b → Recovers records b c → Recovers records a c
recovers_from [] a b c same recovers = same_then a b c same recovers
recovers_from (one ∷ records) a b c same recovers =
    (recovers.0, one_from a b recovers.0 same one recovers.1, recovers.2)

pub two_recovered : TwoAreRecovered
two_recovered old middle new [] second one other = recovers_from second old middle new one other
two_recovered old middle new (r ∷ first) second one other =
    (one.0, one.1, two_recovered one.0 middle new first second one.2 other)
