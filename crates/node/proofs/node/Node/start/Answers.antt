use Rattle.std.proofs.Common.{rules, ◌∙◌, ap, subst}
use Rattle.recoveries.specs.Records.{IsStarted}
use Rattle.node_keeper.specs.Keeping.{kept_of}
use Rattle.node_keeper.specs.declared.keeper.Keeper.{Keeper}
use Rattle.node.proofs.StartLemmas.{started_of, starts}
use Rattle.node.proofs.node.Node.start.Goals as goal

pub into_entries-requires : goal.into_entries-requires
into_entries-requires c =
    let old = c.args.self.now in
    (starts old.is_named old.keeper.digest old.keeper.ids.node c.new-work.result c.name_log.new.work
    c.begin_epoch.new.work c.new-work.ensures c.in_ok-name_log.ensures.grown c.in_ok-begin_epoch.ensures.entry).only

pub returns : goal.returns
returns c =
    let old = c.args.self.now in
    let done = starts old.is_named old.keeper.digest old.keeper.ids.node c.new-work.result c.name_log.new.work
    c.begin_epoch.new.work c.new-work.ensures c.in_ok-name_log.ensures.grown c.in_ok-begin_epoch.ensures.entry in record {
      started = subst (λ k. IsStarted (kept_of k) (kept_of c.begin_epoch.new.self)) c.name_log.ensures.keeper
          (started_of c.name_log.new.self.keeper c.begin_epoch.new.self c.in_ok-begin_epoch.ensures.more
          c.in_ok-begin_epoch.ensures.ids c.in_ok-begin_epoch.ensures.objects c.in_ok-begin_epoch.ensures.file);
      entries = c.in_ok-entries.ensures.entries ∙ done.entries;
      named = c.in_ok-name_log.ensures.named;
      cluster = record {
        file = c.in_ok-begin_epoch.ensures.file ∙ ap (λ (k : Keeper). k.file) c.name_log.ensures.keeper;
        digest = (c.in_ok-begin_epoch.ensures.acts 0).digest ∙ ap (λ (k : Keeper). k.digest) c.name_log.ensures.keeper;
      };
      desk = c.name_log.ensures.desk;
      refused = tt;
    }

pub returns-in_err-name_log-clause-started : goal.returns-in_err-name_log-clause-started
returns-in_err-name_log-clause-started c = search rules
