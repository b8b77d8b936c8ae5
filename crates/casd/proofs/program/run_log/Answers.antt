use Rattle.std.proofs.Common.{refl}
use Rattle.node_keeper.specs.Keeping.{names_of}
use Rattle.casd.proofs.program.run_log.Goals as goal

pub returns-clause-runs : goal.returns-clause-runs
returns-clause-runs g c = λ lawful. (
  c.start_and_serve.new.node,
  c.start_and_serve.ensures.runs (names_of c.args.file) c.args.number
      (record {
        new = record {
          file = c.args.file;
          lawful = lawful;
          same = refl;
          kept = c.new-node.ensures.kept;
          calls = c.new-node.ensures.calls;
        };
        idle = c.new-node.ensures.waits;
      }),
)
