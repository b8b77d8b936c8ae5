use Rattle.std.proofs.Common.{◌≡◌, ◌∷◌, ◌++◌, [], OnOk, subst}
use Rattle.node_strings.specs.Record.{record_strings}
use Rattle.node_strings.specs.Strings.{Strings}
use Rattle.node_strings.specs.declared.record.Record.TheVariants as record_of
use Rattle.node_keeper.proofs.keeper.Keeper.log_letter.Goals as goal

pub returns-clause-appended : goal.returns-clause-appended
returns-clause-appended c =
    subst (λ (frame : Strings). OnOk c.push_entry.result
    (c.push_entry.new.entries.items ≡ c.args.entries.now.items ++ record_strings (record_of.Serve frame) ∷ []))
    c.in_ok-frame.ensures.made c.push_entry.ensures.pushed
