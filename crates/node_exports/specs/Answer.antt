-- The contracts that docs/trusted.md lists do not depend on this file; other contracts and proofs do.
-- The numbers that the calls answer.
use Rattle.std.specs.Prelude.{ℕ, Option, None, Some}
use Rattle.cluster_file.specs.declared.error.FileError.TheVariants as files
use Rattle.node_effects.specs.declared.error.NodeError.{NodeError}
use Rattle.node_effects.specs.declared.error.NodeError.TheVariants as nodes
use Rattle.node_effects.specs.declared.error.RecoveryError.TheVariants as recoveries
use Rattle.node_effects.specs.declared.report.Report.{Report}
use Rattle.node_store.specs.declared.error.StoreError.{StoreError}
use Rattle.node_store.specs.declared.error.StoreFault.{StoreFault}
use Rattle.node_store.specs.declared.error.StoreFault.TheVariants as faults
use Rattle.node_store.specs.declared.stop.ServeError.TheVariants as serves
use Rattle.node_core.specs.declared.error.CoreError.{CoreError}
use Rattle.node_core.specs.declared.error.CoreError.TheVariants as errors

-- the number of an error of a node
abbrev pub number_of_node : NodeError → ℕ
number_of_node nodes.NoMemory = 1
number_of_node nodes.NoMoreIds = 6
number_of_node _ = 9

-- the number of what is wrong with a log
abbrev pub number_of_fault : StoreFault → ℕ
number_of_fault faults.NoMemory = 1
number_of_fault (faults.NotCarriedOut (recoveries.Stopped error)) = number_of_node error
number_of_fault _ = 5

-- the number of an error of a log
abbrev pub number_of_log : StoreError → ℕ
number_of_log error = number_of_fault error.fault

-- the number of an error
abbrev pub number_of : CoreError → ℕ
number_of errors.NoMemory = 1
number_of (errors.BadFile files.NoMemory) = 1
number_of (errors.BadFile (files.Fault fault)) = 2
number_of (errors.NoNode number) = 3
number_of errors.OldForm = 4
number_of (errors.BadLog error) = number_of_log error
number_of (errors.Refused error) = number_of_node error
number_of (errors.Ended (serves.NoFrame fault)) = 7
number_of (errors.Ended (serves.Stopped error)) = number_of_node error
number_of (errors.Ended _) = 9
number_of errors.Stopped = 8

-- where an error lies: in a line of the cluster file, or behind so many bytes of the log; and otherwise 0
abbrev pub detail_of : CoreError → ℕ
detail_of (errors.BadFile (files.Fault fault)) = fault.line
detail_of (errors.BadLog error) = error.at
detail_of _ = 0

-- the number of the node that has another cluster file, or 256 if there is nothing to report
abbrev pub other_of : Option Report → ℕ
other_of None = 256
other_of (Some report) = report.node
