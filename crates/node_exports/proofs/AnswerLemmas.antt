-- No error has the number 0.
use Rattle.std.proofs.Common.{◌≡◌, arith}
use Rattle.cluster_file.specs.declared.error.FileError.TheVariants as files
use Rattle.node_effects.specs.declared.error.NodeError.{NodeError}
use Rattle.node_effects.specs.declared.error.NodeError.TheVariants as nodes
use Rattle.node_effects.specs.declared.error.RecoveryError.TheVariants as recoveries
use Rattle.node_store.specs.declared.error.StoreFault.{StoreFault}
use Rattle.node_store.specs.declared.error.StoreFault.TheVariants as faults
use Rattle.node_store.specs.declared.stop.ServeError.TheVariants as serves
use Rattle.node_core.specs.declared.error.CoreError.{CoreError}
use Rattle.node_core.specs.declared.error.CoreError.TheVariants as errors
use Rattle.node_exports.specs.Answer.{number_of, number_of_fault, number_of_node}

node_not_done : (error : NodeError) → number_of_node error ≡ 0 → ⊥
node_not_done nodes.NoMemory e = omega (arith, e)
node_not_done nodes.NoMoreIds e = omega (arith, e)
node_not_done nodes.Unwritable e = omega (arith, e)
node_not_done (nodes.Refused r) e = omega (arith, e)

fault_not_done : (fault : StoreFault) → number_of_fault fault ≡ 0 → ⊥
fault_not_done faults.NoMemory e = omega (arith, e)
fault_not_done faults.TooLong e = omega (arith, e)
fault_not_done (faults.Damaged d) e = omega (arith, e)
fault_not_done (faults.Failed f) e = omega (arith, e)
fault_not_done (faults.NotCarriedOut recoveries.NoCluster) e = omega (arith, e)
fault_not_done (faults.NotCarriedOut (recoveries.OtherCluster d)) e = omega (arith, e)
fault_not_done (faults.NotCarriedOut (recoveries.OtherNode n)) e = omega (arith, e)
fault_not_done (faults.NotCarriedOut recoveries.NoEntry) e = omega (arith, e)
fault_not_done (faults.NotCarriedOut (recoveries.Stopped error)) e = node_not_done error e

pub not_done : (error : CoreError) → number_of error ≡ 0 → ⊥
not_done errors.NoMemory e = omega (arith, e)
not_done (errors.BadFile files.NoMemory) e = omega (arith, e)
not_done (errors.BadFile (files.Fault fault)) e = omega (arith, e)
not_done (errors.NoNode number) e = omega (arith, e)
not_done errors.OldForm e = omega (arith, e)
not_done (errors.BadLog error) e = fault_not_done error.fault e
not_done (errors.Refused error) e = node_not_done error e
not_done (errors.Ended (serves.NoFrame fault)) e = omega (arith, e)
not_done (errors.Ended (serves.NoInput error)) e = omega (arith, e)
not_done (errors.Ended (serves.LogLost error)) e = omega (arith, e)
not_done (errors.Ended (serves.OutputLost error)) e = omega (arith, e)
not_done (errors.Ended (serves.Stopped error)) e = node_not_done error e
not_done errors.Stopped e = omega (arith, e)
