pub mod ActLemmas
pub mod AllObjectsLemmas
pub mod ChangedObjectLemmas
pub mod CreationInvariantLemmas
pub mod CreationLemmas
pub mod FoundObjectLemmas
pub mod LookupLemmas
pub mod MoveRefusalLemmas
pub mod ObjectStepLemmas
pub mod PreconditionLemmas
pub mod RequestRoomLemmas
pub mod RunningSumLemmas
pub mod ServedBytesLemmas
pub mod ServedSumLemmas
pub mod ServerTotalLemmas
pub mod StepEffectLemmas
pub mod StepInvariantLemmas
pub mod StepLimitLemmas
pub mod SumBoundLemmas
mod NamedObjectPlaceLemmas
mod ObjectAtPlaceLemmas
mod RetiredSumLemmas
