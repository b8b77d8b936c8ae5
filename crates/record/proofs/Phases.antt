-- The order of phases, as a table of stages and as a shape.
pub mod AfterQueryLemmas
pub mod AttemptLemmas
pub mod CourseAndPathLemmas
pub mod GivenUpAttemptLemmas
pub mod PastFetchLemmas
pub mod PathToEndLemmas
pub mod PhasePathLemmas
pub mod PhasePrefixLemmas
pub mod PositionOrderLemmas
pub mod QueryPathLemmas
pub mod ReadingPathLemmas
pub mod RepeatedReadingLemmas
pub mod WholeCallLemmas
pub mod WholeMoveLemmas
