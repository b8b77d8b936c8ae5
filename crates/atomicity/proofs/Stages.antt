-- What calls find and leave, stage by stage.
pub mod CallFactLemmas
pub mod CarriedTagLemmas
pub mod PhaseFactLemmas
pub mod ReadingFactLemmas
pub mod RisingTagLemmas
pub mod StageFactLemmas
pub mod StoredTagLemmas
