pub mod HeldTagLemmas
pub mod MadePhaseLemmas
pub mod MemberMeetingLemmas
pub mod ToldCallLemmas
pub mod ToldEntryLemmas
pub mod ToldValueLemmas
pub mod WriteTagLemmas
