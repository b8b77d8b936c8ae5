pub mod NameLemmas
pub mod DeedListLemmas
pub mod KnownLetterLemmas
pub mod IdLemmas
pub mod UsedIdLemmas
pub mod OneNameLemmas
pub mod HandledLemmas
pub mod MethodLemmas
