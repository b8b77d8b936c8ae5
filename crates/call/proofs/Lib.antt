pub mod MemberListLemmas
mod MoveStageLemmas
mod ReadingPathLemmas
