pub mod Layout
pub mod MemberSet
pub mod Quorum
