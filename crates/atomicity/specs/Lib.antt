pub mod Atomic
pub mod Sequence
pub mod Lacking
