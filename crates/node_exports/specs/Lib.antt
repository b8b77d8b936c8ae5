pub mod Answer
pub mod Nodes
pub mod Texts
