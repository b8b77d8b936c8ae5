pub mod Tasks
pub mod Embedding
pub mod Owned
