pub mod Commands
pub mod Desks
pub mod Nodes
pub mod Laws
pub mod Starts
