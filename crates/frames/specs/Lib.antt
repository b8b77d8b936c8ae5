pub mod Frame
pub mod Reading
pub mod Writing
pub mod Laws
