pub mod Arguments
pub mod Command
pub mod FirstWord
pub mod Line
