pub mod Calls
pub mod Moves
pub mod Course
pub mod Seats
pub mod Closing
pub mod Rounds
pub mod Messages
pub mod Orders
