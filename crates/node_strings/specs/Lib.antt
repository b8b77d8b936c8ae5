pub mod Arrival
pub mod Heard
pub mod Laws
pub mod Layouts
pub mod Numbers
pub mod Parts
pub mod Record
pub mod Strings
