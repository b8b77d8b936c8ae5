pub mod Crc32c
pub mod Entry
pub mod Folding
pub mod Laws
pub mod Parts
pub mod Reading
pub mod Tally
