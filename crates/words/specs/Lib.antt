pub mod Word
pub mod Number
pub mod Hexadecimal
pub mod Parts
pub mod Digits
pub mod Written
