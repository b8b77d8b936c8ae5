pub mod Basis
