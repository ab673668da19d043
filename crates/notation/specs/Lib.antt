pub mod Kinds
pub mod Lookups
pub mod Said
