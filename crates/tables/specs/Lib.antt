pub mod Sets
pub mod ByTable
pub mod TableDrive
pub mod Making
pub mod Statements
pub mod Smallest
