pub mod Items
pub mod First
pub mod Sets
pub mod Statements
pub mod Actions
pub mod Code
pub mod Behind
