pub mod Conflicts
pub mod Pairs
pub mod PairSteps
pub mod Statements
