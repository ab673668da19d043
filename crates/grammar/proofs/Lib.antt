pub mod Every
mod Rules
pub mod Spelled
pub mod Lists
pub mod Signs
pub mod Derivations
pub mod Trees
pub mod Sizes
pub mod Useful
pub mod Forms
pub mod Clashing
pub mod Reading
pub mod Continuing
pub mod Beginnings
pub mod First
pub mod Rounds
pub mod Nullable
pub mod FirstSets
pub mod Productive
pub mod Named
pub mod NextSymbols
pub mod Reachable
pub mod Useless
pub mod Places
mod Writes
pub mod Pushed
pub mod Tables
mod Filling
pub mod Marks
pub mod Shown
pub mod RowBytes
pub mod Slices
pub mod RuleRows
pub mod Behind
pub mod Picks
pub mod FirstKnown
pub mod Answered
