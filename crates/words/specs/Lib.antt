pub mod Bits
pub mod Countdown
pub mod Iter
pub mod Packed
pub mod Regions
pub mod Rounds
pub mod Rows
