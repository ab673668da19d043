pub mod Pairs
pub mod Shown
pub mod Found
pub mod Enough
pub mod PairWords
pub mod PairPlaces
pub mod PairMeaning
pub mod PairSound
pub mod PairFixpoint
pub mod PairComplete
pub mod Finder
mod Scanning
