pub mod Uses
pub mod Ranges
pub mod Needs
pub mod Performing
pub mod Outcome
pub mod Plays
pub mod LeafFiles
