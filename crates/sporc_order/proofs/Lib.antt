pub mod Batches
pub mod Longest
pub mod Sizes
pub mod Common
