pub mod Committed
mod Examples
pub mod Parts
pub mod Rosters
pub mod Beginnings
pub mod Common
