pub mod Places
pub mod Isolated
pub mod Passes
pub mod Sessions
pub mod Columns
pub mod Opening
pub mod Binding
pub mod Ending
pub mod Crowding
pub mod Served
mod Examples
pub mod Common
