pub mod Lists
pub mod Logs
pub mod Views
pub mod Turns
pub mod Passes
pub mod Extending
mod Examples
pub mod Common
