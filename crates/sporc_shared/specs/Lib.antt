pub mod Items
pub mod Looks
pub mod Calls
pub mod Passes
