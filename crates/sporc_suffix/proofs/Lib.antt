pub mod Composed
pub mod Following
pub mod InOne
pub mod Kept
pub mod Passing
pub mod Common
