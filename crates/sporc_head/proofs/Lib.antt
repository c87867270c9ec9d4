pub mod Grows
pub mod ChecksPass
mod Keeping
pub mod OnceChecked
mod Copied
mod Examination
pub mod Common
