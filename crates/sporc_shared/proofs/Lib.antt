pub mod Afters
pub mod Disks
pub mod Journals
pub mod Lengths
pub mod Calling
pub mod Common
