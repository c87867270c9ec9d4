pub mod Chain
pub mod Strings
pub mod Verdict
