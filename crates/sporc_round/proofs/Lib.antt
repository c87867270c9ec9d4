pub mod Taken
pub mod Pulled
