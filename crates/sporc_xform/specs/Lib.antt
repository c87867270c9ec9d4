pub mod Chunks
pub mod Left
pub mod Restating
pub mod Runs
