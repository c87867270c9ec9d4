pub mod Compositions
pub mod Forms
pub mod Runs
