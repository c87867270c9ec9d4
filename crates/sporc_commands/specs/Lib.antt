pub mod KeyMaking
pub mod Founding
pub mod KeyShowing
pub mod Checking
pub mod Telling
pub mod Comparing
pub mod Lines
pub mod Outcomes
