pub mod Ranges
pub mod Outcomes
pub mod Runs
pub mod Working
pub mod LeafFiles
pub mod LeafCommands
pub mod LeafRuns
pub mod Common
