pub mod SavedFile
pub mod Loading
pub mod Verdicts
pub mod TailBytes
pub mod TailFiles
pub mod TailRuns
pub mod TailReadings
