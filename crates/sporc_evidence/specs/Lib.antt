pub mod Summary
pub mod SummaryBytes
pub mod Evidence
pub mod Summarizing
pub mod Judging
pub mod Genuine
pub mod Forks
