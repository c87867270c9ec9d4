pub mod FormatLaws
pub mod Differences
pub mod Signing
pub mod Written
pub mod Shown
mod Examples
