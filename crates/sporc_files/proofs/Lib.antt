pub mod Written
pub mod FileFaults
pub mod FaultCases
pub mod Asking
pub mod Answering
pub mod ReadFiles
pub mod Appendable
pub mod NamesApart
mod Examples
pub mod Common
pub mod Spelled
