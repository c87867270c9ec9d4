pub mod Logs
pub mod Turns
pub mod Sending
pub mod Endings
pub mod Traces
pub mod Visits
pub mod Crowds
pub mod Served
