pub mod Bytes
pub mod FirstFault
pub mod Lists
pub mod Numbers
pub mod Outcome
