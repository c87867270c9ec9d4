pub mod Lists
pub mod Machine
pub mod Hands
pub mod Sessions
pub mod Crowds
pub mod Served
pub mod Locks
