pub mod Taking
pub mod Pulling
