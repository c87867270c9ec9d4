mod Examples
pub mod Agreeing
pub mod Common
pub mod EditLemmas
pub mod Following
pub mod Holding
pub mod Keeping
pub mod Naming
pub mod UnderWay
pub mod Writing
