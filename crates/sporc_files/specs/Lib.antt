pub mod Names
pub mod Arguments
pub mod Faults
pub mod Uses
pub mod Reading
pub mod Contents
pub mod Writing
pub mod Opening
