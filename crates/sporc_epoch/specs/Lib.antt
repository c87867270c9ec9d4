pub mod Hints
pub mod Keys
pub mod RingModel
pub mod Sealing
pub mod Streams
pub mod Wraps
