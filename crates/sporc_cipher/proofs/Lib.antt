pub mod Examples
pub mod Stream
