pub mod CutterModel
pub mod Messages
pub mod Refusals
pub mod Stream
pub mod ToClient
pub mod ToServer
