mod Examples
pub mod Logs
pub mod Tails
pub mod Opened
pub mod Roundabout
pub mod Given
pub mod Back
pub mod Changed
pub mod Hosted
pub mod Loaded
pub mod OpenDocuments
pub mod Rooms
pub mod Saved
pub mod Common
