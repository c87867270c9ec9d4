pub mod Exchanging
pub mod Inboxes
pub mod Linking
pub mod Common
