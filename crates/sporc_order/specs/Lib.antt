pub mod Batches
pub mod OrderModel
pub mod Replies
pub mod Sessions
pub mod Tails
