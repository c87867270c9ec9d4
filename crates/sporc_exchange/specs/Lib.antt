pub mod Wires
pub mod Replies
pub mod Asking
