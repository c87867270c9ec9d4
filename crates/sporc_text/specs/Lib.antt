pub mod Chunks
pub mod Edit
pub mod ReadyFields
pub mod ReadyTextModel
