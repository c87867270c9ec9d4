pub mod Drawn
pub mod LifeLemmas
pub mod Opened
pub mod TraceLemmas
pub mod StableLemmas
pub mod SyncFirst
pub mod TakenBlocks
mod Examples
