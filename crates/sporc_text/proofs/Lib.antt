pub mod ChunkLemmas
pub mod CutLemmas
pub mod EditLemmas
pub mod KeptLemmas
pub mod MoveLemmas
pub mod ReadyLemmas
pub mod Spelled
pub mod Common
