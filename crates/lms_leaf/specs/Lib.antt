pub mod Laws
pub mod LeafFile
pub mod Leaves
pub mod Codes
pub mod Lives
pub mod Traces
pub mod LeavesInvariant
