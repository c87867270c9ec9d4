pub mod Causes
pub mod Links
pub mod Fetching
pub mod Opening
pub mod Resuming
pub mod MemberFiles
pub mod LeafFile
