pub mod Fields
pub mod KeyFile
pub mod RingFile
pub mod Drawn
pub mod NewKey
pub mod Founding
