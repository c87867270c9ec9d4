pub mod Drawing
mod Examples
pub mod FileFields
pub mod Foundings
pub mod KeyFileLaws
pub mod Naming
pub mod OtherKeyFiles
pub mod RingFileLaws
pub mod Sharing
pub mod Common
