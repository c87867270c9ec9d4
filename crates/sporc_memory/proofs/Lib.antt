mod AppendImages
mod Files
mod Known
mod ListedImages
mod ListedItems
mod LoggedImages
mod Spoiling
pub mod DiskImages
pub mod Common
