mod Examples
pub mod Compared
pub mod Examined
pub mod Lines
pub mod Printed
pub mod Prefixes
pub mod Taken
pub mod KeyFiles
pub mod Storing
pub mod MayFound
pub mod Asking
pub mod Named
pub mod RingLoop
pub mod StoreFaults
pub mod Showing
pub mod Common
