pub mod Arguments
pub mod Commands
pub mod Help
pub mod Pages
pub mod Values
pub mod Verbs
