pub mod Edits
pub mod Lines
pub mod Machine
pub mod Screens
