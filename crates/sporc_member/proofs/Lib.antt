pub mod Checks
pub mod Places
pub mod Keeping
pub mod Ordered
mod Grouped
pub mod Belonging
pub mod Sound
pub mod PeopleOf
pub mod Gone
pub mod PeopleBack
pub mod RosterBack
pub mod SameDevice
mod Examples
pub mod Common
