pub mod Lists
pub mod Passes
pub mod Goods
pub mod MoreForms
mod Examples
pub mod FormLengths
pub mod SameKeys
pub mod NextEntry
pub mod LineKeeps
pub mod Payloads
pub mod ReadLengths
pub mod Effects
pub mod Common
