pub mod Lists
pub mod ChainLemmas
pub mod SameHistory
pub mod Prefixes
pub mod Verdicts
mod Examples
