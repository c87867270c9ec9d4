mod Examples
pub mod Joinings
pub mod Lookups
pub mod PairMaps
pub mod SealedKeys
pub mod WalkBack
pub mod SpelledBodies
pub mod Common
