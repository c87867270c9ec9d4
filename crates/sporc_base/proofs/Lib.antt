pub mod ByteLemmas
pub mod ListLemmas
