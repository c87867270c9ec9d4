pub mod AskedReaders
pub mod AuthorLemmas
mod Examples
