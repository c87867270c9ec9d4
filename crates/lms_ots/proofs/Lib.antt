pub mod WrittenLemmas
pub mod CoefficientLemmas
pub mod ChainLemmas
pub mod ConcatenatedLemmas
pub mod SignatureLemmas
mod Examples
