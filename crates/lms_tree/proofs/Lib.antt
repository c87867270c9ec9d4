pub mod AncestorLemmas
pub mod NodeArrayLemmas
pub mod SiblingLemmas
pub mod SignatureLemmas
pub mod VerificationLemmas
pub mod PublicKeyLemmas
