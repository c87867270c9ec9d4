pub mod OtsType
pub mod Codes
pub mod Coefficients
pub mod Chains
pub mod Signatures
pub mod Laws
