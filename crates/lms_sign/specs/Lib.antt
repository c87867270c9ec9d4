pub mod Signer
