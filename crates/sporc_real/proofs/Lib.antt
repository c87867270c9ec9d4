pub mod Retries
pub mod RealFiles
