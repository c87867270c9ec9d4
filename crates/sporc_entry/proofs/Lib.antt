pub mod FieldLaws
pub mod VersionLaws
pub mod ChangeLaws
pub mod Changes
pub mod BodyLengths
pub mod EntryLaws
pub mod GenesisLaws
pub mod Written
pub mod Places
pub mod ViewLaws
mod Skimmed
mod Examples
pub mod Common
