pub mod ClientLines
pub mod JournalLines
pub mod Names
pub mod EntryLines
