pub mod Asking
pub mod Counting
pub mod CountsRose
mod Examples
pub mod LeavesTaken
pub mod Lives
pub mod Outcomes
pub mod Sessioning
pub mod WorkedFrom
pub mod Common
