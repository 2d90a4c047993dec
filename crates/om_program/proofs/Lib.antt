mod CompletenessLaws
mod FaultLaws
mod MeaningLaws
mod OneAnswer
mod OneUsage
mod OnlyTask
pub mod PlanLaws
pub mod ReplyLaws
mod ValidClaimLaws
pub mod Chaining
mod Courses
pub mod Readings
pub mod Runs
pub mod Shortened
pub mod Steps
