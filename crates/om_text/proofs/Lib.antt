pub mod Distinct
pub mod Filling
pub mod SettingLines
pub mod RevlexValues
pub mod SettingSteps
pub mod CourseSteps
pub mod StepErrors
pub mod Course
pub mod Completion
pub mod Outcome
pub mod PassedTests
pub mod BodyLines
pub mod DocumentEnds
pub mod ReadLines
pub mod OneDocument
pub mod Part
pub mod Numbers
pub mod Forms
pub mod Joined
pub mod Small
pub mod PartSteps
pub mod PointLines
mod Samples
mod ListSamples
mod SettingSamples
mod PointSamples
mod BlockSamples
pub mod Language
