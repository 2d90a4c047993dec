mod ArgumentLaws
mod FitLaws
pub mod LeadingLaws
mod FilledLists
mod ListingLaws
mod ReadListings
mod ListingMeaning
mod ElementNumbers
mod Numerals
mod OptionLaws
mod OptionCommands
mod SignWords
pub mod TaskLaws
mod ThreeWords
mod TripleLaws
mod VerbLaws
pub mod WordLaws
pub mod VerbShapes
