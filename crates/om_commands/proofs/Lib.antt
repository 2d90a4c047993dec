mod AboveLaws
mod AcyclicLaws
mod ConversionLaws
pub mod KeptLaws
pub mod LeadingLaws
pub mod OneAnyRank
pub mod OneConversion
pub mod OneDocument
pub mod OneOperation
pub mod OneTest
mod OneText
mod OperationLaws
pub mod ReachLaws
mod KeepingLaws
