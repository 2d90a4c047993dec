mod ClaimLaws
pub mod DecisionLaws
pub mod EvidenceLaws
mod ExtensionLaws
pub mod FlipLaws
pub mod MadeLaws
pub mod OneClaim
pub mod OneMade
pub mod OneRankThree
pub mod RankThreeLaws
pub mod SweepLaws
pub mod VerdictSizes
