mod HittingLaws
mod SetLaws
mod MeetingBases
mod CarryLaws
mod MeetingLaws
mod NormalSigns
pub mod RankLaws
pub mod CountingLaws
pub mod GatheringLaws
pub mod CompositionLaws
pub mod PlaceLaws
pub mod KeyLaws
pub mod ChirotopeLaws
pub mod SameFamilies
pub mod SameMembers
pub mod WidthLaws
pub mod MemoryCauses
