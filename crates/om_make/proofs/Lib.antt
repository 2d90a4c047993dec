pub mod BackLaws
pub mod CountLaws
pub mod CovectorCounts
pub mod FirstSigns
pub mod RankBounds
pub mod GeneratorLaws
