pub mod ListLaws
pub mod WalkLaws
mod RankLaws
mod ElementLaws
mod ParallelLaws
pub mod ExchangeLaws
