pub mod MaskLaws
pub mod EliminationLaws
pub mod InstanceLaws
pub mod DecisionLaws
pub mod FirstInstance
