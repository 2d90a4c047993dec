pub mod MaskLaws
pub mod EliminationLaws
pub mod InstanceLaws
pub mod MinimalityLaws
pub mod DecisionLaws
pub mod FirstInstance
