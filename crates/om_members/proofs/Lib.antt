pub mod MaskLaws
pub mod ScanLaws
pub mod OrderLaws
pub mod DecisionLaws
