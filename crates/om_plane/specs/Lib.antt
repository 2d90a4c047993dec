pub mod Sweeps
pub mod MutationLists
pub mod ExtensionLists
pub mod Flips
pub mod MadeInputs
pub mod Decisions
pub mod Claims
pub mod SameEvidence
