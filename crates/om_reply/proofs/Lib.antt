pub mod Alike
mod BehindLaws
mod HullLaws
mod MutationLaws
mod PointTextLaws
mod SignatureLaws
pub mod BlockTexts
