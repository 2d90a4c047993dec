mod PointLaws
pub mod WidthLaws
pub mod ChoiceLaws
pub mod OneChirotope
pub mod OneRefusal
