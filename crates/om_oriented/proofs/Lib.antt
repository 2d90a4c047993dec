pub mod PlaceLaws
mod Members
mod Walks
