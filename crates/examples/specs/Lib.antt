pub mod Accused
pub mod Following
