pub mod Windows
pub mod Terms
pub mod Election
pub mod ElectionLaws
pub mod Rotation
pub mod OrderLaws
pub mod RotationLaws
pub mod Plans
