pub mod RoundMap
pub mod RoundLends
pub mod Detector
pub mod DetectorLaws
pub mod Gathered
