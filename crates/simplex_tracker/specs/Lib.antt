pub mod Tracking
pub mod TrackingLaws
pub mod Fed
pub mod Live
