pub mod TrackingLemmas
pub mod LiveLemmas
