pub mod DepthLemmas
pub mod LineLemmas
pub mod TokenLemmas
pub mod LinesLemmas
pub mod InspectedLemmas
pub mod InputLemmas
