pub mod ClassLemmas
pub mod EndedLemmas
pub mod FeedLemmas
pub mod WithinLemmas
pub mod SignerLemmas
pub mod FrontLemmas
pub mod ProofLemmas
