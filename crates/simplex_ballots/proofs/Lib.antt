pub mod TableLemmas
pub mod IndexLemmas
pub mod BallotLemmas
pub mod HeldLemmas
pub mod SignerLemmas
pub mod ApartLemmas
