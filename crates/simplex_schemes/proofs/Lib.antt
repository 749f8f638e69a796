pub mod CertificateLemmas
pub mod PlainLemmas
pub mod HashedLemmas
pub mod MarkedLemmas
pub mod ListedLemmas
pub mod SkimLemmas
pub mod CountLemmas
