pub mod HashingLemmas
pub mod SetLemmas
pub mod AssemblyLemmas
pub mod NamespaceLemmas
pub mod SubjectLemmas
pub mod MessageLemmas
pub mod CommitteeLemmas
