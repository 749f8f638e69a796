pub mod Pointers
pub mod Handles
pub mod RepliesLemmas
