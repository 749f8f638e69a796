pub mod Counting
pub mod WindowLemmas
pub mod Orders
