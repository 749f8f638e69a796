pub mod Contradiction
pub mod Conflict
pub mod ConflictLaws
pub mod Contents
pub mod Activity
pub mod ActivityLaws
pub mod VoteMap
