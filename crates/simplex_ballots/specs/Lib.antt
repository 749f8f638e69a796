pub mod Ballots
pub mod Firsts
pub mod Index
pub mod Rounds
pub mod Kept
