pub mod Roster
pub mod Replies
pub mod Standing
pub mod Held
pub mod Owned
