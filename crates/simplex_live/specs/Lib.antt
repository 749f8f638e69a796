pub mod Options
pub mod Listening
pub mod Ending
pub mod State
