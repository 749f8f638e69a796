pub mod Parts
pub mod Splitting
pub mod Options
pub mod Files
pub mod Ending
