pub mod Batch
pub mod Judged
pub mod JudgedLaws
