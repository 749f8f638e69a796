pub mod Answer
pub mod Keys
pub mod Refusals
pub mod Signatures
pub mod Sizes
