pub mod Answer
pub mod Decoding
pub mod Leaders
pub mod Messages
pub mod Proof
pub mod Rows
