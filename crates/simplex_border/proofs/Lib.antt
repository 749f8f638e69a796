pub mod KeyLemmas
pub mod SizeLemmas
pub mod RefusalLemmas
pub mod EndedLemmas
