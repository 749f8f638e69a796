mod OptionLemmas
mod ListenLemmas
mod EndingLemmas
mod StateLemmas
