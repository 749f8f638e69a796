mod PartLemmas
mod CutLemmas
mod OptionLemmas
mod LineLemmas
mod FileLemmas
mod EndingLemmas
