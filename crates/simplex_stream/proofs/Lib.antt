mod StreamLemmas
mod DecoderLemmas
