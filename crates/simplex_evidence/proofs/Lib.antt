pub mod GapLemmas
pub mod FirstsLemmas
pub mod BisectionLemmas
pub mod CountLemmas
