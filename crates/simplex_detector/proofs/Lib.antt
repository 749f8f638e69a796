pub mod RoundMapLemmas
pub mod ReportLemmas
pub mod KnownLemmas
pub mod DetectorLemmas
pub mod CountLemmas
pub mod PruneLemmas
pub mod GatherLemmas
pub mod FirstLemmas
