pub mod ReadingLemmas
pub mod SuspectLemmas
pub mod PlaceLemmas
pub mod ContentsLemmas
pub mod RecordLemmas
pub mod StandingLemmas
pub mod ByteLemmas
pub mod VerdictLemmas
pub mod RewrittenLemmas
mod RepeatLemmas
