pub mod SplitAlertLemmas
pub mod AlertLemmas
pub mod AlarmLemmas
