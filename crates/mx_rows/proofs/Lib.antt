pub mod RowLemmas
pub mod EntryLemmas
pub mod NeededLemmas
pub mod CutLemmas
pub mod PlainLemmas
