pub mod DigitLemmas
pub mod PatternLemmas
pub mod TextLemmas
