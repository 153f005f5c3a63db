pub mod Automaton
pub mod FoldedPattern
pub mod Glob
pub mod Leads
pub mod Search
pub mod Words
