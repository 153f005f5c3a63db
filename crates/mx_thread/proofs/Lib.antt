pub mod RelationLemmas
pub mod ViewLemmas
