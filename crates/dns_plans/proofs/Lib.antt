pub mod NamedLemmas
pub mod EnteredLemmas
pub mod ImageLemmas
pub mod PlannedLemmas
pub mod ToldLemmas
