mod Phases
mod Judging
mod Decided
