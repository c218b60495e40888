pub mod Joined
pub mod Options
pub mod ReadBack
pub mod Lengths
pub mod Whole
