pub mod Lines
pub mod Causes
pub mod Beginning
pub mod Untaken
pub mod Inputs
pub mod Numbers
