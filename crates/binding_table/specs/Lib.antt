pub mod Bindings
pub mod Lawful
pub mod Lasting
pub mod Plan
pub mod Prelude
pub mod Inside
