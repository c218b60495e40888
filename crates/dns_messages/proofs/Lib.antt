pub mod Loop
pub mod Exact
pub mod Fitting
pub mod Again
pub mod Wrote
pub mod Rows
pub mod Alone
pub mod Stopped
