mod Prefixes
mod Halving
mod First
mod Tried
