pub mod Keys
pub mod Faults
pub mod Firsts
pub mod Texts
pub mod Prefixes
pub mod Document
pub mod Accepting
pub mod Inside
