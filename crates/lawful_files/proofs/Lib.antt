pub mod SentLists
pub mod Lengths
pub mod Progressed
pub mod LineEnds
pub mod ReasonsApart
pub mod SoundWanted
pub mod Judged
pub mod ReadWanted
pub mod Further
mod Rows
mod FileRows
