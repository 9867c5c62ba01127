mod Complete
mod Documents
pub mod Inside
pub mod LettersJoined
mod Pieces
mod Reader
mod Rests
mod Sound
mod Worked
