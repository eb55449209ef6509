-- Runs: what a byte and a run of them keep, whatever the grammar; slices put together; what calls above the machine stand on.
pub mod Kept
pub mod Blind
pub mod AsWrite
pub mod Stays
pub mod Steps
pub mod Keeps
pub mod CheckB3
pub mod Started
pub mod Slices
pub mod Append
pub mod Above
