pub mod Feed
pub mod Block
pub mod Header
pub mod Starts
pub mod Only
pub mod Frame
pub mod Runs
pub mod Took
