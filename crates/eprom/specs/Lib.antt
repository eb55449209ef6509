pub mod Counter
pub mod Kept
pub mod Fetch
pub mod Calls
pub mod Steps
