pub mod Closing
pub mod Calls
pub mod Put
