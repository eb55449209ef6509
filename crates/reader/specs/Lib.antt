pub mod Stops
pub mod Windows
pub mod Stream
pub mod Given
pub mod Walk
