pub mod Count
pub mod Stream
pub mod Sheet
pub mod Steps
