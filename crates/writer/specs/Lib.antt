pub mod Stream
pub mod Write
