pub mod Sent
pub mod Stream
pub mod Fits
pub mod Stores
pub mod Tables
