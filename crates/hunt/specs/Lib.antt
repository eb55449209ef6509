pub mod Bits
pub mod Hunt
