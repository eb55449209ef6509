-- Boards that boot from an EPROM: wish 1.
pub mod OnlyFetcher
pub mod Kept
pub mod JumpDown
pub mod Jumps
pub mod ShortEproms
pub mod Wraps
