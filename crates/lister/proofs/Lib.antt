pub mod Listings
pub mod Tables
pub mod AsMachine
pub mod Only
pub mod Cases
