pub mod Spans
pub mod Tidy
pub mod InOrder
pub mod Steps
