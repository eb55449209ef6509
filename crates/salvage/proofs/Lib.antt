pub mod WholeWindows
pub mod RawBytes
pub mod FrontBytes
pub mod Keeping
pub mod Laying
pub mod Answers
pub mod Only
