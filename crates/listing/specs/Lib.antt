pub mod Lines
pub mod Program
