-- Wrong loaders: each is shut out by a theorem.
pub mod Shut
pub mod Eager
pub mod Readings
pub mod RefusedChecks
pub mod HuntFigures
pub mod PatchOrders
pub mod OlderClosing
pub mod Tidiers
pub mod Salvagers
pub mod Fetchers
pub mod Sheets
