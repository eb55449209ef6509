-- Stops: what a stopped run leaves, its closing bytes, and the stream started afresh.
pub mod ClosingCuts
pub mod StopsRight
pub mod ShortestWay
pub mod Amendments
pub mod AmendedPlaces
