-- Loads: a stream that fits, cut in any way; what is accepted, what ends a run, what a check leaves; the twelve cases of document 01.
pub mod RunSeen
pub mod LoadRuns
pub mod Cuts
pub mod FittingLoads
pub mod AcceptedFits
pub mod LastByteTaken
pub mod OneSlice
pub mod CheckLeaves
pub mod StreamA
pub mod CheckBars
pub mod TwelveCases
