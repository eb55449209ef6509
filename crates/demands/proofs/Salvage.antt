-- Salvage of the old disks: what is kept of a stream, and the claims of wish 12.
pub mod KeptWindows
pub mod SoundStream
pub mod SameStream
pub mod EndsAccepted
pub mod FrontPart
pub mod MendedStream
pub mod AsFar
pub mod AsMachine
pub mod OneList
pub mod BrokenStreams
pub mod BarredBehind
