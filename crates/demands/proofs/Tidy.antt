-- One file for one meaning: what the lister reads of an accepted stream, what is tidied of it, and the claims of wish 2.
pub mod StreamRead
pub mod TidiedStream
pub mod OneMeaning
pub mod OnlyAccepted
pub mod NoOther
pub mod ThreeFiles
