-- Files: what is written fits, lists and loads, and what is accepted comes back from its listing.
pub mod SectionLists
pub mod SectionWritten
pub mod WrittenLoads
pub mod WrittenFits
pub mod ReadAgain
pub mod AcceptedAgain
pub mod SameBytes
