-- EPROM boards: a fetched run beside the machine fed with its bytes, in parts, and the third demand of a fetched stream: the claims of wish 1.
pub mod ReadyRuns
pub mod FetchedAsFed
pub mod FetchedInParts
pub mod BootLoads
pub mod BootStops
pub mod HowMany
pub mod CounterWay
pub mod CounterAsSaid
pub mod HeldStreams
pub mod SeventeenBits
pub mod EveryLoader
