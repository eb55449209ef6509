-- The monthly load sheet: wish 10. Every sheet that keeps its promise, and no other; each row as the loader's own calls give it; bounds; months by computation.
pub mod OnlySheet
pub mod Kept
pub mod OneDevice
pub mod ByHand
pub mod RowsByHand
pub mod OneSheet
pub mod Bounds
pub mod OneMonth
pub mod SerialMonth
pub mod MonthsByHand
