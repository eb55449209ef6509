-- Laws for patches: what windows leave in a cell, what a patch leaves of a device, the two laws, and two patches joined by lister and writer.
pub mod WindowCells
pub mod PatchLoads
pub mod TwoLaws
pub mod WrittenOnce
pub mod TwoPatches
