use mathlib.Core.Path.{refl}
use Rattle.lister.specs.Listing.{listed_of}
use Rattle.lister.proofs.accepted.Goals as goal

pub returns : goal.returns
unfolding listed_of
returns c = refl
