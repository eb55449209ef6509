use Rattle.std.proofs.Common.{rules}
use Rattle.listing.proofs.Listings.{told}
use Rattle.listing.proofs.text.listed.Goals as goal

pub returns-clause-number : goal.returns-clause-number
returns-clause-number c = (told _ _ _ _ _ _ _ _ _ _ (search rules) (search rules) (search rules) c.list-r.ensures).number

pub returns-clause-taken : goal.returns-clause-taken
returns-clause-taken c = (told _ _ _ _ _ _ _ _ _ _ (search rules) (search rules) (search rules) c.list-r.ensures).taken

pub returns-clause-lines : goal.returns-clause-lines
returns-clause-lines c =
    let a = c.args in
    let new = c.list-r.new in
    let t = told a.kind a.mode a.given.now _ _ _ c.list-r.result new.starts new.ends new.offsets (search rules) (search rules) (search rules) c.list-r.ensures in
    rw (t.starts_are, t.ends_are) at c.windows.ensures.lines
