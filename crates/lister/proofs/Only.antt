-- Two results that meet the lister's promise agree. Assumes nothing.
use Prim.Native.Nat.{ℕ}
use mathlib.Core.Path.{◌≡◌, sym, ◌∙◌}
use mathlib.Core.List.{List}
use Rattle.lister.specs.declared.Listed.{Listed}
use Rattle.lister.specs.Listing.{Lists}

pub only_list : (kind mode : ℕ) (s starts ends offsets : List ℕ) (r q : Listed) (a b c x y z : List ℕ)
    → Lists kind mode s starts ends offsets r a b c → Lists kind mode s starts ends offsets q x y z
    → (r ≡ q) × (a ≡ x) × (b ≡ y) × (c ≡ z)
only_list kind mode s starts ends offsets r q a b c x y z f g =
    (f.answer ∙ sym g.answer, f.starts_left ∙ sym g.starts_left, f.ends_left ∙ sym g.ends_left, f.offsets_left ∙ sym g.offsets_left)
