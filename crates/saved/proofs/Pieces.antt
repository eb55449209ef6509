-- A layout in pieces, each of which is cut by itself; and the pieces that the code writes and reads a table by. Assumes nothing.
use Prim.Native.Nat.{ℕ, zero, suc, ◌+◌, ◌/◌, ◌^◌, ◌<◌}
use mathlib.Core.Path.{◌≡◌, refl, sym, ap, ap₂, ◌∙◌}
use mathlib.Core.List.{List, [], ◌∷◌, ◌++◌}
use native.Mathlib.Omega.{arith}
use lib.Bits.{bit_and, and_mask}
use lib.Dec.{eqb}
use mathlib.Core.Bool.{◌&&◌}
use lib.ListN.{length, get_or, drop}
use Rattle.std.specs.Int.{w16, w32, to_be_bytes, from_be_bytes}
use Rattle.chain.specs.declared.Place.{Place}
use Rattle.chain.specs.Rules.{all_of}
use Rattle.saved.specs.Fields.{total, packed, Fit, fields_of, recut, bytes}
use Rattle.saved.specs.Layout.{Row, ◌takes◌, head_rows, number_rows, register_rows, rows, start, end, next, taken, mismatches, control, headed, form1, widths, values, marks, byte_count, saved_length, saved_in, saved_bytes, held_in}
use Rattle.saved.proofs.Packing.{packed-one, fields_packed, masked, fields_of-one}
use Rattle.saved.proofs.Words.{two_of, four_of, from_two, from_four}
use Rattle.saved.proofs.Regroup.{total-append, fit_append, regroup, elems, elems_is}

-- the values held in fields of the widths from, to be cut at the widths into
pub record Piece : Type 0 where
  pub from : List ℕ
  pub into : List ℕ
  pub holds : List ℕ

-- what the pieces have, one after another
abbrev pub all : (Piece → List ℕ) → List Piece → List ℕ
all f [] = []
all f (p ∷ ps) = f p ++ all f ps

abbrev pub cut : Piece → List ℕ
cut p = recut p.from p.into p.holds

abbrev pub Fine : List Piece → Type 0
Fine [] = Unit {0}
Fine (p ∷ ps) = Fit p.from p.holds × (total p.into ≡ total p.from) × Fine ps

all_fit : (ps : List Piece) → Fine ps → Fit (all (λ p. p.from) ps) (all (λ p. p.holds) ps)
all_fit [] f = tt
all_fit (p ∷ ps) f = fit_append p.from (all (λ p. p.from) ps) p.holds (all (λ p. p.holds) ps) f.0 (all_fit ps f.2)

all_same : (ps : List Piece) → Fine ps → total (all (λ p. p.into) ps) ≡ total (all (λ p. p.from) ps)
all_same [] f = refl
all_same (p ∷ ps) f =
    total-append p.into (all (λ p. p.into) ps)
    ∙ ap₂ (λ (a b : ℕ). a + b) f.1 (all_same ps f.2)
    ∙ sym (total-append p.from (all (λ p. p.from) ps))

pub all-cut : (ps : List Piece) → Fine ps
    → recut (all (λ p. p.from) ps) (all (λ p. p.into) ps) (all (λ p. p.holds) ps) ≡ all cut ps
all-cut [] f = refl
all-cut (p ∷ ps) f =
    regroup p.into (all (λ p. p.into) ps) p.from (all (λ p. p.from) ps) p.holds (all (λ p. p.holds) ps) f.0 (all_fit ps f.2) (all_same ps f.2)
    ∙ ap (λ (l : List ℕ). cut p ++ l) (all-cut ps f.2)

-- ---- a table in groups of rows, each of whole bytes

abbrev joined : List (List Row) → List Row
joined [] = []
joined (r ∷ rs) = r ++ joined rs

abbrev Whole : List (List Row) → Type 0
Whole [] = Unit {0}
Whole (r ∷ rs) = (total (bytes (byte_count r)) ≡ total (widths r)) × Whole rs

-- as the code goes: the head in one, the registers in one, every other row by itself
abbrev pub number_groups : List (List Row)
number_groups =
    head_rows
    ∷ ((start takes 16) ∷ []) ∷ ((end takes 16) ∷ []) ∷ ((next takes 16) ∷ [])
    ∷ ((taken takes 32) ∷ []) ∷ ((mismatches takes 32) ∷ [])
    ∷ []

abbrev pub groups : List (List Row)
groups = number_groups ++ (register_rows ∷ ((control takes 8) ∷ []) ∷ [])

abbrev pub later_groups : List (List Row)
later_groups = drop 1 groups

whole : Whole groups
whole = (refl, (refl, (refl, (refl, (refl, (refl, (refl, (refl, tt))))))))

-- ---- written

module _ (n : ℕ) (g : List ℕ) (p : Place) where
  abbrev pub written : List (List Row) → List Piece
  written [] = []
  written (r ∷ rs) = record { from = widths r; into = bytes (byte_count r); holds = values n r g p } ∷ written rs

  pub fit_rows : (a b : List Row) → Fit (widths (a ++ b)) (values n (a ++ b) g p) → Fit (widths a) (values n a g p) × Fit (widths b) (values n b g p)
  fit_rows [] b f = (tt, f)
  fit_rows ((x takes w) ∷ a) b f = let r = fit_rows a b f.1 in ((f.0, r.0), r.1)

  fine_written : (rs : List (List Row)) → Whole rs → Fit (widths (joined rs)) (values n (joined rs) g p) → Fine (written rs)
  fine_written [] w f = tt
  fine_written (r ∷ rs) w f = let s = fit_rows r (joined rs) f in (s.0, w.0, fine_written rs w.1 s.1)

  pub numbers_are : Fit (widths number_rows) (values n number_rows g p)
      → recut (widths number_rows) (bytes (byte_count number_rows)) (values n number_rows g p) ≡ all cut (written number_groups)
  numbers_are f = all-cut (written number_groups) (fine_written number_groups (refl, (refl, (refl, (refl, (refl, (refl, tt)))))) f)

  pub saved_is : Fit (widths rows) (values n rows g p) → saved_in (headed n) g p ≡ all cut (written groups)
  unfolding saved_in
  saved_is f = all-cut (written groups) (fine_written groups whole f)

-- the bytes of the numbers and the registers one by one, as the code has them
pub laid_out : (g : List ℕ) (p : Place) (h s e x t m : List ℕ) → Fit (widths rows) (values 1 rows g p) → length g ≡ 8
    → h ≡ to_be_bytes w32 (packed (widths head_rows) (values 1 head_rows [] p)) → s ≡ to_be_bytes w16 p.start → e ≡ to_be_bytes w16 p.end
    → x ≡ to_be_bytes w16 p.next → t ≡ to_be_bytes w32 p.taken → m ≡ to_be_bytes w32 p.mismatches
    → elems 0 4 h ++ (elems 0 2 s ++ (elems 0 2 e ++ (elems 0 2 x ++ (elems 0 4 t ++ (elems 0 4 m ++ (elems 0 8 g ++ (p.control ∷ [])))))))
    ≡ saved_bytes g p
laid_out g p h s e x t m f l ih is ie ix it im =
    let numbers = fit_rows 1 g p number_rows (register_rows ++ ((control takes 8) ∷ [])) f in
    let others = fit_rows 1 g p register_rows ((control takes 8) ∷ []) numbers.1 in
    let four : (y : ℕ) (bs : List ℕ) → bs ≡ to_be_bytes w32 y → elems 0 4 bs ≡ recut (32 ∷ []) (bytes 4) (y ∷ []) =
    λ y bs q. four_of y bs q ∙ ap (fields_of (bytes 4)) (sym (packed-one 32 y)) in
    let head = four_of _ h ih in
    let start = two_of p.start s is in
    let end = two_of p.end e ie in
    let next = two_of p.next x ix in
    let taken = four p.taken t it in
    let mismatches = four p.mismatches m im in
    let kept = sym (fields_packed (bytes 8) (values 1 register_rows g p) others.0) in
    let last = sym (fields_packed (bytes 1) (p.control ∷ []) others.1) in
    (λ k. head k ++ (start k ++ (end k ++ (next k ++ (taken k ++ (mismatches k ++ (kept k ++ last k)))))))
    ∙ sym (saved_is 1 g p f)

-- ---- read

module _ (s : List ℕ) (h : (i : ℕ) → get_or s i 0 < 2 ^ 8) where
  pub fit_bytes : (n i : ℕ) → Fit (bytes n) (elems i n s)
  fit_bytes zero i = tt
  fit_bytes (suc n) i = (h i, fit_bytes n (suc i))

-- the groups' bytes, from i on
abbrev pub read : List ℕ → ℕ → List (List Row) → List Piece
read s i [] = []
read s i (r ∷ rs) = record { from = bytes (byte_count r); into = widths r; holds = elems i (byte_count r) s } ∷ read s (i + byte_count r) rs

module _ (s : List ℕ) (h : (i : ℕ) → get_or s i 0 < 2 ^ 8) where
  fine_read : (rs : List (List Row)) → Whole rs → (i : ℕ) → Fine (read s i rs)
  fine_read [] w i = tt
  fine_read (r ∷ rs) w i = (fit_bytes s h (byte_count r) i, sym w.0, fine_read rs w.1 (i + byte_count r))

  pub held_is : length s ≡ saved_length → held_in form1 s ≡ all cut (read s 0 groups)
  unfolding held_in
  held_is l =
      ap (recut (bytes saved_length) (widths rows)) (sym (elems_is 0 saved_length s (sym l)))
      ∙ all-cut (read s 0 groups) (fine_read groups whole 0)

-- what 27 bytes hold, from the numbers that the code makes of them
module _ (s : List ℕ) (byte : (i : ℕ) → get_or s i 0 < 2 ^ 8) (l : length s ≡ saved_length) where
  pub read_is : (h a e x t m : ℕ) → h ≡ from_be_bytes w32 (elems 0 4 s) → a ≡ from_be_bytes w16 (elems 4 2 s) → e ≡ from_be_bytes w16 (elems 6 2 s)
      → x ≡ from_be_bytes w16 (elems 8 2 s) → t ≡ from_be_bytes w32 (elems 10 4 s) → m ≡ from_be_bytes w32 (elems 14 4 s)
      → held_in form1 s ≡ masked (widths head_rows) h ++ (a ∷ e ∷ x ∷ t ∷ m ∷ (elems 18 8 s ++ (get_or s 26 0 ∷ [])))
  read_is h a e x t m ih ia ie ix it im =
      let head = fields_of-one 32 (widths head_rows) (packed (bytes 4) (elems 0 4 s)) refl (from_four _ _ _ _ h (byte 0) (byte 1) (byte 2) (byte 3) ih) in
      let start = from_two _ _ a (byte 4) (byte 5) ia in
      let end = from_two _ _ e (byte 6) (byte 7) ie in
      let next = from_two _ _ x (byte 8) (byte 9) ix in
      let taken = from_four _ _ _ _ t (byte 10) (byte 11) (byte 12) (byte 13) it in
      let mismatches = from_four _ _ _ _ m (byte 14) (byte 15) (byte 16) (byte 17) im in
      let kept = sym (fields_packed (bytes 8) (elems 18 8 s) (fit_bytes s byte 8 18)) in
      let control = sym (fields_packed (bytes 1) (get_or s 26 0 ∷ []) (byte 26, tt)) in
      held_is s byte l
      ∙ sym (λ k. head k ++ (start k ++ (end k ++ (next k ++ (taken k ++ (mismatches k ++ (kept k ++ control k)))))))

  -- the form and the zero bits, which the head alone decides
  pub marks_are : (h : ℕ) → h < 2 ^ 32 → h ≡ from_be_bytes w32 (elems 0 4 s)
      → all_of (marks form1.number rows (held_in form1 s)) ≡ ((eqb (h / 2 ^ 28) 1 && eqb (bit_and (h / 2 ^ 16) 1) 0) && eqb (bit_and h 255) 0)
  marks_are h b ih =
      let four : bit_and (h / 2 ^ 28) 15 ≡ h / 2 ^ 28 = omega (arith, and_mask (h / 2 ^ 28) 4) in
      let head = fields_of-one 32 (widths head_rows) (packed (bytes 4) (elems 0 4 s)) refl (from_four _ _ _ _ h (byte 0) (byte 1) (byte 2) (byte 3) ih) in
      ap (λ (v : List ℕ). all_of (marks form1.number rows v)) (held_is s byte l)
      ∙ ap (λ (v : List ℕ). all_of (marks form1.number rows (v ++ all cut (read s (byte_count head_rows) later_groups)))) (sym head)
      ∙ ap (λ (n : ℕ). (eqb n 1 && eqb (bit_and (h / 2 ^ 16) 1) 0) && eqb (bit_and h 255) 0) four
