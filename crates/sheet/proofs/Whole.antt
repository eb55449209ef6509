-- The call: a refusal, and the rows of one reset device. Assumes nothing.
use Prim.Native.Nat.{ℕ, zero, suc, ◌≤◌}
use mathlib.Core.Bool.{true, false}
use mathlib.Core.Logic.{◌≢◌}
use mathlib.Core.Path.{◌≡◌, refl, sym, ap, ap₂, ◌∙◌}
use mathlib.Core.List.{List, ◌∷◌}
use native.Mathlib.Omega.{arith}
use borrow.Author.Tests.{eq-eqb, ne_eqb}
use lib.Dec.{eqb}
use lib.ListN.{length, take, replicate, length-replicate}
use lib.Seq.{sets}
use Rattle.chain.specs.declared.Made.{Made}
use Rattle.chain.specs.Paper.{done}
use Rattle.chain.specs.Kinds.{size_of}
use Rattle.chain.specs.Calls.{new_of, chain_number}
use Rattle.chain.proofs.Over.{copied}
use Rattle.sheet.specs.declared.Sheet.{Sheet}
use Rattle.sheet.specs.Stream.{Device, device, reset_device}
use Rattle.sheet.specs.Sheet.{streams_of, rows_of, sums_of, numbers_of, figures_of, sheet_number, refused_sheet, sheet_rows, sheet_of, LoadSheet}
use Rattle.sheet.proofs.Left.{good_chain}
use Rattle.sheet.proofs.Accepted.{accepted}
use Rattle.sheet.proofs.Rows.{numbers_length, figures_length, rows-length, streams_length}

-- a front part of zeros
zeros-front : (n k : ℕ) → n ≤ k → take {A = ℕ} n (replicate k 0) ≡ replicate n 0
zeros-front zero k h = refl
zeros-front (suc n) zero h = absurd (omega arith)
zeros-front (suc n) (suc k) h = ap (λ (l : List ℕ). 0 ∷ l) (zeros-front n k (omega arith))

-- the state of one device, as it is made
new_device : (kind : ℕ) → size_of kind ≢ 0 → (new_of 1 (kind ∷ replicate 7 0) (size_of kind)).chain ≡ (reset_device kind).chain
unfolding new_of chain_number
new_device kind known = rw (good_chain kind known)

-- and the device that it is the state of, whose memory is the front of zeros
pub made_device : (kind k size : ℕ) (m : Made) → size_of kind ≢ 0 → k ≡ kind → size ≡ size_of kind → size ≤ 16381
    → m ≡ new_of 1 (k ∷ replicate 7 0) (length {A = ℕ} (take size (replicate 16381 0))) → device m.chain (take size (replicate 16381 0)) ≡ reset_device kind
made_device kind k size m known named same few made =
    let z : take {A = ℕ} size (replicate 16381 0) ≡ replicate (size_of kind) 0 = zeros-front size 16381 few ∙ ap (λ (j : ℕ). replicate j 0) same in
    let l : length (take {A = ℕ} size (replicate 16381 0)) ≡ size_of kind = ap length z ∙ length-replicate {A = ℕ} (size_of kind) 0 in
    let c : m.chain ≡ (reset_device kind).chain =
    ap (λ (x : Made). x.chain) made ∙ ap₂ (λ (i j : ℕ). (new_of 1 (i ∷ replicate 7 0) j).chain) named l ∙ new_device kind known in
    ap₂ device c z

module _ (kind mode : ℕ) (s lengths numbers figures : List ℕ) where
  abbrev n : ℕ
  n = sheet_number kind mode s lengths (length numbers) (length figures)

  pub refused : (r : Sheet) (k : ℕ) → k ≡ n → k ≢ done → r ≡ refused_sheet k → LoadSheet kind mode s lengths numbers figures r numbers figures
  unfolding sheet_of
  refused r k e z h =
      let f : eqb n done ≡ false = ne_eqb n done (λ q. z (e ∙ q)) in
      record { answer = h ∙ ap refused_sheet e ∙ rw f; numbers_left = rw f; figures_left = rw f }

  -- the rows, in their tables
  abbrev rows : List Sheet
  rows = rows_of (reset_device kind) mode (streams_of lengths s)

  count : length rows ≡ length lengths
  count = rows-length (streams_of lengths s) (reset_device kind) mode ∙ streams_length lengths s

  pub filled : (k : ℕ) → k ≡ n → k ≡ done → (d : Device) → d ≡ reset_device kind → (r : Sheet) (numbers' figures' : List ℕ)
      → r ≡ sums_of (rows_of d mode (streams_of lengths s)) → numbers' ≡ sets numbers 0 (numbers_of (rows_of d mode (streams_of lengths s)))
      → figures' ≡ sets figures 0 (figures_of (rows_of d mode (streams_of lengths s))) → LoadSheet kind mode s lengths numbers figures r numbers' figures'
  unfolding sheet_of sheet_rows
  filled k e z d q r numbers' figures' a b c =
      let f : eqb n done ≡ true = eq-eqb n done (sym e ∙ z) in
      let x = accepted kind mode s lengths (length numbers) (length figures) (sym e ∙ z) in
      let o : length (numbers_of rows) ≤ length numbers = omega (arith, numbers_length rows, count, x.room_numbers) in
      let p : length (figures_of rows) ≤ length figures = omega (arith, figures_length rows, count, x.room_figures) in
      record {
        answer = a ∙ rw (q, f);
        numbers_left = b ∙ rw (q, f) (copied (numbers_of rows) numbers o);
        figures_left = c ∙ rw (q, f) (copied (figures_of rows) figures p);
      }
