-- Whole windows stand in the stream byte for byte, and with their null bytes put out they are the windows that are kept. Assumes nothing.
use Prim.Native.Nat.{ℕ, zero, suc, ◌+◌, ◌-◌, ◌/◌, ◌%◌, ◌≤◌, ◌<◌}
use mathlib.Core.Path.{◌≡◌, refl, sym, ap, subst, ◌∙◌}
use mathlib.Core.List.{List, ◌∷◌, ◌++◌, append_assoc}
use native.Mathlib.Omega.{arith}
use lib.ListN.{length, get_or, set, take, drop, length-drop, length-append, take-append-drop}
use lib.Seq.{drop-cons, drop-drop, set_at, length-take-le}
use Rattle.chain.specs.Window.{word, width_of}
use Rattle.grammar.specs.Stream.{Window}
use Rattle.grammar.specs.Tables.{null_byte, nulled}
use Rattle.grammar.proofs.SectionBytes.{window_bytes, windows_bytes}
use Rattle.reader.specs.Windows.{ReadWindow, start_at, end_at, next_at, read_window_of, windows_of}
use Rattle.reader.proofs.Windows.{Whole}
use Rattle.salvage.specs.Salvage.{after_all}
use Rattle.salvage.specs.Steps.{reaches_of, end_of, nulls_out}
use Rattle.salvage.proofs.WholeWindows.{raw_in, raws_in, by_first}

high : (a b : ℕ) → b < 256 → word a b / 256 ≡ a
high a b h = omega arith

low : (a b : ℕ) → b < 256 → word a b % 256 ≡ b
low a b h = omega arith

-- five bytes and the rest
five : (s : List ℕ) (at : ℕ) → at + 5 ≤ length s
    → drop at s ≡ get_or s at 0 ∷ get_or s (at + 1) 0 ∷ get_or s (at + 2) 0 ∷ get_or s (at + 3) 0 ∷ get_or s (at + 4) 0 ∷ drop (at + 5) s
five s at h =
    let one : (i : ℕ) → i < length s → drop i s ≡ get_or s i 0 ∷ drop (i + 1) s = next in
    let a : at + 1 + 1 ≡ at + 2 = omega arith in
    let b : at + 2 + 1 ≡ at + 3 = omega arith in
    let c : at + 3 + 1 ≡ at + 4 = omega arith in
    let d : at + 4 + 1 ≡ at + 5 = omega arith in
    one at (omega arith)
    ∙ ap (λ (l : List ℕ). get_or s at 0 ∷ l) (one (at + 1) (omega arith) ∙ rw a
    (ap (λ (l : List ℕ). get_or s (at + 1) 0 ∷ l) (one (at + 2) (omega arith) ∙ rw b
    (ap (λ (l : List ℕ). get_or s (at + 2) 0 ∷ l) (one (at + 3) (omega arith) ∙ rw c
    (ap (λ (l : List ℕ). get_or s (at + 3) 0 ∷ l) (one (at + 4) (omega arith) ∙ rw d)))))))
  where
    next : (i : ℕ) → i < length s → drop i s ≡ get_or s i 0 ∷ drop (i + 1) s
    next i h =
        let e : i + 1 ≡ suc i = omega arith in
        rw e (drop-cons s i 0 h)

module _ (size : ℕ) (s : List ℕ) (small : (i : ℕ) → get_or s i 0 < 256) where
  -- one window
  pub raw_window : (at : ℕ) → Whole size s at → drop at s ≡ window_bytes (raw_in s at (read_window_of size s at)) ++ drop (next_at s at) s
  raw_window at w =
      let k : ℕ = width_of (start_at s at) (end_at s at) in
      let t : drop (at + 5) s ≡ take k (drop (at + 5) s) ++ drop (next_at s at) s =
      sym (take-append-drop k (drop (at + 5) s)) ∙ ap (λ (l : List ℕ). take k (drop (at + 5) s) ++ l) (drop-drop k (at + 5) s) in
      five s at (omega (arith, w.all_there))
      ∙ rw (
        w.reads,
        high (get_or s (at + 1) 0) (get_or s (at + 2) 0) (small (at + 2)),
        low (get_or s (at + 1) 0) (get_or s (at + 2) 0) (small (at + 2)),
        high (get_or s (at + 3) 0) (get_or s (at + 4) 0) (small (at + 4)),
        low (get_or s (at + 3) 0) (get_or s (at + 4) 0) (small (at + 4)),
      )
      (ap (λ (l : List ℕ). get_or s at 0 ∷ get_or s (at + 1) 0 ∷ get_or s (at + 2) 0 ∷ get_or s (at + 3) 0 ∷ get_or s (at + 4) 0 ∷ l) t)

  -- several
  pub raw_windows : (n at : ℕ) → drop at s ≡ windows_bytes (raws_in s at (windows_of size s n at)) ++ drop (after_all at (windows_of size s n at)) s
  unfolding windows_of
  raw_windows zero at = refl
  raw_windows (suc n) at =
      by_first size s (λ ws. drop at s ≡ windows_bytes (raws_in s at ws) ++ drop (after_all at ws) s) n at refl
      (λ w. let e : (read_window_of size s at).next ≡ next_at s at = ap (λ (r : ReadWindow). r.next) w.reads in
      let u = raw_windows n (next_at s at) in
      raw_window at w
      ∙ rw e
      (ap (λ (l : List ℕ). window_bytes (raw_in s at (read_window_of size s at)) ++ l) u
      ∙ sym (append_assoc (window_bytes (raw_in s at (read_window_of size s at))) (windows_bytes (raws_in s (next_at s at) (windows_of size s n (next_at s at)))) _)))

  -- as many bytes
  pub raw_long : (at : ℕ) → Whole size s at → at + length (window_bytes (raw_in s at (read_window_of size s at))) ≡ next_at s at
  raw_long at w =
      rw w.reads
      (let k = length-take-le (width_of (start_at s at) (end_at s at)) (drop (at + 5) s) (omega (arith, length-drop (at + 5) s, w.all_there)) in
      omega arith)

  -- the next one stands as far on as it reaches, and six bytes more
  far : (at : ℕ) → Whole size s at → at + (6 + ((read_window_of size s at).end - (read_window_of size s at).start)) ≡ next_at s at
  far at w = rw w.reads (omega arith)

  -- a whole window, its reach in front: what follows goes on at the next one
  reach_on : (P : ℕ → Type 0) (at : ℕ) → Whole size s at → P (next_at s at) → P (at + (6 + ((read_window_of size s at).end - (read_window_of size s at).start)))
  reach_on P at w p = subst P (sym (far at w)) p

  -- all of them end where the last one does
  pub ends_are : (n at : ℕ) → end_of at (reaches_of (windows_of size s n at)) ≡ after_all at (windows_of size s n at)
  unfolding windows_of
  ends_are zero at = refl
  ends_are (suc n) at =
      by_first size s (λ ws. end_of at (reaches_of ws) ≡ after_all at ws) n at refl
      (λ w. let e : (read_window_of size s at).next ≡ next_at s at = ap (λ (r : ReadWindow). r.next) w.reads in
      rw e (reach_on (λ i. end_of i (reaches_of (windows_of size s n (next_at s at))) ≡ after_all (next_at s at) (windows_of size s n (next_at s at))) at w (ends_are n (next_at s at))))

  -- their null bytes put out, behind whatever stands before them
  pub nulls_are : (n at : ℕ) (pre rest : List ℕ) → at ≡ length pre
      → nulls_out at (reaches_of (windows_of size s n at)) (pre ++ (windows_bytes (raws_in s at (windows_of size s n at)) ++ rest))
      ≡ pre ++ (windows_bytes (nulled (raws_in s at (windows_of size s n at))) ++ rest)
  unfolding windows_of
  nulls_are zero at pre rest e = refl
  nulls_are (suc n) at pre rest e =
      by_first size s
      (λ ws. nulls_out at (reaches_of ws) (pre ++ (windows_bytes (raws_in s at ws) ++ rest)) ≡ pre ++ (windows_bytes (nulled (raws_in s at ws)) ++ rest)) n at refl
      (λ w. let x : Window = raw_in s at (read_window_of size s at) in
      let ws : List ReadWindow = windows_of size s n (next_at s at) in
      let f : (read_window_of size s at).next ≡ next_at s at = ap (λ (r : ReadWindow). r.next) w.reads in
      let later : List ℕ = windows_bytes (raws_in s (next_at s at) ws) ++ rest in
      let first : List ℕ = (x.start / 256) ∷ (x.start % 256) ∷ (x.end / 256) ∷ (x.end % 256) ∷ x.bytes in
      let q : List ℕ = pre ++ (null_byte ∷ first) in
      let l : next_at s at ≡ length q = sym (raw_long at w) ∙ omega (arith, e, length-append pre (null_byte ∷ first)) in
      rw f
      (reach_on (λ i. nulls_out i (reaches_of ws) (set (pre ++ (windows_bytes (x ∷ raws_in s (next_at s at) ws) ++ rest)) at null_byte)
      ≡ pre ++ (windows_bytes (nulled (x ∷ raws_in s (next_at s at) ws)) ++ rest)) at w
      (ap (λ (o : List ℕ). nulls_out (next_at s at) (reaches_of ws) o)
      (ap (λ (y : List ℕ). set (pre ++ y) at null_byte) (append_assoc (x.null ∷ first) (windows_bytes (raws_in s (next_at s at) ws)) rest)
      ∙ set_at pre x.null (first ++ later) null_byte at (sym e)
      ∙ sym (append_assoc pre (null_byte ∷ first) later))
      ∙ nulls_are n (next_at s at) q rest l
      ∙ append_assoc pre (null_byte ∷ first) (windows_bytes (nulled (raws_in s (next_at s at) ws)) ++ rest)
      ∙ ap (λ (y : List ℕ). pre ++ y) (sym (append_assoc (null_byte ∷ first) (windows_bytes (nulled (raws_in s (next_at s at) ws))) rest)))))
