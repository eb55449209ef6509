-- What one step through windows that are known to be whole tells. Assumes nothing.
use Prim.Native.Nat.{◌+◌, ◌-◌, ◌≤◌}
use mathlib.Core.Path.{◌≡◌, sym, ap, ◌∙◌}
use mathlib.Core.List.{[], ◌∷◌}
use native.Mathlib.Omega.{arith}
use Rattle.reader.specs.declared.window.WholeWindow.{WholeWindow}
use Rattle.reader.specs.declared.whole.Windows.{Windows}
use Rattle.reader.specs.Windows.{ReadWindow, next_at, read_window_of, whole_of}
use Rattle.reader.specs.Walk.{Next, windows_left}
use Rattle.reader.proofs.Windows.{Whole, windows-first, windows-list-none, next_is, reach}

pub left_none : (ws : Windows) → ws.left ≡ 0 → windows_left ws ≡ []
left_none ws h = windows-list-none ws.size ws.s.now ws.left ws.at (omega arith)

module _ (ws : Windows) (w : WholeWindow) (rest : Windows) (x : Next ws w rest) where
  -- the window stands where it is awaited, in the stream and whole
  pub left_whole : Whole ws.size ws.s.now ws.at
  left_whole = (windows-first ws.size ws.s.now ws.left ws.at x.some_left ws.whole).0

  -- it is the first of those that are left, and the others are left after it
  pub left_more : windows_left ws ≡ whole_of w ∷ windows_left rest
  left_more =
      let o : ws.left - 1 ≡ rest.left = omega (arith, x.one_less) in
      let n : (read_window_of ws.size ws.s.now ws.at).next ≡ rest.at = ap (λ (r : ReadWindow). r.next) (sym x.reads) ∙ sym x.after in
      (windows-first ws.size ws.s.now ws.left ws.at x.some_left ws.whole).1 ∙ rw (x.reads, o, n, x.same_size, x.same_stream)

  pub next_near : ws.size ≤ 65535 → rest.at ≤ ws.at + 65540
  next_near l =
      let n : (read_window_of ws.size ws.s.now ws.at).next ≡ rest.at = ap (λ (r : ReadWindow). r.next) (sym x.reads) ∙ sym x.after in
      let k = reach ws.size ws.s.now ws.at in
      omega (arith, n, next_is ws.size ws.s.now ws.at)

  next_is_at : rest.at ≡ next_at ws.s.now ws.at
  next_is_at = x.after ∙ ap (λ (r : ReadWindow). r.next) (x.reads ∙ left_whole.reads)

  pub next_past : ws.at + 5 ≤ rest.at
  next_past = omega (arith, next_is_at)

  pub first_is : w.first ≡ ws.at + 5
  first_is = ap (λ (r : ReadWindow). r.first) (x.reads ∙ left_whole.reads)
