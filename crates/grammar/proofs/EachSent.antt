-- A claim of every byte sent, by what it is meant for: of streams put together, of a front, and of windows and the lead-in, whose bytes are framing or
-- meant for cells. Assumes nothing.
use Prim.Native.Nat.{ℕ, zero, suc, ◌+◌}
use mathlib.Core.Bool.{Bool, true, false}
use mathlib.Core.List.{List, [], ◌∷◌, ◌++◌}
use lib.Dec.{eqb}
use lib.ListN.{take}
use Rattle.chain.specs.Paper.{preamble, two_preambles}
use Rattle.chain.specs.Rules.{pick}
use Rattle.grammar.specs.Sent.{Target, framing, cell, Sent, frame}
use Rattle.grammar.specs.Stream.{Window, data_sent, window_sent, windows_sent, lead_sent}

module _ (P : Target → ℕ → Type 0) where
  abbrev pub Each : List Sent → Type 0
  Each [] = Unit {0}
  Each (x ∷ xs) = P x.to x.byte × Each xs

  pub each_append : (xs ys : List Sent) → Each xs → Each ys → Each (xs ++ ys)
  each_append [] ys p q = q
  each_append (x ∷ xs) ys p q = (p.0, each_append xs ys p.1 q)

  pub each_take : (k : ℕ) (xs : List Sent) → Each xs → Each (take k xs)
  each_take zero xs p = tt
  each_take (suc k) [] p = tt
  each_take (suc k) (x ∷ xs) p = (p.0, each_take k xs p.1)

  module _ (f : (b : ℕ) → P framing b) where
    pub each_lead : (mode : ℕ) → Each (lead_sent mode)
    each_lead mode = either (eqb mode two_preambles)
      where
        either : (k : Bool) → Each (pick k (frame preamble ∷ frame preamble ∷ []) (frame preamble ∷ []))
        either true = (f preamble, (f preamble, tt))
        either false = (f preamble, tt)

    module _ (c : (i b : ℕ) → P (cell i) b) where
      each_data : (i : ℕ) (bs : List ℕ) → Each (data_sent i bs)
      each_data i [] = tt
      each_data i (b ∷ bs) = (c i b, each_data (suc i) bs)

      pub each_windows : (base : ℕ) (ws : List Window) → Each (windows_sent base ws)
      each_windows base [] = tt
      each_windows base (w ∷ ws) =
          each_append (window_sent base w) (windows_sent base ws) (f _, (f _, (f _, (f _, (f _, each_data (base + w.start) w.bytes))))) (each_windows base ws)
