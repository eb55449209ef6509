-- The loop over a block's bytes: a turn of it and its end, by what is kept of the bytes that are left. Assumes nothing.
use Rattle.std.proofs.Common.{◌≡◌, ℕ, ◌+◌, ◌<◌, ◌≤◌, List, length, get_or, drop, add-one, drop_of_length-le, drop-cons}
use Rattle.chain.specs.Rules.{row_of}
use Rattle.eprom.specs.declared.Fetcher.{Fetcher}
use Rattle.eprom.specs.Kept.{kept_rows}
use Rattle.eprom.specs.Steps.{after_of, kept_through}

module _ (a : ℕ) (g : Fetcher) (t : List ℕ) (i : ℕ) where
  -- a byte more
  pub through_turn : i < length t → (h : Fetcher) → h ≡ row_of a (kept_rows g (get_or t i 0)) g → (b : ℕ) → b ≡ after_of a (get_or t i 0)
      → kept_through a g (drop i t) ≡ kept_through b h (drop (i + 1) t)
  unfolding kept_through
  through_turn l h e b f = rw (add-one, drop-cons t i 0 l, e, f)

  pub through-end : length t ≤ i → kept_through a g (drop i t) ≡ g
  unfolding kept_through
  through-end l = rw (drop_of_length-le t l)
