-- Every byte that was fetched counts as taken; with 16 all that were asked for were fetched; with 18 the counter is not below the EPROM's length. Assumes
-- nothing.
use Prim.Native.Nat.{ℕ, zero, suc, ◌+◌, ◌%◌, ◌^◌, ◌<◌, ◌≤◌}
use mathlib.Core.Path.{◌≡◌, refl, ap, sym, ◌∙◌}
use mathlib.Core.List.{List}
use native.Mathlib.Nat.{mod-add-mod, mod-eq_of_lt, mod-lt, add-zero}
use native.Mathlib.Omega.{arith}
use lib.Dec.{lit<}
use lib.ListN.{length}
use Rattle.chain.specs.declared.Chain.{Chain}
use Rattle.chain.specs.Paper.{more, past_eprom, bad_jump}
use Rattle.machine.specs.Run.{memory_of, missed_of, counted, went_on}
use Rattle.machine.proofs.Frame.{advance_frame}
use Rattle.eprom.specs.declared.Fetcher.{Fetcher}
use Rattle.eprom.specs.Kept.{onward}
use Rattle.eprom.specs.Fetch.{fetch_all, bytes_fetched}
use Rattle.eprom.specs.Calls.{lent}
use Rattle.eprom.proofs.Own.{never_past}
use Rattle.eprom.proofs.Turns.{byte_at, by_turn, later, fetch_none, bytes-none, comes_past, comes_strays, comes_ends, comes_goes}

-- sums modulo 2^32
one_later : (t n : ℕ) → ((t + 1) % 2 ^ 32 + n) % 2 ^ 32 ≡ (t + suc n) % 2 ^ 32
one_later t n =
    let z : t + 1 + n ≡ t + suc n = omega arith in
    mod-add-mod (t + 1) (2 ^ 32) n ∙ ap (λ (x : ℕ). x % 2 ^ 32) z

module _ (e : List ℕ) where
  pub taken-all : (n : ℕ) (c : Chain) (m : List ℕ) (f : Fetcher) → c.place.taken < 2 ^ 32
      → (fetch_all e n (lent c m f)).run.chain.place.taken ≡ (c.place.taken + length (bytes_fetched e n (lent c m f))) % 2 ^ 32
  taken-all zero c m f h = rw (fetch_none e (lent c m f), bytes-none e (lent c m f)) (sym (rw (add-zero c.place.taken) (mod-eq_of_lt h)))
  taken-all (suc n) c m f h =
      by_turn e c f
      (λ l.
      let t = comes_past e n c m f l in
      rw (t.0, t.1) (sym (rw (add-zero c.place.taken) (mod-eq_of_lt h))))
      (λ l a. let t = comes_strays e n c m f l a in rw (t.0, t.1) refl)
      (λ s g. let t = comes_ends e n c m f s g in rw (t.0, t.1) refl)
      (λ s g.
      let t = comes_goes e n c m f s g in
      let b : ℕ = byte_at e f in
      let o : (went_on c m b).place.taken ≡ (c.place.taken + 1) % 2 ^ 32 = (advance_frame (counted c.place 1 (missed_of c m b)) b).taken in
      rw (t.0, t.1)
      (taken-all n (went_on c m b) (memory_of c m b) (onward c.place f b) (rw o (mod-lt (c.place.taken + 1) (lit< tt)))
      ∙ ap (λ (x : ℕ). (x + length (bytes_fetched e n (later e n c m f))) % 2 ^ 32) o
      ∙ one_later c.place.taken (length (bytes_fetched e n (later e n c m f)))))

  pub more-all : (n : ℕ) (c : Chain) (m : List ℕ) (f : Fetcher) → (fetch_all e n (lent c m f)).run.number ≡ more
      → length (bytes_fetched e n (lent c m f)) ≡ n
  more-all zero c m f h = unfold bytes_fetched in refl
  more-all (suc n) c m f h =
      by_turn e c f (λ l. absurd (no_past (rw (comes_past e n c m f l).0 at h))) (λ l a. absurd (no_jump (rw (comes_strays e n c m f l a).0 at h)))
      (λ s g. absurd (g (rw (comes_ends e n c m f s g).0 at h)))
      (λ s g.
      let t = comes_goes e n c m f s g in
      rw t.1 (ap suc (more-all n (went_on c m (byte_at e f)) (memory_of c m (byte_at e f)) (onward c.place f (byte_at e f)) (rw t.0 at h))))
    where
      no_past : past_eprom ≡ more → ⊥
      no_past q = omega arith

      no_jump : bad_jump ≡ more → ⊥
      no_jump q = omega arith

  pub past_beyond : (n : ℕ) (c : Chain) (m : List ℕ) (f : Fetcher) → (fetch_all e n (lent c m f)).run.number ≡ past_eprom
      → length e ≤ (fetch_all e n (lent c m f)).fetcher.counter
  past_beyond zero c m f h = absurd (no_more (rw (fetch_none e (lent c m f)) at h))
    where
      no_more : more ≡ past_eprom → ⊥
      no_more q = omega arith
  past_beyond (suc n) c m f h =
      by_turn e c f (λ l. rw (comes_past e n c m f l).0 l) (λ l a. absurd (no_jump (rw (comes_strays e n c m f l a).0 at h)))
      (λ s g. absurd (never_past c (byte_at e f) (rw (comes_ends e n c m f s g).0 at h)))
      (λ s g.
      let t = comes_goes e n c m f s g in
      rw t.0 (past_beyond n (went_on c m (byte_at e f)) (memory_of c m (byte_at e f)) (onward c.place f (byte_at e f)) (rw t.0 at h)))
    where
      no_jump : bad_jump ≡ past_eprom → ⊥
      no_jump q = omega arith
