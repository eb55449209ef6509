-- Along a run: which byte it awaits after its first ones, and that what is kept then, and after its last byte, is what the run's bytes say. Assumes nothing.
use Prim.Native.Nat.{ℕ, suc, ◌<◌, ◌≤◌}
use mathlib.Core.Bool.{true, false, not, ◌&&◌, true≢false}
use mathlib.Core.Path.{◌≡◌, refl, sym, ◌∙◌}
use mathlib.Core.List.{List, [], ◌∷◌, ◌++◌}
use native.Mathlib.Numerals.{add-one}
use borrow.Author.Tests.{eqb-false}
use lib.Dec.{eqb}
use lib.ListN.{length, length-append}
use Rattle.chain.specs.declared.Place.{Place}
use Rattle.chain.specs.Paper.{no_windows, at_preamble, at_control, at_address, at_address2, at_address3, at_count, at_null, at_check, two_preambles, most_devices, B1, bad_jump}
use Rattle.chain.specs.Rules.{pick}
use Rattle.chain.proofs.ByCases.{by_test}
use Rattle.chain.proofs.Means.{says, reads}
use Rattle.awaited.specs.Byte.{advance_of}
use Rattle.machine.specs.Run.{counted}
use Rattle.eprom.specs.declared.Fetcher.{Fetcher}
use Rattle.eprom.specs.Counter.{last_count, next_of}
use Rattle.eprom.specs.Kept.{with_counter, not_yet, kept_of, external_of, jumps, astray, onward, fetcher_at_end}
use Rattle.demands.specs.EpromCounter.{address_in, jumps_in, kept_after, end_after}
use Rattle.eprom.specs.Steps.{settled}
use Rattle.eprom.proofs.Settled.{settled-jumps, settled_on, astray-jumps, astray-at}
use Rattle.eprom.proofs.KeptBytes.{settled-kept}

pub data Along (mode k : ℕ) : List ℕ → Place → Fetcher → Type 0 where
  at_0 : {p : Place} {f : Fetcher} → p.device ≡ 0 → p.awaited ≡ at_preamble → f.counter ≡ k → Along mode k [] p f
  at_2 : (s : ℕ) {p : Place} {f : Fetcher} → p.device ≡ 0 → p.awaited ≡ at_control → f ≡ kept_after mode k (s ∷ []) → Along mode k (s ∷ []) p f
  at_3 : (s t : ℕ) {p : Place} {f : Fetcher} → p.device ≡ 0 → p.awaited ≡ at_address → f ≡ kept_after mode k (s ∷ t ∷ []) → Along mode k (s ∷ t ∷ []) p f
  at_4 : (s t u : ℕ) {p : Place} {f : Fetcher} → p.device ≡ 0 → p.awaited ≡ at_address2 → f ≡ kept_after mode k (s ∷ t ∷ u ∷ [])
      → Along mode k (s ∷ t ∷ u ∷ []) p f
  at_5 : (s t u v : ℕ) {p : Place} {f : Fetcher} → p.device ≡ 0 → p.awaited ≡ at_address3 → f ≡ kept_after mode k (s ∷ t ∷ u ∷ v ∷ [])
      → Along mode k (s ∷ t ∷ u ∷ v ∷ []) p f
  at_6 : (s t u v w : ℕ) {p : Place} {f : Fetcher} → p.device ≡ 0 → p.awaited ≡ at_count → f ≡ kept_after mode k (s ∷ t ∷ u ∷ v ∷ w ∷ [])
      → Along mode k (s ∷ t ∷ u ∷ v ∷ w ∷ []) p f
  at_7 : (s t u v w n : ℕ) {p : Place} {f : Fetcher} → p.device ≡ 0 → p.awaited ≡ pick (eqb n no_windows) at_check at_null
      → f ≡ kept_after mode k (s ∷ t ∷ u ∷ v ∷ w ∷ n ∷ []) → Along mode k (s ∷ t ∷ u ∷ v ∷ w ∷ n ∷ []) p f
  later : (s t u v w n z : ℕ) (bs : List ℕ) {p : Place} {f : Fetcher} → settled p f ≡ true → f ≡ kept_after mode k (s ∷ t ∷ u ∷ v ∷ w ∷ n ∷ z ∷ bs)
      → Along mode k (s ∷ t ∷ u ∷ v ∷ w ∷ n ∷ z ∷ bs) p f

apart : {x y : ℕ} → x ≡ y → x ≡ at_null → eqb y at_null ≡ false → ⊥
apart {x} {y} a n e = eqb-false y at_null e (sym a ∙ n)

-- a jump astray: the control byte and the address that were kept
astray_far : (p : Place) (f : Fetcher) → astray p f ≡ true → (B1 f.control ≡ true) × (last_count < external_of f)
unfolding astray jumps
astray_far p f h =
    let t : ((p.device ≡ 0) × (p.awaited ≡ at_null) × (f.nulled ≡ not_yet) × (B1 f.control ≡ true)) × (last_count < external_of f) =
    says (search reads) h in
    (t.0.3, t.1)

-- one byte more
module _ (mode k b j : ℕ) where
  abbrev next : Place → Place
  next p = advance_of (counted p 1 j) b

  -- the seventh byte: the first null byte, or with no windows the check byte
  module _ (s t u v w n : ℕ) (p : Place) (f : Fetcher) (d : p.device ≡ 0) (a : p.awaited ≡ pick (eqb n no_windows) at_check at_null)
      (e : f ≡ kept_after mode k (s ∷ t ∷ u ∷ v ∷ w ∷ n ∷ [])) where
    at_check_lem : eqb n no_windows ≡ true → p.awaited ≡ at_check
    at_check_lem q = rw q at a

    null_next : eqb n no_windows ≡ false → p.awaited ≡ at_null
    null_next q = rw q at a

    seventh_settles : settled (next p) (onward p f b) ≡ true
    unfolding advance_of onward kept_of settled
    seventh_settles = by_test (eqb n no_windows) (λ q. rw (at_check_lem q, d)) (λ q. rw (e, d, null_next q))

    seventh_kept : p.mode ≡ mode → onward p f b ≡ kept_after mode k (s ∷ t ∷ u ∷ v ∷ w ∷ n ∷ b ∷ [])
    unfolding onward kept_of jumps external_of
    seventh_kept m =
        by_test (eqb n no_windows) (λ q. rw (e, d, at_check_lem q, m, q))
        (λ q. by_test (B1 t) (λ r. rw (e, d, null_next q, m, q, r)) (λ r. rw (e, d, null_next q, m, q, r)))

  -- a later one: the counter alone goes on
  module _ (p : Place) (f : Fetcher) (m : p.mode ≡ mode) (h : settled p f ≡ true) where
    later_is : onward p f b ≡ with_counter f (next_of mode f.counter)
    unfolding onward
    later_is = rw (settled-kept p f b h, settled-jumps p f h, m)

    later_settles : p.device < most_devices → p.awaited ≤ at_check → settled (next p) (onward p f b) ≡ true
    unfolding settled
    later_settles few known = rw later_is (settled_on (counted p 1 j) b f known few h)

    later-kept : (s t u v w n z : ℕ) (bs : List ℕ) → f ≡ kept_after mode k (s ∷ t ∷ u ∷ v ∷ w ∷ n ∷ z ∷ bs)
        → onward p f b ≡ kept_after mode k (s ∷ t ∷ u ∷ v ∷ w ∷ n ∷ z ∷ (bs ++ (b ∷ [])))
    later-kept s t u v w n z bs e =
        let long : length (bs ++ (b ∷ [])) ≡ suc (length bs) = length-append bs (b ∷ []) ∙ add-one (length bs) in
        later_is ∙ by_test (not (eqb n no_windows) && B1 t) (λ q. rw (e, long, q)) (λ q. rw (e, long, q))

  pub along_on : eqb mode two_preambles ≡ false → (bs : List ℕ) (p : Place) (f : Fetcher) → p.mode ≡ mode → p.device < most_devices
      → p.awaited ≤ at_check → Along mode k bs p f → Along mode k (bs ++ (b ∷ [])) (next p) (onward p f b)
  unfolding advance_of onward kept_of jumps
  along_on two _ p f m few known (at_0 d a e) = at_2 b {p = next p} {f = onward p f b} (rw a d) (rw (a, m, two)) (rw (d, a, m, e))
  along_on two _ p f m few known (at_2 s d a e) = at_3 s b {p = next p} {f = onward p f b} (rw a d) (rw a) (rw (e, d, a, m))
  along_on two _ p f m few known (at_3 s t d a e) = at_4 s t b {p = next p} {f = onward p f b} (rw a d) (rw a) (rw (e, d, a, m))
  along_on two _ p f m few known (at_4 s t u d a e) = at_5 s t u b {p = next p} {f = onward p f b} (rw a d) (rw a) (rw (e, d, a, m))
  along_on two _ p f m few known (at_5 s t u v d a e) = at_6 s t u v b {p = next p} {f = onward p f b} (rw a d) (rw a) (rw (e, d, a, m))
  along_on two _ p f m few known (at_6 s t u v w d a e) =
      at_7 s t u v w b {p = next p} {f = onward p f b}
      (rw a (by_test (eqb b no_windows) (λ q. rw q d) (λ q. rw q d)))
      (rw a (by_test (eqb b no_windows) (λ q. rw q) (λ q. rw q)))
      (rw (e, d, a, m))
  along_on two _ p f m few known (at_7 s t u v w n d a e) =
      later s t u v w n b [] {p = next p} {f = onward p f b} (seventh_settles s t u v w n p f d a e) (seventh_kept s t u v w n p f d a e m)
  along_on two _ p f m few known (later s t u v w n z bs h e) =
      later s t u v w n z (bs ++ (b ∷ [])) {p = next p} {f = onward p f b} (later_settles p f m h few known) (later-kept p f m h s t u v w n z bs e)

  -- the run's last byte: B0 of the control byte decides
  module _ (x : ℕ) (plain : eqb x bad_jump ≡ false) where
    seventh_ends : (s t u v w n : ℕ) (p : Place) (f : Fetcher) → p.device ≡ 0 → p.awaited ≡ at_check → eqb n no_windows ≡ true
        → f ≡ kept_after mode k (s ∷ t ∷ u ∷ v ∷ w ∷ n ∷ []) → p.mode ≡ mode → fetcher_at_end p f b ≡ end_after mode k (s ∷ t ∷ u ∷ v ∷ w ∷ n ∷ b ∷ []) x
    unfolding fetcher_at_end kept_of
    seventh_ends s t u v w n p f d a q e m = rw (e, d, a, m, q, plain)

    later-ends : (s t u v w n z : ℕ) (bs : List ℕ) (p : Place) (f : Fetcher) → settled p f ≡ true → p.mode ≡ mode
        → f ≡ kept_after mode k (s ∷ t ∷ u ∷ v ∷ w ∷ n ∷ z ∷ bs) → fetcher_at_end p f b ≡ end_after mode k (s ∷ t ∷ u ∷ v ∷ w ∷ n ∷ z ∷ (bs ++ (b ∷ []))) x
    unfolding fetcher_at_end
    later-ends s t u v w n z bs p f h m e =
        let long : length (bs ++ (b ∷ [])) ≡ suc (length bs) = length-append bs (b ∷ []) ∙ add-one (length bs) in
        rw (settled-kept p f b h)
        (by_test (not (eqb n no_windows) && B1 t) (λ q. rw (e, long, q, m, plain)) (λ q. rw (e, long, q, m, plain)))

    -- a null byte ends no run
    pub along_ends : (bs : List ℕ) (p : Place) (f : Fetcher) → p.mode ≡ mode → (p.awaited ≡ at_null → ⊥) → Along mode k bs p f
        → fetcher_at_end p f b ≡ end_after mode k (bs ++ (b ∷ [])) x
    unfolding fetcher_at_end kept_of
    along_ends _ p f m g (at_0 d a e) = rw (d, a, m)
    along_ends _ p f m g (at_2 s d a e) = rw (e, d, a, m, plain)
    along_ends _ p f m g (at_3 s t d a e) = rw (e, d, a, m, plain)
    along_ends _ p f m g (at_4 s t u d a e) = rw (e, d, a, m, plain)
    along_ends _ p f m g (at_5 s t u v d a e) = rw (e, d, a, m, plain)
    along_ends _ p f m g (at_6 s t u v w d a e) = rw (e, d, a, m, plain)
    along_ends _ p f m g (at_7 s t u v w n d a e) =
        by_test (eqb n no_windows) (λ q. seventh_ends s t u v w n p f d (rw q at a) q e m) (λ q. absurd (g (rw q at a)))
    along_ends _ p f m g (later s t u v w n z bs h e) = later-ends s t u v w n z bs p f h m e

  -- a jump astray: at the seventh byte, after which the counter is one later
  pub along_strays : (bs : List ℕ) (p : Place) (f : Fetcher) → p.mode ≡ mode → p.awaited ≡ at_null → jumps p f ≡ true → Along mode k bs p f
      → fetcher_at_end p f b ≡ end_after mode k (bs ++ (b ∷ [])) bad_jump
  unfolding fetcher_at_end kept_of
  along_strays _ p f m y r (at_0 d a e) = absurd (apart a y refl)
  along_strays _ p f m y r (at_2 s d a e) = absurd (apart a y refl)
  along_strays _ p f m y r (at_3 s t d a e) = absurd (apart a y refl)
  along_strays _ p f m y r (at_4 s t u d a e) = absurd (apart a y refl)
  along_strays _ p f m y r (at_5 s t u v d a e) = absurd (apart a y refl)
  along_strays _ p f m y r (at_6 s t u v w d a e) = absurd (apart a y refl)
  along_strays _ p f m y r (at_7 s t u v w n d a e) = rw (e, d, y, m)
  along_strays _ p f m y r (later s t u v w n z bs h e) = absurd (true≢false (sym r ∙ settled-jumps p f h))

-- and its external address is above 1FFFF
abbrev pub Far : List ℕ → Type 0
Far bs = (jumps_in bs ≡ true) × (last_count < address_in bs)

module _ (mode k b : ℕ) where
  pub along_far : (bs : List ℕ) (p : Place) (f : Fetcher) → astray p f ≡ true → Along mode k bs p f → Far (bs ++ (b ∷ []))
  unfolding external_of
  along_far _ p f r (at_0 d a e) = absurd (apart a (astray-at p f r) refl)
  along_far _ p f r (at_2 s d a e) = absurd (apart a (astray-at p f r) refl)
  along_far _ p f r (at_3 s t d a e) = absurd (apart a (astray-at p f r) refl)
  along_far _ p f r (at_4 s t u d a e) = absurd (apart a (astray-at p f r) refl)
  along_far _ p f r (at_5 s t u v d a e) = absurd (apart a (astray-at p f r) refl)
  along_far _ p f r (at_6 s t u v w d a e) = absurd (apart a (astray-at p f r) refl)
  along_far _ p f r (at_7 s t u v w n d a e) =
      let g : (B1 f.control ≡ true) × (last_count < external_of f) = astray_far p f r in
      by_test (eqb n no_windows) (λ q. absurd (apart {y = at_check} (rw q at a) (astray-at p f r) refl))
      (λ q. (rw q (rw e at g.0), rw e at g.1))
  along_far _ p f r (later s t u v w n z bs h e) = absurd (true≢false (sym (astray-jumps p f r) ∙ settled-jumps p f h))
