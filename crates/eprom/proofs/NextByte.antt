-- A fetched byte with which the run goes on, and what the next one is met with. Assumes nothing.
use Rattle.std.proofs.Common.{◌≡◌, ℕ, suc, ◌+◌, ◌%◌, ◌^◌, ◌<◌, ◌≤◌, Bool, true, false, eqb, ◌⊎◌, List, ◌∷◌, length, sym, refl, ap, ◌∙◌, subst, inl, inr, ⊎_elim, arith, lit<, lit≤, ltb-false, ne_eqb, eqb-true}
use mathlib.Core.Bool.{and-false, or-true}
use borrow.Author.Tests.{eqb-false}
use Rattle.chain.specs.declared.Chain.{Chain}
use Rattle.chain.specs.declared.Place.{Place}
use Rattle.chain.specs.Paper.{at_count, at_null, at_check, two_preambles, most_devices, no_windows, more, B1}
use Rattle.chain.specs.Rules.{pick, row_of}
use Rattle.chain.specs.Set.{with_awaited}
use Rattle.chain.proofs.ByCases.{by_test, by_eq, no_case, ◌or◌, below}
use Rattle.awaited.specs.Byte.{number_of, advance_of}
use Rattle.machine.specs.Run.{missed_of, counted, went_on}
use Rattle.machine.proofs.Frame.{advance_frame}
use Rattle.eprom.specs.declared.Fetcher.{Fetcher}
use Rattle.eprom.specs.Counter.{fetches, last_count, next_of}
use Rattle.eprom.specs.Kept.{with_counter, not_yet, first, kept_rows, kept_of, external_of, jumps, astray, onward}
use Rattle.eprom.specs.Steps.{settled, head_of, control_of, Plain, Free, after_of, kept_through, kept_by, Going}
use Rattle.eprom.proofs.Counters.{next_low}
use Rattle.eprom.proofs.Settled.{settled-jumps, goes, went_device, settled_on}
use Rattle.eprom.proofs.KeptBytes.{two-left, by_through, through-none, through_counter, settled-kept}

-- ---- up to the null byte the awaited bytes follow each other

-- what follows the byte b, awaited as a, up to the count byte
record Follows (d a b : ℕ) (q : Place) : Type 0 where
  awaited : q.awaited ≡ after_of a b
  device : q.device ≡ d

module _ (p : Place) (b : ℕ) (one : eqb p.mode two_preambles ≡ false) where
  abbrev FollowsAt : ℕ → Type 0
  FollowsAt a = Follows p.device a b (advance_of (with_awaited p a) b)

  after_count : FollowsAt at_count
  unfolding advance_of after_of
  after_count =
      by_test (eqb b no_windows) (λ e. record { awaited = rw e; device = rw e }) (λ e. record { awaited = rw e; device = rw e })

  follows : p.awaited ≤ at_count → Follows p.device p.awaited b (advance_of p b)
  unfolding advance_of after_of
  follows h =
      below FollowsAt 7
      (no_case
      or record { awaited = rw one; device = refl }
      or record { awaited = refl; device = refl }
      or record { awaited = refl; device = refl }
      or record { awaited = refl; device = refl }
      or record { awaited = refl; device = refl }
      or record { awaited = refl; device = refl }
      or after_count)
      p.awaited (omega arith)

-- before the count byte a byte less is left, and the next one is not the null byte
record Shorter (a b : ℕ) : Type 0 where
  shorter : head_of a ≡ suc (head_of (after_of a b))
  not_null : eqb (after_of a b) at_null ≡ false

before_count : (a b : ℕ) → a < at_count → Shorter a b
unfolding head_of after_of
before_count a b =
    below (λ (x : ℕ). Shorter x b) 6
    (no_case
    or record { shorter = refl; not_null = refl }
    or record { shorter = refl; not_null = refl }
    or record { shorter = refl; not_null = refl }
    or record { shorter = refl; not_null = refl }
    or record { shorter = refl; not_null = refl }
    or record { shorter = refl; not_null = refl })
    a

-- the control byte at the first null byte is the same, a byte later
control_stays : (a b k : ℕ) (f : Fetcher) (bs : List ℕ) → a ≤ at_count
    → control_of (after_of a b) (with_counter (row_of a (kept_rows f b) f) k) bs ≡ control_of a f (b ∷ bs)
unfolding control_of after_of
control_stays a b k f bs h =
    below (λ (x : ℕ). control_of (after_of x b) (with_counter (row_of x (kept_rows f b) f) k) bs ≡ control_of x f (b ∷ bs)) 7
    (no_case or refl or refl or refl or refl or refl or refl or by_test (eqb b no_windows) (λ e. rw e) (λ e. rw e))
    a (omega arith)

after_early : (a b : ℕ) → a ≤ at_count → (after_of a b ≤ at_null) ⊎ (after_of a b ≡ at_check)
unfolding after_of
after_early a b h =
    below (λ (x : ℕ). (after_of x b ≤ at_null) ⊎ (after_of x b ≡ at_check)) 7
    (no_case
    or inl (lit≤ tt)
    or inl (lit≤ tt)
    or inl (lit≤ tt)
    or inl (lit≤ tt)
    or inl (lit≤ tt)
    or inl (lit≤ tt)
    or by_test (eqb b no_windows) (λ e. rw e (inr refl)) (λ e. rw e (inl (lit≤ tt))))
    a (omega arith)

-- no jump where B1 is clear
plain_jumps : (p : Place) (f : Fetcher) (bs : List ℕ) → Plain p f bs → jumps p f ≡ false
unfolding jumps control_of
plain_jumps p f bs x =
    by_test (eqb p.awaited at_null)
    (λ e. let z = eqb-true p.awaited at_null e in let b : B1 f.control ≡ false = rw z at x.1 in simp (b, and-false))
    (λ e. simp (e, and-false))

-- the modes that fetch have one preamble
pub not-two : (mode : ℕ) → fetches mode ≡ true → eqb mode two_preambles ≡ false
not-two mode h = ne_eqb mode two_preambles (λ e. no (rw e at h))
  where
    no : fetches two_preambles ≡ true → ⊥
    no e = eqb-false 0 1 refl (ap (λ (x : Bool). pick x 0 1) (sym e))

-- ---- one byte: what the next one is met with

module _ (c : Chain) (m : List ℕ) (f : Fetcher) (b : ℕ) where
  abbrev p : Place
  p = c.place

  abbrev p₁ : Place
  p₁ = (went_on c m b).place

  abbrev f₁ : Fetcher
  f₁ = onward p f b

  pub mode_stays : p₁.mode ≡ p.mode
  mode_stays = (advance_frame (counted p 1 (missed_of c m b)) b).mode

  pub one-taken : p₁.taken ≡ (p.taken + 1) % 2 ^ 32
  one-taken = (advance_frame (counted p 1 (missed_of c m b)) b).taken

  -- the counter stays below 2^17, also where it jumps
  low : Going c f → astray p f ≡ false → f₁.counter ≤ last_count
  unfolding onward astray
  low g a =
      by_test (jumps p f)
      (λ j. rw j (ltb-false last_count (external_of f) (rw j at a)))
      (λ j. rw j (next_low p.mode f.counter))

  pub went_going : Going c f → astray p f ≡ false → number_of c b ≡ more → Going (went_on c m b) f₁
  went_going g a n =
      let x = advance_frame (counted p 1 (missed_of c m b)) b in
      record {
        running = x.running ∙ g.running;
        few = g.few;
        device = went_device c m b g.few g.known g.device n;
        known = (goes (counted p 1 (missed_of c m b)) b g.known).awaited;
        mode = rw mode_stays g.mode;
        counter = low g a;
      }

  -- the next bytes, in the same block
  pub record Next (bs : List ℕ) : Type 0 where
    pub no_jump : jumps p f ≡ false
    pub no_jump_next : jumps p₁ f₁ ≡ false
    pub free : Free p₁ f₁ bs
    pub kept : (t : List ℕ) → kept_by p₁ f₁ t ≡ with_counter (kept_by p f (b ∷ t)) (next_of p.mode f.counter)

  abbrev k₁ : ℕ
  k₁ = next_of p.mode f.counter

  -- ---- nothing more is kept

  settled-next : settled p f ≡ true → f₁ ≡ with_counter f k₁
  unfolding onward
  settled-next s = rw (settled-jumps p f s, settled-kept p f b s)

  next-settled : Going c f → settled p f ≡ true → (bs : List ℕ) → Next bs
  unfolding kept_by settled
  next-settled g s bs =
      let j = settled-jumps p f s in
      let e = settled-next s in
      let t : settled p₁ f₁ ≡ true = rw e (settled_on (counted p 1 (missed_of c m b)) b f g.known (omega (arith, g.device, g.few)) s) in
      record { no_jump = j; no_jump_next = settled-jumps p₁ f₁ t; free = inl t; kept = λ u. rw (t, s) e }

  -- ---- at the first device

  module _ (g : Going c f) (d : first p ≡ true) (j : jumps p f ≡ false) where
    row_next : f₁ ≡ with_counter (row_of p.awaited (kept_rows f b) f) k₁
    unfolding onward kept_of
    row_next = rw (j, d)

    -- what is kept of the byte and those behind it
    kept_behind : (t : List ℕ) → with_counter (kept_by p f (b ∷ t)) k₁ ≡ with_counter (kept_through (after_of p.awaited b) (row_of p.awaited (kept_rows f b) f) t) k₁
    unfolding kept_through
    kept_behind t = ap (λ (x : Fetcher). with_counter x k₁) (by_through p f (b ∷ t) d)

    -- up to the count byte
    module _ (l : p.awaited ≤ at_count) where
      abbrev w : Follows p.device p.awaited b p₁
      w = follows (counted p 1 (missed_of c m b)) b (not-two p.mode g.mode) l

      d₁ : first p₁ ≡ true
      d₁ = rw w.device d

      kept_early : (t : List ℕ) → kept_by p₁ f₁ t ≡ with_counter (kept_by p f (b ∷ t)) k₁
      kept_early t =
          by_through p₁ f₁ t d₁
          ∙ ap (λ (a : ℕ). kept_through a f₁ t) w.awaited
          ∙ ap (λ (x : Fetcher). kept_through (after_of p.awaited b) x t) row_next
          ∙ through_counter (after_of p.awaited b) (row_of p.awaited (kept_rows f b) f) t k₁
          ∙ sym (kept_behind t)

      plain_early : (bs : List ℕ) → B1 (control_of p.awaited f (b ∷ bs)) ≡ false → Plain p₁ f₁ bs
      plain_early bs x = (
        subst (λ (a : ℕ). (a ≤ at_null) ⊎ (a ≡ at_check)) (sym w.awaited) (after_early p.awaited b l),
        rw (w.awaited, row_next, control_stays p.awaited b k₁ f bs l) x,
      )

    -- the null byte: nothing is kept behind it
    null_settles : p.awaited ≡ at_null → settled p₁ f₁ ≡ true
    unfolding settled advance_of
    null_settles a = rw (row_next, a) (simp (taken f.nulled, or-true))
      where
        taken : (n : ℕ) → eqb (pick (eqb n not_yet) 1 n) not_yet ≡ false
        taken n = by_test (eqb n not_yet) (λ e. rw e) (λ e. rw (e, e))

    kept_null : p.awaited ≡ at_null → (t : List ℕ) → kept_by p₁ f₁ t ≡ with_counter (kept_by p f (b ∷ t)) k₁
    unfolding kept_by after_of
    kept_null a t =
        let x : row_of p.awaited (kept_rows f b) f ≡ kept_through (after_of p.awaited b) (row_of p.awaited (kept_rows f b) f) t =
        sym (rw a (through-none t at_check (row_of at_null (kept_rows f b) f) (lit< tt))) in
        rw (null_settles a) (row_next ∙ ap (λ (y : Fetcher). with_counter y k₁) x ∙ sym (kept_behind t))

    -- the check byte: on to the next device
    check_settles : p.awaited ≡ at_check → settled p₁ f₁ ≡ true
    unfolding settled advance_of
    check_settles a = rw (a, ne_eqb ((p.device + 1) % 2 ^ 8) 0 (λ z. far p.device c.count g.device g.few z))
      where
        far : (x n : ℕ) → x < n → n ≤ most_devices → (x + 1) % 2 ^ 8 ≡ 0 → ⊥
        far x n l h z = omega arith

    kept-check : p.awaited ≡ at_check → (t : List ℕ) → kept_by p₁ f₁ t ≡ with_counter (kept_by p f (b ∷ t)) k₁
    unfolding kept_by after_of
    kept-check a t =
        let x : row_of p.awaited (kept_rows f b) f ≡ kept_through (after_of p.awaited b) (row_of p.awaited (kept_rows f b) f) t =
        sym (rw a (through-none t at_check f (lit< tt))) in
        rw (check_settles a) (row_next ∙ ap (λ (y : Fetcher). with_counter y k₁) x ∙ sym (kept_behind t))

  -- bytes before the null byte
  next-head : Going c f → first p ≡ true → (bs : List ℕ) → 0 < length bs → suc (length bs) ≤ head_of p.awaited → Next bs
  unfolding jumps
  next-head g d bs some h =
      let l = two-left p.awaited (omega arith) in
      let z = before_count p.awaited b l in
      let j : jumps p f ≡ false = rw (d, ne_eqb p.awaited at_null (λ e. omega arith)) in
      let early : p.awaited ≤ at_count = omega arith in
      let w = follows (counted p 1 (missed_of c m b)) b (not-two p.mode g.mode) early in
      let d₁ : first p₁ ≡ true = rw w.device d in
      record {
        no_jump = j;
        no_jump_next = rw (d₁, w.awaited, z.not_null);
        free = inr (d₁, inl (rw w.awaited (omega (arith, z.shorter))));
        kept = kept_early g d j early;
      }

  -- bytes among which no jump comes
  next_plain : Going c f → first p ≡ true → (bs : List ℕ) → Plain p f (b ∷ bs) → Next bs
  next_plain g d bs x =
      let j = plain_jumps p f (b ∷ bs) x in
      let settles : settled p₁ f₁ ≡ true → ((t : List ℕ) → kept_by p₁ f₁ t ≡ with_counter (kept_by p f (b ∷ t)) k₁) → Next bs =
      λ s k. record { no_jump = j; no_jump_next = settled-jumps p₁ f₁ s; free = inl s; kept = k } in
      ⊎_elim
      (λ (l : p.awaited ≤ at_null).
      by_eq p.awaited at_null (λ e. settles (null_settles g d j e) (kept_null g d j e))
      (λ e.
      let early : p.awaited ≤ at_count = omega arith in
      let y = plain_early g d j early bs x.1 in
      let w = follows (counted p 1 (missed_of c m b)) b (not-two p.mode g.mode) early in
      record { no_jump = j; no_jump_next = plain_jumps p₁ f₁ bs y; free = inr (rw w.device d, inr y); kept = kept_early g d j early }))
      (λ (e : p.awaited ≡ at_check). settles (check_settles g d j e) (kept-check g d j e))
      x.0

  pub next : Going c f → (bs : List ℕ) → 0 < length bs → Free p f (b ∷ bs) → Next bs
  next g bs some =
      ⊎_elim (λ (s : settled p f ≡ true). next-settled g s bs)
      (λ (x : (first p ≡ true) × ((length (b ∷ bs) ≤ head_of p.awaited) ⊎ Plain p f (b ∷ bs))).
      ⊎_elim (λ (l : length (b ∷ bs) ≤ head_of p.awaited). next-head g x.0 bs some l) (λ (y : Plain p f (b ∷ bs)). next_plain g x.0 bs y) x.1)
