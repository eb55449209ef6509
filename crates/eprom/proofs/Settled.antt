-- Where nothing more of a run is kept: no jump is left, and it stays so. Assumes nothing.
use Rattle.std.proofs.Common.{◌≡◌, ℕ, ◌+◌, ◌%◌, ◌^◌, ◌<◌, ◌≤◌, Bool, true, false, not, ◌&&◌, ◌||◌, eqb, ltb, leb, ◌⊎◌, List, sym, refl, inl, inr, ⊎_elim, true≢false, arith, lit<, lit≤, eq-eqb, ne_eqb, le-leb, leb-false, leb-true}
use mathlib.Core.Bool.{and-false}
use borrow.Author.Tests.{not-false}
use Rattle.chain.specs.declared.Chain.{Chain}
use Rattle.chain.specs.declared.Place.{Place}
use Rattle.chain.specs.Paper.{preamble, no_windows, two_preambles, at_preamble, at_second, at_control, at_count, at_null, at_data, at_check, most_devices, done, bad_check_byte, last_device, more, B1}
use Rattle.chain.proofs.Means.{says, reads}
use Rattle.chain.proofs.ByCases.{either_way, no_case, ◌or◌, below}
use Rattle.chain.specs.Set.{with_awaited}
use Rattle.awaited.specs.Byte.{awaits, next_device, number_of, passed_of, advance_of}
use Rattle.machine.specs.Run.{missed_of, counted, went_on}
use Rattle.grammar.proofs.Runs.Steps.{no_rule}
use Rattle.eprom.specs.declared.Fetcher.{Fetcher}
use Rattle.eprom.specs.Counter.{last_count}
use Rattle.eprom.specs.Kept.{not_yet, first, external_of, jumps, astray}
use Rattle.eprom.specs.Steps.{settled}

-- ---- where it is not so yet, the run is at the first device

either : (a b : Bool) → (not a || b) ≡ false → a ≡ true
either true b e = refl
either false b e = sym e

pub unsettled : (p : Place) (f : Fetcher) → settled p f ≡ false → first p ≡ true
unfolding settled
unsettled p f e = either (first p) (leb at_count p.awaited && not (eqb f.nulled not_yet)) e

-- ---- no jump is left

no_jump : (a b d e g : Bool) → (not a || b && not d) ≡ true → (a && e && d && g) ≡ false
no_jump false b d e g h = refl
no_jump true b false e g h = rw (and-false e) refl
no_jump true true true e g h = absurd (true≢false (sym h))
no_jump true false true e g h = absurd (true≢false (sym h))

pub settled-jumps : (p : Place) (f : Fetcher) → settled p f ≡ true → jumps p f ≡ false
unfolding settled jumps
settled-jumps p f h =
    no_jump (first p) (leb at_count p.awaited) (eqb f.nulled not_yet) (eqb p.awaited at_null) (B1 f.control) h

pub no_jump_right : (p : Place) (f : Fetcher) → jumps p f ≡ false → astray p f ≡ false
unfolding astray
no_jump_right p f h = rw h

-- a jump that goes astray is a jump, and at a null byte
pub astray-jumps : (p : Place) (f : Fetcher) → astray p f ≡ true → jumps p f ≡ true
unfolding astray
astray-jumps p f h = front (jumps p f) (ltb last_count (external_of f)) h
  where
    front : (a b : Bool) → (a && b) ≡ true → a ≡ true
    front true b h = refl
    front false b h = h

pub astray-at : (p : Place) (f : Fetcher) → astray p f ≡ true → p.awaited ≡ at_null
unfolding astray jumps
astray-at p f h =
    let t : ((p.device ≡ 0) × (p.awaited ≡ at_null) × (f.nulled ≡ not_yet) × (B1 f.control ≡ true)) × (last_count < external_of f) =
    says (search reads) h in
    t.0.1

-- ---- it stays so

-- after a byte that goes on: in the next device, or in the same and not back before the count byte
pub record Goes (p : Place) (a : ℕ) (q : Place) : Type 0 where
  pub awaited : q.awaited ≤ at_check
  pub device : ((a ≡ at_check) × (q.device ≡ next_device p)) ⊎ ((q.device ≡ p.device) × (at_count ≤ a → at_count ≤ q.awaited))

-- the place p, awaiting a, and the byte b: with a numeral for a the rows compute
module _ (p : Place) (b : ℕ) where
  abbrev GoesAt : ℕ → Type 0
  GoesAt a = Goes p a (advance_of (with_awaited p a) b)

  -- before the count byte, and from there on
  early : (a : ℕ) (q : Place) → a < at_count → q.awaited ≤ at_check → q.device ≡ p.device → Goes p a q
  early a q l k d = record { awaited = k; device = inr (d, λ h. absurd (late a l h)) }
    where
      late : (a : ℕ) → a < at_count → at_count ≤ a → ⊥
      late a l h = omega arith

  later : (a : ℕ) (q : Place) → q.awaited ≤ at_check → at_count ≤ q.awaited → q.device ≡ p.device → Goes p a q
  later a q k l d = record { awaited = k; device = inr (d, λ _. l) }

  goes_0 : GoesAt at_preamble
  unfolding advance_of
  goes_0 = either_way (λ (x : ℕ). Goes p at_preamble (with_awaited p x)) (eqb p.mode two_preambles) at_second at_control (early 0 _ (lit< tt) (lit≤ tt) refl) (early 0 _ (lit< tt) (lit≤ tt) refl)

  goes_6 : GoesAt at_count
  unfolding advance_of
  goes_6 = either_way (Goes p at_count) (eqb b no_windows) _ _ (later 6 _ (lit≤ tt) (lit≤ tt) refl) (later 6 _ (lit≤ tt) (lit≤ tt) refl)

  goes_12 : GoesAt at_data
  unfolding advance_of passed_of
  goes_12 =
      either_way (Goes p at_data) (leb (p.next + 1) p.end) _ _ (later 12 _ (lit≤ tt) (lit≤ tt) refl)
      (either_way (Goes p at_data) (ltb 1 p.left) _ _ (later 12 _ (lit≤ tt) (lit≤ tt) refl) (later 12 _ (lit≤ tt) (lit≤ tt) refl))

  pub goes : p.awaited ≤ at_check → Goes p p.awaited (advance_of p b)
  unfolding advance_of
  goes h =
      below GoesAt 14
      (no_case
      or goes_0
      or early 1 _ (lit< tt) (lit≤ tt) refl
      or early 2 _ (lit< tt) (lit≤ tt) refl
      or early 3 _ (lit< tt) (lit≤ tt) refl
      or early 4 _ (lit< tt) (lit≤ tt) refl
      or early 5 _ (lit< tt) (lit≤ tt) refl
      or goes_6
      or later 7 _ (lit≤ tt) (lit≤ tt) refl
      or later 8 _ (lit≤ tt) (lit≤ tt) refl
      or later 9 _ (lit≤ tt) (lit≤ tt) refl
      or later 10 _ (lit≤ tt) (lit≤ tt) refl
      or later 11 _ (lit≤ tt) (lit≤ tt) refl
      or goes_12
      or record { awaited = lit≤ tt; device = inl (refl, refl) })
      p.awaited (omega arith)

-- a device begun after another one is in the chain
next_in_chain : (c : Chain) (b : ℕ) → c.place.awaited ≡ at_check → number_of c b ≡ more → c.place.device + 1 < c.count
next_in_chain c b a n =
    let none = no_rule c b n in
    let at : awaits c at_check ≡ true = eq-eqb c.place.awaited at_check a in
    let q : eqb b preamble ≡ true = not-false (eqb b preamble) (rw (rw at at (none done)) at (rw at at (none bad_check_byte))) in
    leb-false c.count (c.place.device + 1) (rw (at, q) at (none last_device))

pub went_device : (c : Chain) (m : List ℕ) (b : ℕ) → c.count ≤ most_devices → c.place.awaited ≤ at_check → c.place.device < c.count → number_of c b ≡ more
    → (went_on c m b).place.device < c.count
went_device c m b few known inside n =
    let q = (went_on c m b).place in
    ⊎_elim
    (λ (z : (c.place.awaited ≡ at_check) × (q.device ≡ next_device c.place)).
    omega (arith, z.1, next_in_chain c b z.0 n, few))
    (λ (z : (q.device ≡ c.place.device) × (at_count ≤ c.place.awaited → at_count ≤ q.awaited)). omega (arith, z.0, inside))
    (goes (counted c.place 1 (missed_of c m b)) b known).device

pub settled_on : (p : Place) (b : ℕ) (f : Fetcher) → p.awaited ≤ at_check → p.device < most_devices → settled p f ≡ true → settled (advance_of p b) f ≡ true
unfolding settled
settled_on p b f known few h =
    let q = advance_of p b in
    ⊎_elim
    (λ (z : (p.awaited ≡ at_check) × (q.device ≡ next_device p)). rw (z.1, ne_eqb (next_device p) 0 (λ e. far p.device few e)))
    (λ (z : (q.device ≡ p.device) × (at_count ≤ p.awaited → at_count ≤ q.awaited)).
    rw z.0
    (still (first p) (leb at_count p.awaited) (not (eqb f.nulled not_yet)) (leb at_count q.awaited) h
    (λ e. le-leb at_count q.awaited (z.1 (leb-true at_count p.awaited e)))))
    (goes p b known).device
  where
    far : (d : ℕ) → d < most_devices → (d + 1) % 2 ^ 8 ≡ 0 → ⊥
    far d l z = omega arith

    still : (a u v w : Bool) → (not a || u && v) ≡ true → (u ≡ true → w ≡ true) → (not a || w && v) ≡ true
    still false u v w h k = refl
    still true true v w h k = rw (k refl) h
    still true false v w h k = absurd (true≢false (sym h))
