-- A walk over a stream's bytes: what it has noted of the stores so far, and how it goes on. Assumes nothing.
use Prim.Native.Nat.{ℕ, suc, ◌+◌, ◌-◌, ◌<◌, ◌≤◌}
use mathlib.Core.Bool.{Bool, true, false, ◌&&◌, true≢false}
use mathlib.Core.Path.{◌≡◌, refl, sym, ap, ◌∙◌}
use mathlib.Core.List.{List, [], ◌∷◌, ◌++◌, append-nil, append_assoc}
use native.Mathlib.Nat.{zero-add}
use native.Mathlib.Omega.{arith}
use borrow.Author.Tests.{eqb-true, ne_eqb, ltb-true, ltb-false, leb-true}
use lib.Dec.{eqb, ltb, leb}
use lib.ListN.{length, get_or, set, take, drop, length-append, take-append-drop, length-set}
use lib.Seq.{take-suc-set, drop-set-lt, drop-cons}
use Rattle.chain.specs.Paper.{most_bytes}
use Rattle.chain.proofs.ByCases.{by_test}
use Rattle.grammar.specs.Stores.{Put}
use Rattle.sheet.specs.declared.walk.Walked.{Walked}
use Rattle.sheet.specs.Count.{one_if, times_in}
use Rattle.sheet.specs.Steps.{puts_at, Part, bump, marked, bumped, noted_of, ended_of, Walk}

-- ---- how often a cell is stored into

pub times_append : (i : ℕ) (ps qs : List Put) → times_in i (ps ++ qs) ≡ times_in i ps + times_in i qs
unfolding times_in
times_append i [] qs = omega arith
times_append i (p ∷ ps) qs =
    ap (λ (x : ℕ). one_if (eqb p.cell i) + x) (times_append i ps qs) ∙ apart (one_if (eqb p.cell i)) (times_in i ps) (times_in i qs)
  where
    apart : (a b c : ℕ) → a + (b + c) ≡ a + b + c
    apart a b c = omega arith

-- by bytes to cells one after another: not below the first, not past the last, and at most once
pub times_below : (bs : List ℕ) (j i : ℕ) → i < j → times_in i (puts_at j bs) ≡ 0
unfolding times_in
times_below [] j i h = refl
times_below (b ∷ bs) j i h = rw (ne_eqb j i (λ e. omega arith)) (zero-add _ ∙ times_below bs (suc j) i (omega arith))

pub times_past : (bs : List ℕ) (j i : ℕ) → j + length bs ≤ i → times_in i (puts_at j bs) ≡ 0
unfolding times_in
times_past [] j i h = refl
times_past (b ∷ bs) j i h = rw (ne_eqb j i (λ e. omega arith)) (zero-add _ ∙ times_past bs (suc j) i (omega arith))

pub times_once : (bs : List ℕ) (j i : ℕ) → times_in i (puts_at j bs) ≤ 1
unfolding times_in
times_once [] j i = omega arith
times_once (b ∷ bs) j i =
    by_test (eqb j i)
    (λ e. rw e (omega (arith, times_below bs (suc j) i (omega (arith, eqb-true j i e)))))
    (λ e. rw e (omega (arith, times_once bs (suc j) i)))

puts_length : (bs : List ℕ) (j : ℕ) → length (puts_at j bs) ≡ length bs
puts_length [] j = refl
puts_length (b ∷ bs) j = ap suc (puts_length bs (suc j))

-- ---- marks

pub marked_append : (ps qs : List Put) (m : List ℕ) → marked m (ps ++ qs) ≡ marked (marked m ps) qs
unfolding marked
marked_append [] qs m = refl
marked_append (p ∷ ps) qs m = marked_append ps qs (set m p.cell (bump (get_or m p.cell 0)))

pub length_marked : (ps : List Put) (m : List ℕ) → length (marked m ps) ≡ length m
unfolding marked
length_marked [] m = refl
length_marked (p ∷ ps) m = length_marked ps (set m p.cell (bump (get_or m p.cell 0))) ∙ length-set m p.cell (bump (get_or m p.cell 0))

bumped_of : List ℕ → ℕ → ℕ → List ℕ
bumped_of m i n = take i m ++ (bumped (take n (drop i m)) ++ drop n (drop i m))

marks-at : (bs m : List ℕ) (i : ℕ) → i + length bs ≤ length m → marked m (puts_at i bs) ≡ bumped_of m i (length bs)
unfolding marked bumped_of bumped
marks-at [] m i h = sym (take-append-drop i m)
marks-at (b ∷ bs) m i h =
    let v = bump (get_or m i 0) in
    marks-at bs (set m i v) (suc i) (omega (arith, length-set m i v))
    ∙ rw (take-suc-set m i v (omega arith), drop-set-lt (suc i) m i v (omega arith), drop-cons m i 0 (omega arith))
    (append_assoc (take i m) (v ∷ []) (bumped (take (length bs) (drop (suc i) m)) ++ drop (length bs) (drop (suc i) m)))

-- the marks from i to e - 1 among others
abbrev pub bumped_part : List ℕ → ℕ → ℕ → List ℕ
bumped_part marks i e = take i marks ++ (bumped (take (e - i) (drop i marks)) ++ drop (e - i) (drop i marks))

pub marked-at : (bs m : List ℕ) (i : ℕ) → i + length bs ≤ length m → marked m (puts_at i bs) ≡ bumped_part m i (i + length bs)
unfolding bumped_of
marked-at bs m i h =
    let e : i + length bs - i ≡ length bs = omega arith in
    rw e (marks-at bs m i h)

-- ---- the walk

-- of the stores ps those so far are noted in w; rest are left
pub record Walking (ps : List Put) (len : ℕ) (w : Walked) (rest : List Put) : Type 0 where
  pub so_far : List Put
  pub split : ps ≡ so_far ++ rest
  pub stored : w.stored ≡ length so_far
  pub inside : w.top ≤ len
  pub below : (i : ℕ) → i < w.low → times_in i so_far ≡ 0
  pub above : (i : ℕ) → w.top ≤ i → times_in i so_far ≡ 0
  pub once : w.ordered ≡ true → (i : ℕ) → times_in i so_far ≤ 1

pub walk_begins : (ps : List Put) (len : ℕ) → Walking ps len (record { stored = 0; low = len; top = 0; ordered = true }) ps
unfolding times_in
walk_begins ps len =
    record {
      so_far = [];
      split = refl;
      stored = refl;
      inside = omega arith;
      below = λ i h. refl;
      above = λ i h. refl;
      once = λ e i. omega arith;
    }

module _ (ps : List Put) (len : ℕ) (w : Walked) (left : List Put) (x : Walking ps len w left) (at i e at' : ℕ) (rest : List Put) (p : Part left len at i e at' rest) where
  now : List Put
  now = x.so_far ++ puts_at i p.bytes

  times_now : (j : ℕ) → times_in j now ≡ times_in j x.so_far + times_in j (puts_at i p.bytes)
  unfolding now
  times_now j = times_append j x.so_far (puts_at i p.bytes)

  once_now : (w.ordered && leb w.top i) ≡ true → (j : ℕ) → times_in j now ≤ 1
  once_now h j =
      let o = both w.ordered (leb w.top i) h in
      let t : w.top ≤ i = leb-true w.top i o.1 in
      rw (times_now j)
      (by_test (ltb j i)
      (λ y. omega (arith, x.once o.0 j, times_below p.bytes i j (ltb-true j i y)))
      (λ y. omega (arith, x.above j (omega (arith, ltb-false j i y)), times_once p.bytes i j)))
    where
      both : (p q : Bool) → (p && q) ≡ true → (p ≡ true) × (q ≡ true)
      both true true h = (refl, refl)
      both true false h = (refl, h)
      both false q h = (h, absurd (true≢false (sym h)))

  -- the next stores
  pub walk_part : Walking ps len (noted_of w i e) rest
  unfolding now
  walk_part =
      let n : e - i ≡ length p.bytes = omega (arith, p.ends) in
      record {
        so_far = now;
        split = x.split ∙ ap (λ (qs : List Put). x.so_far ++ qs) p.split ∙ sym (append_assoc x.so_far (puts_at i p.bytes) rest);
        stored = rw n (sym (length-append x.so_far (puts_at i p.bytes) ∙ rw (puts_length p.bytes i) (ap (λ (y : ℕ). y + length p.bytes) (sym x.stored))));
        inside = omega (arith, x.inside, p.inside);
        below = λ j y. times_now j ∙ rw (x.below j (omega arith), times_below p.bytes i j (omega arith)) refl;
        above = λ j y. times_now j ∙ rw (x.above j (omega arith), times_past p.bytes i j (omega (arith, p.ends))) refl;
        once = once_now;
      }

pub walk_ends : (ps : List Put) (len : ℕ) (w : Walked) (rest : List Put) → Walking ps len w rest → w.stored ≤ most_bytes → rest ≡ [] → Walk ps len (ended_of w)
walk_ends ps len w rest x few z =
    let e : ps ≡ x.so_far = x.split ∙ rw z (append-nil x.so_far) in
    rw e
    (record {
      stored = x.stored;
      few = few;
      order = omega arith;
      inside = x.inside;
      below = λ i h. x.below i (omega arith);
      above = x.above;
      once = x.once;
    })

-- ---- marks for the next stores

pub part_marked : (m : List ℕ) (ps : List Put) (len at i e at' : ℕ) (rest : List Put) → Part ps len at i e at' rest → length m ≡ len
    → marked m ps ≡ marked (bumped_part m i e) rest
part_marked m ps len at i e at' rest p h =
    rw (p.split, marked_append (puts_at i p.bytes) rest m, p.ends) (ap (λ (x : List ℕ). marked x rest) (marked-at p.bytes m i (omega (arith, p.ends, p.inside))))

pub part_length : (m : List ℕ) (ps : List Put) (len at i e at' : ℕ) (rest : List Put) → Part ps len at i e at' rest → length m ≡ len → length (bumped_part m i e) ≡ length m
part_length m ps len at i e at' rest p h =
    rw p.ends (ap length (sym (marked-at p.bytes m i (omega (arith, p.ends, p.inside)))) ∙ length_marked (puts_at i p.bytes) m)

pub none_marked : (m : List ℕ) (ps : List Put) → ps ≡ [] → marked m ps ≡ m
unfolding marked
none_marked m ps e = rw e
