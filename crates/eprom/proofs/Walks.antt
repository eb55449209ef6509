-- A fetch block by block: what each turn of the loop leaves is what the bytes one by one leave. Assumes nothing.
use Rattle.std.proofs.Common.{Result, Ok, Err, MatchResult, OnOk, Bool, true, false, ◌&&◌, inl, ◌≡◌, ℕ, zero, suc, ◌+◌, ◌-◌, ◌<◌, ◌≤◌, List, length, refl, ap, ◌∙◌, arith}
use mathlib.Core.Bool.{false≢true}
use Rattle.chain.specs.declared.Chain.{Chain}
use Rattle.chain.specs.Paper.{more, past_eprom}
use Rattle.machine.specs.Run.{run}
use Rattle.eprom.specs.declared.Fetcher.{Fetcher}
use Rattle.eprom.specs.declared.Fetched.{Fetched}
use Rattle.eprom.specs.Fetch.{Fetching, fetching, fetch_all}
use Rattle.eprom.specs.Calls.{lent, answers, fetched_of}
use Rattle.eprom.specs.Steps.{took_all, settled, down_from, Going, Reads, Block, Over, Stretch}
use Rattle.eprom.proofs.Turns.{fetch_over, comes_past}
use Rattle.eprom.proofs.Blocks.{took-fetched}
use Rattle.eprom.proofs.ReadBytes.{down-length}

-- fewer bytes are in reach too
pub reach_less : {mode at have many n : ℕ} (k : ℕ) → k ≤ n → Stretch mode at have many n → Stretch mode at have many k
reach_less k h r =
    record {
      there = r.there;
      few = omega (arith, h, r.few);
      up = λ d. (omega (arith, h, (r.up d).0), omega (arith, h, (r.up d).1));
      down = λ d. (omega (arith, h, (r.down d).0), omega (arith, h, (r.down d).1));
    }

-- an answer with no byte left
pub still : (c : Chain) (m : List ℕ) (f : Fetcher) → answers c more c.place.taken c.place.mismatches f ≡ fetched_of (lent c m f)
unfolding fetched_of
still c m f = refl

all_past : (e : List ℕ) (n : ℕ) (c : Chain) (m : List ℕ) (f : Fetcher) → 0 < n → length e ≤ f.counter → fetch_all e n (lent c m f) ≡ fetching (run c m past_eprom) f
all_past e zero c m f h l = absurd (none h)
  where
    none : 0 < 0 → ⊥
    none h = omega arith
all_past e (suc n) c m f h l = (comes_past e n c m f l).0

-- past the EPROM no byte is taken
pub over_past : (e : List ℕ) (n : ℕ) (c : Chain) (m : List ℕ) (f : Fetcher) → 0 < n → length e ≤ f.counter
    → Over (fetch_all e n (lent c m f)) (answers c past_eprom c.place.taken c.place.mismatches f) m
unfolding fetched_of
over_past e n c m f h l = rw (all_past e n c m f h l) (record { ends = λ z. omega (arith, z); value = refl; memory = refl })

pub none_left : (e : List ℕ) (n : ℕ) (x : Fetching) → n ≡ 0 → fetch_all e n x ≡ x
unfolding fetch_all
none_left e n x z = ap (λ (k : ℕ). fetch_all e k x) z

-- what a call leaves where it goes on, by two of its clauses
pub at_end : {T E : Type 0} {P S A : Type 0} {Q B : E → Type 0} (r : Result T E) → MatchResult r (λ _. P) Q → OnOk r S → (P → S → A) → ((e : E) → Q e → B e)
    → MatchResult r (λ _. A) B
at_end (Ok x) h s f g = f h s
at_end (Err e) h s f g = g e h

-- a block of bytes that stand where the counter goes by
module _ (c : Chain) (m : List ℕ) (f : Fetcher) (e bs : List ℕ) (b : Block c f bs) (r : Reads c.place.mode e f.counter bs) where
  next_fetched : (left : ℕ) → length bs ≤ left → fetch_all e left (lent c m f) ≡ fetch_all e (left - length bs) (took_all (lent c m f) bs)
  next_fetched left h =
      let z : left ≡ length bs + (left - length bs) = omega arith in
      ap (λ (i : ℕ). fetch_all e i (lent c m f)) z ∙ took-fetched c m f bs b e (left - length bs) r

  -- the fetch goes on
  pub next_on : (y : Fetching) → y ≡ took_all (lent c m f) bs → (left i : ℕ) → length bs ≤ left → i ≡ left - length bs
      → (i < left) × (fetch_all e left (lent c m f) ≡ fetch_all e i y)
  next_on y o left i h z = (omega (arith, b.some, h, z), rw (o, z) (next_fetched left h))

  -- a block that ends the run ends it
  pub next_over : (q : Fetched) (w : List ℕ) → Over (took_all (lent c m f) bs) q w → (left : ℕ) → length bs ≤ left → Over (fetch_all e left (lent c m f)) q w
  next_over q w o left h = rw (next_fetched left h, fetch_over e (took_all (lent c m f) bs) o.ends (left - length bs)) o

-- ---- in mode 2, with no jump left and nothing more to keep

-- the test of the code, as two
pub rest_is : (down kept : Bool) → (down && kept) ≡ true → (down ≡ true) × (kept ≡ true)
rest_is true kept h = (refl, h)
rest_is false kept h = absurd (false≢true h)

-- any bytes before the counter wraps are a block
pub rest_block : (c : Chain) (f : Fetcher) (e : List ℕ) (k : ℕ) → Going c f → settled c.place f ≡ true → 0 < k → k ≤ f.counter + 1 → Block c f (down_from e f.counter k)
rest_block c f e k g s some l =
    let z = down-length e f.counter k in
    record { going = g; free = inl s; some = omega (arith, z, some); most = omega (arith, z, l, g.counter) }
