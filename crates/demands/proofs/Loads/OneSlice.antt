-- A stream that fits, fed as one slice, and a front part of it: what any loader that meets clause (a) shows. Assumes nothing.
use Prim.Native.Nat.{ℕ, ◌<◌}
use mathlib.Core.Path.{◌≡◌, refl, sym}
use mathlib.Core.List.{List, [], ◌∷◌, append-nil}
use lib.Dec.{eqb}
use lib.ListN.{length, take}
use Rattle.chain.specs.declared.Chain.{Chain}
use Rattle.chain.specs.Paper.{preamble, two_preambles, done, more}
use Rattle.chain.proofs.ByCases.{by_test}
use Rattle.grammar.specs.Stream.{Section, sections_sent, stream_sent}
use Rattle.grammar.specs.Sent.{bytes_of}
use Rattle.grammar.specs.Fits.{Fitting}
use Rattle.demands.specs.Loader.{Loader, Idle, Mode}
use Rattle.demands.specs.Demand2.{Seen, Demand2a}

-- a stream is never empty
pub record Begins (bs : List ℕ) : Type 0 where
  pub first : ℕ
  pub rest : List ℕ
  pub is : bs ≡ first ∷ rest

pub begins : (c : Chain) (mode : ℕ) (s : Section) (ss : List Section) → Begins (bytes_of (stream_sent c mode s ss))
begins c mode s ss =
    by_test (eqb mode two_preambles) (λ e. record { first = preamble; rest = preamble ∷ bytes_of (sections_sent c 0 s ss); is = rw e refl })
    (λ e. record { first = preamble; rest = bytes_of (sections_sent c 0 s ss); is = rw e refl })

module _ (l : Loader) (d : Demand2a l) (c : Chain) (m : List ℕ) (check mode : ℕ) (s : Section) (ss : List Section)
    (i : Idle c m) (o : Mode mode) (f : Fitting c check mode s ss) where
  pub whole_seen : Seen check c m (stream_sent c mode s ss) done (l.slice (l.start c m mode check).chain m (bytes_of (stream_sent c mode s ss)))
  whole_seen =
      let b = begins c mode s ss in
      let w = (d c m check mode s ss i o f).whole [] b.first b.rest [] (sym b.is) in
      rw b.is (rw append-nil at w)

  pub part_seen : (k : ℕ) → k < length (stream_sent c mode s ss)
      → Seen check c m (take k (stream_sent c mode s ss)) more (l.slice (l.start c m mode check).chain m (take k (bytes_of (stream_sent c mode s ss))))
  part_seen k h = (d c m check mode s ss i o f).part k h [] (take k (bytes_of (stream_sent c mode s ss))) refl
