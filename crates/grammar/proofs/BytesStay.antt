-- What a write of bytes leaves in a store that holds bytes are bytes. Assumes nothing.
use Prim.Native.Nat.{ℕ, zero, suc, ◌<◌}
use mathlib.Core.Bool.{true}
use mathlib.Core.Path.{◌≡◌}
use mathlib.Core.List.{List, [], ◌∷◌}
use lib.Dec.{eqb}
use lib.ListN.{set}
use borrow.Author.Tests.{eqb-true, eqb-false}
use Rattle.chain.specs.declared.Chain.{Chain}
use Rattle.chain.specs.Paper.{more}
use Rattle.chain.specs.Bytes.{Bytes}
use Rattle.chain.proofs.ByCases.{by_test}
use Rattle.awaited.specs.Byte.{number_of}
use Rattle.machine.specs.Run.{writes, run, went_on, run_of}
use Rattle.grammar.specs.Sent.{Sent, bytes_of, Store, Slot, no_slot, index, slot}
use Rattle.grammar.specs.Stores.{walk_of}
use Rattle.grammar.proofs.Walk.{walk_on, walk_over, put, put_all, store_of}
use Rattle.grammar.proofs.Restart.{load_puts}

bytes-set : (l : List ℕ) (i b : ℕ) → b < 256 → Bytes l → Bytes (set l i b)
bytes-set [] i b h u = tt
bytes-set (x ∷ l) zero b h u = (h, u.1)
bytes-set (x ∷ l) (suc i) b h u = (u.0, bytes-set l i b h u.1)

bytes-put : (t : Slot) (b : ℕ) (l : List ℕ) → b < 256 → Bytes l → Bytes (put t b l)
bytes-put no_slot b l h u = u
bytes-put (index i) b l h u = bytes-set l i b h u

bytes-put_all : (k : Store) (xs : List Sent) (l : List ℕ) → Bytes (bytes_of xs) → Bytes l → Bytes (put_all k xs l)
bytes-put_all k [] l h u = u
bytes-put_all k (x ∷ xs) l h u = bytes-put_all k xs (put (slot k x.to) x.byte l) h.1 (bytes-put (slot k x.to) x.byte l h.0 u)

walk_bytes : (bs : List ℕ) (c : Chain) → Bytes bs → Bytes (bytes_of (walk_of c bs))
walk_bytes [] c u = unfold walk_of in tt
walk_bytes (b ∷ bs) c u =
    by_test (eqb (number_of c b) more) (λ e. rw (walk_on c b bs (eqb-true (number_of c b) more e)) (u.0, walk_bytes bs (went_on c [] b) u.1))
    (λ e. rw (walk_over c b bs (eqb-false (number_of c b) more e)) (u.0, tt))

pub bytes_stay : (k : Store) (bs : List ℕ) (c : Chain) (m : List ℕ) → writes c ≡ true → Bytes bs → Bytes (store_of k (run c m more))
    → Bytes (store_of k (run_of (run c m more) bs))
bytes_stay k bs c m w u v = rw (load_puts k bs c m w) (bytes-put_all k (walk_of c bs) (store_of k (run c m more)) (walk_bytes bs c u) v)
