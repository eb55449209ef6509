-- The writer's numbers: window by window 11 and 12 are those of the first window that is not within the size. Assumes nothing.
use Prim.Native.Nat.{ℕ, zero, suc, ◌<◌, ◌≤◌}
use mathlib.Core.Bool.{true}
use mathlib.Core.Path.{◌≡◌}
use mathlib.Core.List.{List, [], ◌∷◌}
use native.Mathlib.Nat.{not-suc-le-zero, le_of_suc-le-suc}
use native.Mathlib.Omega.{arith}
use borrow.Author.Tests.{eqb-true, eq-eqb}
use lib.Dec.{eqb}
use lib.ListN.{length, get_or, take}
use Rattle.chain.specs.Paper.{done, bad_start, bad_end}
use Rattle.writer.specs.Stream.{stream_of}
use Rattle.writer.specs.Write.{windows_number, write_rules, number_of, write_number, write_of}
use Rattle.writer.proofs.Accepted.{Within}
use Rattle.writer.proofs.First.{UpTo, First, first, first_only_lem}
use Rattle.chain.specs.Table.{Table}
use Rattle.chain.proofs.Means.{Means}
use Rattle.chain.proofs.BadChain.{m_unknown}
use Rattle.chain.proofs.Table.{table, table-reads}
use Rattle.demands.specs.Table.{Reached, FirstStart, FirstEnd, write_table}

-- ---- windows one by one, and window j

to_within : (size i : ℕ) (ss es : List ℕ) → i ≤ length ss → i ≤ length es
    → ((j : ℕ) → j < i → (get_or ss j 0 ≤ get_or es j 0) × (get_or es j 0 < size)) → Within size (take i ss) (take i es)
to_within size zero ss es h g w = tt
to_within size (suc i) [] es h g w = absurd (not-suc-le-zero h)
to_within size (suc i) (s ∷ ss) [] h g w = absurd (not-suc-le-zero g)
to_within size (suc i) (s ∷ ss) (e ∷ es) h g w =
    let v = w 0 (omega arith) in
    (v.0, v.1, to_within size i ss es (le_of_suc-le-suc h) (le_of_suc-le-suc g) (λ j l. w (suc j) (omega arith)))

of_within : (size i : ℕ) (ss es : List ℕ) → i ≤ length ss → i ≤ length es → Within size (take i ss) (take i es)
    → (j : ℕ) → j < i → (get_or ss j 0 ≤ get_or es j 0) × (get_or es j 0 < size)
of_within size zero ss es h g w j l = absurd (not-suc-le-zero l)
of_within size (suc i) [] es h g w j l = absurd (not-suc-le-zero h)
of_within size (suc i) (s ∷ ss) [] h g w j l = absurd (not-suc-le-zero g)
of_within size (suc i) (s ∷ ss) (e ∷ es) h g w zero l = (w.0, w.1)
of_within size (suc i) (s ∷ ss) (e ∷ es) h g w (suc j) l =
    of_within size i ss es (le_of_suc-le-suc h) (le_of_suc-le-suc g) w.2 j (le_of_suc-le-suc l)

module _ (size : ℕ) (ss es : List ℕ) where
  to_reached : (i : ℕ) → UpTo size ss es i → Reached size ss es i
  to_reached i u =
      record {
        start_there = u.started;
        end_there = u.ended;
        within = of_within size i ss es (omega (arith, u.started)) (omega (arith, u.ended)) u.before;
      }

  of_reached : (i : ℕ) → Reached size ss es i → UpTo size ss es i
  of_reached i r =
      record {
        started = r.start_there;
        ended = r.end_there;
        before = to_within size i ss es (omega (arith, r.start_there)) (omega (arith, r.end_there)) r.within;
      }

  find_start : (n : ℕ) → First size ss es n → n ≡ bad_start → FirstStart size ss es
  find_start n (First.inside w) e = absurd (omega arith)
  find_start n (First.start i u h) e = (i, to_reached i u, h)
  find_start n (First.end i u h g) e = absurd (omega arith)

  find_end : (n : ℕ) → First size ss es n → n ≡ bad_end → FirstEnd size ss es
  find_end n (First.inside w) e = absurd (omega arith)
  find_end n (First.start i u h) e = absurd (omega arith)
  find_end n (First.end i u h g) e = (i, to_reached i u, h, g)

  pub m-first-start : Means (eqb (windows_number size ss es) bad_start) true (FirstStart size ss es)
  m-first-start =
      record {
        says = λ e. find_start (windows_number size ss es) (first size ss es) (eqb-true (windows_number size ss es) bad_start e);
        said = λ f. eq-eqb (windows_number size ss es) bad_start (first_only_lem size ss es bad_start (First.start f.0 (of_reached f.0 f.1) f.2));
      }

  pub m-first-end : Means (eqb (windows_number size ss es) bad_end) true (FirstEnd size ss es)
  m-first-end =
      record {
        says = λ e. find_end (windows_number size ss es) (first size ss es) (eqb-true (windows_number size ss es) bad_end e);
        said = λ f. eq-eqb (windows_number size ss es) bad_end (first_only_lem size ss es bad_end (First.end f.0 (of_reached f.0 f.1) f.2 f.3));
      }

pub write_table_lem : (kind mode control : ℕ) (address starts ends bytes out : List ℕ)
    → Table (write_of kind mode control address starts ends bytes (length out)).number (write_table kind mode control address starts ends bytes out) done
unfolding write_number number_of
write_table_lem kind mode control address starts ends bytes out =
    table (write_rules kind mode starts ends (length bytes) (length (stream_of mode control address starts ends bytes)) (length out))
    (write_table kind mode control address starts ends bytes out) done tt
    (search (m_unknown, m-first-start, m-first-end, table-reads) depth 40)
