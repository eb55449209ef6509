-- The table of a byte's numbers. Assumes nothing.
use Prim.Native.Nat.{ℕ, ◌/◌, ◌%◌}
use mathlib.Core.Bool.{true, false, ◌&&◌}
use mathlib.Core.Logic.{◌⊎◌, inl, inr, ⊎_elim, ◌≢◌}
use mathlib.Core.Path.{◌≡◌, refl, sym, ap, ◌∙◌}
use mathlib.Core.List.{List, [], ◌∷◌}
use native.Mathlib.Omega.{arith}
use borrow.Author.Tests.{eqb-true, eqb-false, eq-eqb, ne_eqb}
use lib.Dec.{eqb}
use lib.ListN.{length}
use Rattle.chain.specs.declared.Chain.{Chain}
use Rattle.chain.specs.Paper.{preamble, at_preamble, at_second, at_check, two_preambles, done, more}
use Rattle.chain.specs.Rules.{first_of}
use Rattle.chain.specs.State.{feed_rules, feed_number}
use Rattle.chain.specs.WellFormed.{Sets}
use Rattle.chain.specs.Table.{Table}
use Rattle.chain.proofs.ByCases.{by_test, by_eq}
use Rattle.chain.proofs.Means.{Means, m-map, reads}
use Rattle.chain.proofs.Numbers.{feed_gives, feed_passes}
use Rattle.chain.proofs.Table.{Same, table, feed_same, table-reads}
use Rattle.machine.specs.declared.Fed.{Fed}
use Rattle.awaited.specs.Byte.{awaits, next_device, begins, register_begun, byte_rules, number_of}
use Rattle.machine.specs.Run.{run, run_of}
use Rattle.machine.specs.Calls.{slice_of}
use Rattle.machine.proofs.Runs.{step_number}
use Rattle.grammar.proofs.Runs.Slices.{slice_refused, slice_number_lem}
use Rattle.demands.specs.ByteTable.{Awaits, BeginsWith, own_table, byte_table, slice_number}

-- ---- B2 that would begin a device

module _ (bit : ℕ) (c : Chain) (b : ℕ) where
  abbrev Parts : Type 0
  Parts =
      ((b ≡ preamble)
      × (((Awaits c at_preamble × (c.place.mode ≢ two_preambles)) ⊎ Awaits c at_second) ⊎ Awaits c at_check))
      × Sets bit (register_begun c)

  to_begins : Parts → BeginsWith bit c b
  to_begins h =
      by_test (awaits c at_check)
      (λ e. (next_device c.place, (h.0.0, inr (eqb-true c.place.awaited at_check e, refl)), rw e at h.1))
      (λ e.
      let f = eqb-false c.place.awaited at_check e in
      (c.place.device, (h.0.0, inl (⊎_elim (λ x. x) (λ y. absurd (f y)) h.0.1, refl)), rw e at h.1))

  of_begins : BeginsWith bit c b → Parts
  of_begins h =
      ⊎_elim
      (λ x.
      let e : awaits c at_check ≡ false
      = ne_eqb c.place.awaited at_check (λ f. ⊎_elim (λ z. let g = z.0 in omega arith) (λ g. omega arith) x.0)
      in
      ((h.1.0, inl x.0), rw e (rw x.1 at h.2)))
      (λ y. ((h.1.0, inr y.0), rw (eq-eqb c.place.awaited at_check y.0) (rw y.1 at h.2)))
      h.1.1

  pub m-begins : Means (begins c b && eqb (register_begun c / bit % 2) 1) true (BeginsWith bit c b)
  m-begins =
      let parts : Means (begins c b && eqb (register_begun c / bit % 2) 1) true Parts = search reads depth 8 in
      m-map parts to_begins of_begins

-- ---- a byte's own numbers

pub own_same : (c : Chain) (b : ℕ) → Same (byte_rules c b) (own_table c b)
own_same c b = search (m-begins, table-reads) depth 40

pub own_table_lem : (c : Chain) (b : ℕ) → Table (number_of c b) (own_table c b) more
unfolding number_of
own_table_lem c b = table (byte_rules c b) (own_table c b) more tt (own_same c b)

-- ---- the byte call

pub slice_off : (c : Chain) (m s : List ℕ) → feed_number c (length m) ≢ done → slice_number c m s ≡ feed_number c (length m)
slice_off c m s h = ap (λ (f : Fed). f.answer.number) (slice_refused c m s h).0

pub run-one : (c : Chain) (m : List ℕ) (b : ℕ) → (run_of (run c m more) (b ∷ [])).number ≡ number_of c b
unfolding run_of
run-one c m b = step_number c m b

byte-number : (c : Chain) (m : List ℕ) (b : ℕ) → slice_number c m (b ∷ []) ≡ first_of (feed_rules c (length m) (byte_rules c b)) more
unfolding number_of
byte-number c m b =
    by_eq (feed_number c (length m)) done
    (λ z. slice_number_lem c m (b ∷ []) z ∙ run-one c m b ∙ sym (feed_passes c (length m) (byte_rules c b) more z))
    (λ z. slice_off c m (b ∷ []) z ∙ sym (feed_gives c (length m) (byte_rules c b) more z))

pub byte_table_lem : (c : Chain) (m : List ℕ) (b : ℕ) → Table (slice_of c m (b ∷ [])).answer.number (byte_table c m b) more
byte_table_lem c m b =
    rw (byte-number c m b) (table (feed_rules c (length m) (byte_rules c b)) (byte_table c m b) more tt (feed_same c m (own_same c b)))
