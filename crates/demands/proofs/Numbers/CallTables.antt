-- The table of numbers of each call but byte and slice. Assumes nothing.
use Prim.Native.Nat.{ℕ}
use mathlib.Core.Bool.{Bool, true, false, not, ◌&&◌, ◌||◌}
use mathlib.Core.Logic.{◌⊎◌, inl, inr, ⊎_elim, ◌≢◌}
use mathlib.Core.Path.{◌≡◌, refl}
use mathlib.Core.List.{List, [], ◌∷◌}
use native.Mathlib.Omega.{arith}
use lib.Dec.{eqb}
use lib.ListN.{length}
use Rattle.chain.specs.declared.Chain.{Chain}
use Rattle.chain.specs.Paper.{closed, opened, done, bad_chain, run_open, ill_formed}
use Rattle.chain.specs.Rules.{◌gives◌, first_of}
use Rattle.chain.specs.State.{is_bad_chain, is_ill_formed, open_rules, open_number}
use Rattle.chain.specs.Calls.{chain_rules, chain_number, new_of, reset_of}
use Rattle.chain.proofs.ByCases.{by_test, by_eq}
use Rattle.machine.specs.Calls.{start_rules, start_number, start_of, drop_of}
use Rattle.saved.specs.Layout.{well_saved}
use Rattle.saved.specs.Calls.{save_rules, save_number, save_of, pick_up_number, pick_up_of}
use Rattle.closing.specs.Calls.{closing_rules, written_number, closing_of}
use Rattle.chain.specs.WellFormed.{BadChain, IllFormed}
use Rattle.chain.specs.Table.{Claim, ◌when◌, Table, chain_table, open_table}
use Rattle.chain.proofs.Means.{m-none}
use Rattle.chain.proofs.WellFormed.{m-ill_formed}
use Rattle.chain.proofs.Table.{table, row_of, else_of, state-reads}
use Rattle.demands.specs.Formed.{WellSaved}
use Rattle.demands.specs.Table.{start_table, closing_table, save_table, PickUpNumbers}
use Rattle.demands.proofs.Numbers.Formed.{m-well_saved}

pub new_table : (count : ℕ) (kinds m : List ℕ) → Table (new_of count kinds (length m)).number (chain_table count kinds m) done
unfolding new_of chain_number
new_table count kinds m = table (chain_rules count kinds (length m)) (chain_table count kinds m) done tt (search state-reads depth 40)

pub reset_table : (c : Chain) (m : List ℕ) → Table (reset_of c (length m)).number (chain_table c.count c.kinds m) done
unfolding reset_of chain_number
reset_table c m = table (chain_rules c.count c.kinds (length m)) (chain_table c.count c.kinds m) done tt (search state-reads depth 40)

pub start_table_lem : (c : Chain) (m : List ℕ) (mode check : ℕ) → Table (start_of c (length m) mode check).number (start_table c m mode) done
unfolding start_of start_number
start_table_lem c m mode check = table (start_rules c (length m) mode) (start_table c m mode) done tt (search state-reads depth 40)

pub drop-table : (c : Chain) (m : List ℕ) → Table (drop_of c (length m)).number (open_table c m []) done
unfolding drop_of open_number
drop-table c m = table (open_rules c (length m) []) (open_table c m []) done tt (search state-reads depth 40)

pub save_table_lem : (c : Chain) (m out : List ℕ) → Table (save_of c (length m) (length out)).number (save_table c m out) done
unfolding save_number
save_table_lem c m out = table (save_rules c (length m) (length out)) (save_table c m out) done tt (search state-reads depth 40)

pub closing_table_lem : (c : Chain) (m out : List ℕ) → Table (closing_of c m (length out)).number (closing_table c m out) done
unfolding written_number
closing_table_lem c m out = table (closing_rules c m (length out)) (closing_table c m out) done tt (search state-reads depth 40)

-- ---- pick-up

-- both 17s as one row: the second only with no run open
twice : (a b o w : Bool)
    → first_of ((a gives bad_chain) ∷ (b gives ill_formed) ∷ (o gives run_open) ∷ (w gives ill_formed) ∷ []) done
    ≡ first_of ((a gives bad_chain) ∷ (b || not o && w gives ill_formed) ∷ (o gives run_open) ∷ []) done
twice true b o w = refl
twice false true o w = refl
twice false false true w = refl
twice false false false w = refl

module _ (c : Chain) (m s : List ℕ) where
  abbrev Bad : Type 0
  Bad = BadChain c.count c.kinds (length m)

  abbrev claims : List Claim
  claims =
      (bad_chain when Bad)
      ∷ (ill_formed when (IllFormed c ⊎ ((c.place.running ≢ opened) × (WellSaved c s → ⊥))))
      ∷ (run_open when c.place.running ≡ opened)
      ∷ []

  merged : Table (pick_up_of c (length m) s).number claims done
  unfolding pick_up_of pick_up_number
  merged =
      rw (twice (is_bad_chain c.count c.kinds (length m)) (is_ill_formed c) (eqb c.place.running opened) (not (well_saved c s)))
      (table
      ((is_bad_chain c.count c.kinds (length m) gives bad_chain)
      ∷ (is_ill_formed c || not (eqb c.place.running opened) && not (well_saved c s) gives ill_formed)
      ∷ (eqb c.place.running opened gives run_open)
      ∷ [])
      claims done tt (search (m-well_saved, state-reads) depth 40))

  -- a well-formed state is closed or open
  shut : (IllFormed c → ⊥) → c.place.running ≢ opened → c.place.running ≡ closed
  shut f o =
      by_eq c.place.running closed (λ e. e) (λ e. absurd (f (IllFormed.open_place e (λ w. o w.0))))

  not-both : c.place.running ≡ closed → c.place.running ≢ opened
  not-both e o = omega arith

  saved_or-not : {P : Type 0} → (WellSaved c s → P) → ((WellSaved c s → ⊥) → P) → P
  saved_or-not f g = by_test (well_saved c s) (λ e. f ((m-well_saved c s).says e)) (λ e. g ((m-none (m-well_saved c s)).says e))

  ill_or-not : {P : Type 0} → (IllFormed c → P) → ((IllFormed c → ⊥) → P) → P
  ill_or-not f g = by_test (is_ill_formed c) (λ e. f ((m-ill_formed c).says e)) (λ e. g ((m-none (m-ill_formed c)).says e))

  pub pick-up_numbers : PickUpNumbers c m s
  pick-up_numbers =
      let row = row_of claims (pick_up_of c (length m) s).number done merged in
      let last = else_of claims (pick_up_of c (length m) s).number done merged in
      record {
        one = (λ e. ((row bad_chain tt).0 e).1, λ h. (row bad_chain tt).1 (tt, h));
        three = (
          λ e. let r = (row run_open tt).0 e in (r.0.0, λ f. r.0.1.0 (inl f), r.1),
          λ h. (row run_open tt).1 ((h.0, (λ x. ⊎_elim h.1 (λ y. y.0 h.2) x, tt)), h.2),
        );
        seventeen = (
          λ e.
              let r = (row ill_formed tt).0 e in
              (r.0.0, ill_or-not (λ f. inl f) (λ f. ⊎_elim (λ x. inl x) (λ y. inr (f, shut f y.0, y.1)) r.1)),
          λ h. (row ill_formed tt).1 ((h.0, tt), ⊎_elim (λ f. inl f) (λ y. inr (not-both y.1, y.2)) h.1),
        );
        zero = (
          λ e.
              let r = last.0 e in
              let f : IllFormed c → ⊥ = λ x. r.1.0 (inl x) in
              (r.0, f, shut f r.1.1.0, saved_or-not (λ w. w) (λ w. absurd (r.1.0 (inr (r.1.1.0, w))))),
          λ h. last.1 (h.0, (λ x. ⊎_elim h.1 (λ y. y.1 h.3) x, (not-both h.2, tt))),
        );
      }
