-- 'Well formed' by awaited byte is 'Well formed'. Assumes nothing.
use Prim.Native.Nat.{ℕ, suc, ◌≤◌, zero-le}
use mathlib.Core.Bool.{Bool, false, and-true, and-false}
use mathlib.Core.Path.{◌≡◌}
use native.Mathlib.Omega.{arith}
use lib.Dec.{eqb}
use borrow.Author.Tests.{eqb-true, eqb-false, lt-leb}
use Rattle.chain.specs.declared.Place.{Place}
use Rattle.chain.specs.Paper.{at_preamble, at_second, at_control, at_address, at_address2, at_address3, at_count, at_null, at_start, at_start_low, at_end, at_end_low, at_data, at_check}
use Rattle.chain.specs.Rules.{all_of}
use Rattle.chain.specs.State.{formed}
use Rattle.chain.specs.ByRow.{held, formed_by_row}
use Rattle.chain.proofs.ByCases.{by_test}

-- k or above, and not k
above : (a k : ℕ) → k ≤ a → eqb a k ≡ false → suc k ≤ a
above a k h e = let n = eqb-false a k e in omega arith

module _ (p : Place) (count : ℕ) (unused : Bool) (g size : ℕ) where
  -- at each awaited byte the other rows say nothing; past the last there is none
  pub by_row : all_of (formed p count unused g size) ≡ formed_by_row p (held p count unused) g size
  unfolding formed_by_row
  by_row =
      let a = p.awaited in
      let l0 : 0 ≤ a = zero-le in
      by_test (eqb a at_preamble) (λ e. rw (eqb-true a at_preamble e) (simp and-true)) (λ e0. let l1 = above a at_preamble l0 e0 in
      by_test (eqb a at_second) (λ e. rw (eqb-true a at_second e) (simp and-true)) (λ e1. let l2 = above a at_second l1 e1 in
      by_test (eqb a at_control) (λ e. rw (eqb-true a at_control e) (simp and-true)) (λ e2. let l3 = above a at_control l2 e2 in
      by_test (eqb a at_address) (λ e. rw (eqb-true a at_address e) (simp and-true)) (λ e3. let l4 = above a at_address l3 e3 in
      by_test (eqb a at_address2) (λ e. rw (eqb-true a at_address2 e) (simp and-true)) (λ e4. let l5 = above a at_address2 l4 e4 in
      by_test (eqb a at_address3) (λ e. rw (eqb-true a at_address3 e) (simp and-true)) (λ e5. let l6 = above a at_address3 l5 e5 in
      by_test (eqb a at_count) (λ e. rw (eqb-true a at_count e) (simp and-true)) (λ e6. let l7 = above a at_count l6 e6 in
      by_test (eqb a at_null) (λ e. rw (eqb-true a at_null e) (simp and-true)) (λ e7. let l8 = above a at_null l7 e7 in
      by_test (eqb a at_start) (λ e. rw (eqb-true a at_start e) (simp and-true)) (λ e8. let l9 = above a at_start l8 e8 in
      by_test (eqb a at_start_low) (λ e. rw (eqb-true a at_start_low e) (simp and-true)) (λ e9. let l10 = above a at_start_low l9 e9 in
      by_test (eqb a at_end) (λ e. rw (eqb-true a at_end e) (simp and-true)) (λ e10. let l11 = above a at_end l10 e10 in
      by_test (eqb a at_end_low) (λ e. rw (eqb-true a at_end_low e) (simp and-true)) (λ e11. let l12 = above a at_end_low l11 e11 in
      by_test (eqb a at_data) (λ e. rw (eqb-true a at_data e) (simp and-true)) (λ e12. let l13 = above a at_data l12 e12 in
      by_test (eqb a at_check) (λ e. rw (eqb-true a at_check e) (simp and-true)) (λ e13. let l14 = above a at_check l13 e13 in
      rw (e0, e1, e2, e3, e4, e5, e6, e7, e8, e9, e10, e11, e12, e13, lt-leb a at_check l14) (simp (and-true, and-false))))))))))))))))
