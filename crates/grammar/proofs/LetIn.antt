-- Each device that an accepted run meets let it in: numbers 6 and 7, which were not given, tell so of each control byte of the run's walk,
-- and so of each section of any reading of it. Assumes nothing.
use Prim.Native.Nat.{ℕ, zero, suc, ◌-◌, ◌≤◌}
use mathlib.Core.Bool.{Bool, true, false, ◌&&◌, ◌||◌, true≢false}
use mathlib.Core.Path.{◌≡◌, refl, sym, subst, ◌∙◌}
use mathlib.Core.List.{List, [], ◌∷◌, ◌++◌}
use native.Mathlib.Omega.{arith}
use lib.Dec.{eqb}
use lib.ListN.{length, get_or, set}
use lib.Seq.{get_or-set_other}
use borrow.Author.Tests.{eqb-true}
use Rattle.chain.specs.declared.Chain.{Chain}
use Rattle.chain.specs.Paper.{preamble, no_windows, at_control, at_data, writing, checking, most_devices, more, B3, B4}
use Rattle.chain.specs.Rules.{pick}
use Rattle.chain.specs.Set.{with_place}
use Rattle.chain.proofs.ByCases.{by_test}
use Rattle.chain.proofs.FirstOf.{None, first-none}
use Rattle.chain.proofs.Means.{said, reads}
use Rattle.chain.proofs.Sound.{Sound}
use Rattle.awaited.specs.Byte.{awaits, begins, register_begun, byte_rules, number_of}
use Rattle.machine.specs.Run.{writes, registers_of, went_on}
use Rattle.machine.specs.Calls.{opened_place}
use Rattle.grammar.proofs.EachSent.{Each, each_lead, each_windows}
use Rattle.grammar.proofs.Runs.Keeps.{went_sound}
use Rattle.machine.proofs.Runs.{registers-length}
use Rattle.grammar.proofs.Runs.Stays.{went_stays}
use Rattle.grammar.specs.Stream.{base_at, Window, Section, windows_sent, sections_sent, lead_sent, stream_sent}
use Rattle.grammar.specs.Sent.{Target, framing, register, cell, Sent, frame, registers, Slot, slot}
use Rattle.chain.specs.Bytes.{Bytes}
use Rattle.grammar.specs.Fits.{Lets, AllLet}
use Rattle.grammar.specs.Stores.{aim, walk_of}
use Rattle.grammar.proofs.Walk.{put, byte_stores}
use Rattle.grammar.proofs.Accepted.{Accepted, last, next}
use Rattle.grammar.proofs.FitsAccepted.{lets_alike}

-- ---- a walk whose control bytes are let in

-- a device with that register lets in a run, w whether it writes
pub record LetBy (w : Bool) (stored control : ℕ) : Type 0 where
  pub b4 : B4 stored ≡ false
  pub b3 : w ≡ false → B3 stored ≡ false
  pub sent_b3 : w ≡ false → B3 control ≡ false

abbrev At : Bool → List ℕ → Target → ℕ → Type 0
At w g framing b = Unit {0}
At w g (register d) b = LetBy w (get_or g d 0) b
At w g (cell i) b = Unit {0}

-- each control byte by the registers as they stand when it comes
abbrev pub LetAlong : Bool → List ℕ → List Sent → Type 0
LetAlong w g [] = Unit {0}
LetAlong w g (x ∷ xs) = At w g x.to x.byte × LetAlong w (put (slot registers x.to) x.byte g) xs

-- ---- the machine's walk is such

module _ (c : Chain) (b : ℕ) where
  checked : (w : writes c ≡ false) → c.place.check ≤ checking → c.place.check ≡ checking
  checked w h = go c.place.check w h
    where
      go : (x : ℕ) → eqb x writing ≡ false → x ≤ checking → x ≡ checking
      go zero e l = absurd (true≢false e)
      go (suc x) e l = omega arith

  module _ (len : ℕ) (s : Sound c len) (n : number_of c b ≡ more) where
    -- number 7 is not given for the control byte
    sent_clear : awaits c at_control ≡ true → writes c ≡ false → B3 b ≡ false
    unfolding number_of
    sent_clear e w =
        let r : None (byte_rules c b) = first-none (byte_rules c b) more tt n in
        let k = checked w s.formed.write_or_check.1 in
        second (begins c b && B3 (register_begun c)) (B3 b) (rw (k, e) at r.1.1.1.1.1.0)
      where
        second : (x y : Bool) → (x || y) ≡ false → y ≡ false
        second true y q = absurd (true≢false q)
        second false y q = q

    lets_now : At (writes c) c.registers (aim c) b
    lets_now =
        by_test (awaits c at_data) (λ e. rw e tt)
        (λ e. rw e
        (by_test (awaits c at_control)
        (λ f. rw f
        (let a = eqb-true c.place.awaited at_control f in
        record {
          b4 = said (search reads) (s.formed.at_2 a);
          b3 = λ w. said (search reads) (s.formed.at_2_checked (a, checked w s.formed.write_or_check.1));
          sent_b3 = sent_clear f;
        }))
        (λ f. rw f tt)))

walk_let : (bs : List ℕ) (c : Chain) (len : ℕ) → Sound c len → length c.registers ≡ most_devices → Bytes bs → Accepted c bs
    → LetAlong (writes c) c.registers (walk_of c bs)
unfolding walk_of
walk_let [] c len s l u x4 = elim x4 [ ]
walk_let (b ∷ []) c len s l u (next e a) = elim a [ ]
walk_let (b ∷ []) c len s l u (last e) = rw e (tt, tt)
walk_let (b ∷ x ∷ bs) c len s l u (next e a) =
    let r = walk_let (x ∷ bs) (went_on c [] b) len (went_sound c [] b len u.0 l e s) (registers-length c [] b ∙ l) u.1 a in
    rw e (
      lets_now c b len s e,
      subst (λ (g : List ℕ). LetAlong (writes c) g (walk_of (went_on c [] b) (x ∷ bs))) (byte_stores c [] b registers refl)
          (subst (λ (k : ℕ). LetAlong (eqb k writing) (registers_of c b) (walk_of (went_on c [] b) (x ∷ bs))) (went_stays c [] b).check r),
    )

-- ---- and so each section of the grammar's stream

-- bytes for no register
abbrev Plain : List Sent → Type 0
Plain = Each (λ t b. slot registers t ≡ slot registers framing)

plain_windows : (base : ℕ) (ws : List Window) → Plain (windows_sent base ws)
plain_windows = each_windows (λ t b. slot registers t ≡ slot registers framing) (λ b. refl) (λ i b. refl)

past_plain : (w : Bool) (g : List ℕ) (xs ys : List Sent) → Plain xs → LetAlong w g (xs ++ ys) → LetAlong w g ys
past_plain w g [] ys p h = h
past_plain w g (x ∷ xs) ys p h =
    past_plain w g xs ys p.1 (subst (λ (t : Slot). LetAlong w (put t x.byte g) (xs ++ ys)) p.0 h.1)

lets_of : (check stored control : ℕ) → LetBy (eqb check writing) stored control → Lets check stored control
lets_of check stored control h = record { b4 = h.b4; b3 = h.b3; sent_b3 = h.sent_b3 }

sections_let : (c : Chain) (check : ℕ) (g : List ℕ) (d : ℕ) (s : Section) (ss : List Section) → LetAlong (eqb check writing) g (sections_sent c d s ss)
    → AllLet check g d s ss
sections_let c check g d s [] h = lets_of check (get_or g d 0) s.control h.0
sections_let c check g d s (t ∷ ts) h =
    let g' : List ℕ = set g d s.control in
    let head : List Sent =
    frame s.address0 ∷ frame s.address1 ∷ frame s.address2 ∷ frame (no_windows - length s.windows) ∷ windows_sent (base_at c d) s.windows in
    let past = past_plain (eqb check writing) g' head (frame preamble ∷ sections_sent c (suc d) t ts)
    (refl, (refl, (refl, (refl, plain_windows (base_at c d) s.windows)))) h.1 in (
      lets_of check (get_or g d 0) s.control h.0,
      lets_alike check g' g (suc d) t ts (λ e l. sym (get_or-set_other g d e s.control 0 (λ z. omega arith)))
          (sections_let c check g' (suc d) t ts (past_plain (eqb check writing) g' (frame preamble ∷ []) (sections_sent c (suc d) t ts) (refl, tt) past)),
    )

plain_lead : (mode : ℕ) → Plain (lead_sent mode)
plain_lead = each_lead (λ t b. slot registers t ≡ slot registers framing) (λ b. refl)

-- ---- a run from its start

sort_same : (check : ℕ) → eqb (pick (eqb check writing) writing checking) writing ≡ eqb check writing
sort_same check = by_test (eqb check writing) (λ e. rw e refl) (λ e. rw e refl)

-- an accepted stream that is walked as sections do
pub stream_let : (c : Chain) (len mode check : ℕ) (bs : List ℕ) (s : Section) (ss : List Section) → Sound (with_place c (opened_place mode check)) len
    → length c.registers ≡ most_devices → Bytes bs → Accepted (with_place c (opened_place mode check)) bs
    → walk_of (with_place c (opened_place mode check)) bs ≡ stream_sent c mode s ss → AllLet check c.registers 0 s ss
stream_let c len mode check bs s ss k l u a e =
    sections_let c check c.registers 0 s ss
    (past_plain (eqb check writing) c.registers (lead_sent mode) (sections_sent c 0 s ss) (plain_lead mode)
    (subst (λ (xs : List Sent). LetAlong (eqb check writing) c.registers xs) e
    (subst (λ (w : Bool). LetAlong w c.registers (walk_of (with_place c (opened_place mode check)) bs)) (sort_same check)
    (walk_let bs (with_place c (opened_place mode check)) len k l u a))))
