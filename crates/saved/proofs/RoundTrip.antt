-- What was saved and is picked up is the state saved; what was picked up and is saved is the bytes picked up; all other bytes are 17. Assumes nothing.
use Prim.Native.Nat.{ℕ, ◌^◌, ◌<◌, ◌≤◌}
use mathlib.Core.Bool.{Bool, true, false, not, ◌&&◌, ◌||◌}
use mathlib.Core.Logic.{◌⊎◌, inl, inr}
use mathlib.Core.Path.{◌≡◌, refl, sym, ap, subst, ◌∙◌}
use mathlib.Core.List.{List, [], ◌∷◌, ◌++◌}
use native.Mathlib.Nat.{zero-add}
use borrow.Author.Tests.{eq-eqb, eqb-true, le-ltb, not-false}
use lib.ListN.{length, get_or, take, drop}
use lib.Seq.{take_at}
use lib.Dec.{eqb, lit<}
use Rattle.chain.specs.declared.Chain.{Chain}
use Rattle.chain.specs.declared.Place.{Place}
use Rattle.chain.specs.declared.Made.{Made}
use Rattle.chain.specs.declared.Written.{Written}
use Rattle.chain.specs.Paper.{closed, opened, done, ill_formed}
use Rattle.chain.specs.Rules.{all_of}
use Rattle.chain.specs.Set.{with_running}
use Rattle.chain.specs.State.{is_bad_chain, is_ill_formed, is_well_formed, state_rules, open_rules, state_number, open_number}
use Rattle.chain.proofs.AllOf.{Each, ◌and◌, all_each}
use Rattle.chain.proofs.FirstOf.{first-none, none_first}
use Rattle.chain.proofs.Means.{says, reads}
use Rattle.saved.specs.Fields.{total, Fit, recut, bytes}
use Rattle.saved.specs.Layout.{form, zero, placed, register, Row, ◌takes◌, Form, form1, rows, widths, values, length_in, saved_in, held_in, place_of, place_in, registers_of, registers_in, marks, saved_length, saved_bytes, well_saved_in, well_saved}
use Rattle.saved.specs.Calls.{save_rules, save_number, save_of, save_output, pick_up_rules, pick_up_number, picked_up, pick_up_of, Save, PickUp}
use Rattle.saved.proofs.Packing.{through}
use Rattle.saved.proofs.Regroup.{elems_is}
use Rattle.saved.proofs.Pieces.{fit_bytes}
use Rattle.saved.proofs.Ranged.{Ranged, fits}
use Rattle.saved.proofs.Formed.{open_well, narrow, next_fits, kinds_unused, registers_unused}
use Rattle.saved.proofs.Answers.{writes-on, save-asked, pick-up-on, found, picked, not-picked}

-- ---- any form: values through bytes, and bytes through values

module _ (f : Form) (whole : total (widths f.table) ≡ total (bytes (length_in f))) where
  values-back : (g : List ℕ) (p : Place) → Fit (widths f.table) (values f.number f.table g p)
      → held_in f (saved_in f g p) ≡ values f.number f.table g p
  unfolding held_in saved_in
  values-back g p fit = through (bytes (length_in f)) (widths f.table) (values f.number f.table g p) fit whole

  bytes_back : (s : List ℕ) → length s ≡ length_in f → ((i : ℕ) → get_or s i 0 < 2 ^ 8)
      → recut (widths f.table) (bytes (length_in f)) (held_in f s) ≡ s
  unfolding held_in
  bytes_back s l h =
      through (widths f.table) (bytes (length_in f)) s
      (subst (Fit (bytes (length_in f))) (elems_is 0 (length_in f) s (zero-add (length_in f) ∙ sym l)) (fit_bytes s h (length_in f) 0)) (sym whole)

-- the values with the form's number and the zero bits put right
abbrev right : ℕ → List Row → List ℕ → List ℕ
right n ((form takes w) ∷ table) (v ∷ vs) = n ∷ right n table vs
right n ((zero takes w) ∷ table) (v ∷ vs) = 0 ∷ right n table vs
right n ((placed read with takes w) ∷ table) (v ∷ vs) = v ∷ right n table vs
right n ((register i takes w) ∷ table) (v ∷ vs) = v ∷ right n table vs
right n [] vs = vs
right n (row ∷ table) [] = []

-- where the marks are right nothing was put right
right_is : (n : ℕ) (table : List Row) (vs : List ℕ) → Each (marks n table vs) → right n table vs ≡ vs
right_is n ((form takes w) ∷ table) (v ∷ vs) (m and ms) = λ k. sym (eqb-true v n m) k ∷ right_is n table vs ms k
right_is n ((zero takes w) ∷ table) (v ∷ vs) (m and ms) = λ k. sym (eqb-true v 0 m) k ∷ right_is n table vs ms k
right_is n ((placed read with takes w) ∷ table) (v ∷ vs) ms = ap (λ (l : List ℕ). v ∷ l) (right_is n table vs ms)
right_is n ((register i takes w) ∷ table) (v ∷ vs) ms = ap (λ (l : List ℕ). v ∷ l) (right_is n table vs ms)
right_is n [] vs ms = refl
right_is n (row ∷ table) [] ms = refl

-- ---- form 1

length_saved : (g : List ℕ) (p : Place) → length (saved_bytes g p) ≡ saved_length
unfolding saved_in
length_saved g p = refl

module _ (g : List ℕ) (p : Place) (f : Fit (widths rows) (values form1.number rows g p)) where
  registers-back : length g ≡ 8 → g ≡ registers_in form1 (saved_bytes g p)
  registers-back eight = sym (ap (registers_of rows) (values-back form1 refl g p f) ∙ elems_is 0 8 g (sym eight))

  place_back : p.running ≡ opened → p ≡ place_in form1 (saved_bytes g p)
  place_back o = sym (ap (place_of rows) (values-back form1 refl g p f) ∙ (λ k. with_running p (sym o k)))

  marks-back : true ≡ all_of (marks form1.number rows (held_in form1 (saved_bytes g p)))
  marks-back = sym (ap (λ (v : List ℕ). all_of (marks form1.number rows v)) (values-back form1 refl g p f))

-- the values of what bytes hold are what they hold, form and zero bits put right
values_again : (s : List ℕ) → values form1.number rows (registers_in form1 s) (place_in form1 s) ≡ right form1.number rows (held_in form1 s)
unfolding held_in
values_again s = refl

-- ---- what a 0 says

same-chain : (c d : Chain) (g : List ℕ) (p : Place) → d.count ≡ c.count → d.kinds ≡ c.kinds → is_well_formed d g p ≡ is_well_formed c g p
unfolding is_well_formed
same-chain c d g p e f =
    λ k. is_well_formed (record { count = e k; kinds = f k; registers = c.registers; place = c.place }) g p

-- what a saved place that is taken says
taken : (c : Chain) (s : List ℕ) → well_saved c s ≡ true
    → (length s ≡ saved_length) × (all_of (marks form1.number rows (held_in form1 s)) ≡ true) × (is_well_formed c (registers_in form1 s) (place_in form1 s) ≡ true)
unfolding well_saved_in
taken c s h = says (search reads) h

-- Picking up what was saved, into a state of the same chain with no open run and the same memory, gives the state saved, registers included.
pub saved_back : (c d : Chain) (m n out out' : List ℕ) (w : Written) (r : Made)
    → Ranged c.registers c.place
    → Save c m out w out' → w.number ≡ done
    → d.count ≡ c.count → d.kinds ≡ c.kinds → length n ≡ length m
    → is_ill_formed d ≡ false → d.place.running ≡ closed
    → PickUp d n (take saved_length out') r
    → r ≡ record { chain = c; number = done }
unfolding save_number open_number state_number
saved_back c d m n out out' w r range save h count kinds len ill shut up =
    let num : save_number c (length m) (length out) ≡ done = sym (ap (λ (x : Written). x.number) save.answer) ∙ h in
    let o = first-none (save_rules c (length m) (length out)) done tt num in
    let well = open_well c o.1.0 o.1.1.0 in
    let g : List ℕ = c.registers in
    let p : Place = c.place in
    let f = fits form1.number g p (lit< tt) range (narrow c (length m) g p o.0 well.1) (next_fits c (length m) g p o.0 well.1 range.end) in
    let s : List ℕ = saved_bytes g p in
    let same : take saved_length out' ≡ s =
    ap (take saved_length) (save.output ∙ sym (writes-on s out num).output) ∙ take_at s (drop (length s) out) saved_length (length_saved g p)
    in
    let st : state_number d (length n) ≡ done = none_first (state_rules d (length n) []) done ((λ k. is_bad_chain (count k) (kinds k) (len k)) ∙ o.0, (ill, tt)) in
    let registers = registers-back g p f range.eight in
    let place = place_back g p f well.0 in
    let ok : well_saved d s ≡ true =
    found d (length n) s g p (λ k. eq-eqb (length s) saved_length (length_saved g p) k && sym (marks-back g p f) k) registers place
    ∙ same-chain c d g p count kinds ∙ well.1
    in
    up.made
    ∙ ap (pick_up_of d (length n)) same
    ∙ sym (picked d (length n) s st shut ok)
    ∙ (λ k. record { chain = record { count = count k; kinds = kinds k; registers = sym registers k; place = sym place k }; number = done })

-- what bytes hold, saved, is those bytes
taken-bytes : (c : Chain) (s : List ℕ) → ((i : ℕ) → get_or s i 0 < 2 ^ 8) → well_saved c s ≡ true → saved_bytes (registers_in form1 s) (place_in form1 s) ≡ s
unfolding saved_in
taken-bytes c s byte h =
    let t = taken c s h in
    let v = held_in form1 s in
    ap (recut (widths rows) (bytes saved_length)) (values_again s ∙ right_is form1.number rows v (all_each (marks form1.number rows v) t.1))
    ∙ bytes_back form1 refl s t.0 byte

open_again : (s : List ℕ) → (place_in form1 s).running ≡ opened
unfolding held_in
open_again s = refl

-- the state that a pick-up gives is none that save refuses
still_kept : (c : Chain) (s : List ℕ) → is_ill_formed c ≡ false → is_well_formed c (registers_in form1 s) (place_in form1 s) ≡ true → is_ill_formed (picked_up c s) ≡ false
unfolding is_ill_formed
still_kept c s h w =
    let g : List ℕ = registers_in form1 s in
    let p : Place = place_in form1 s in
    let a = kinds_unused c h in
    let b = registers_unused c g p w in
    let e = same-chain c (picked_up c s) g p refl refl ∙ w in
    let o = open_again s in
    λ k. not (a k) || not (b k) || not (eqb (o k) closed || eqb (o k) opened && e k)

-- What a pick-up takes, saved again from the state it gave, is the same 27 bytes.
pub saved_again : (c : Chain) (m n s out out' : List ℕ) (r : Made) (w : Written)
    → ((i : ℕ) → get_or s i 0 < 2 ^ 8)
    → PickUp c m s r → r.number ≡ done
    → length n ≡ length m → saved_length ≤ length out
    → Save r.chain n out w out'
    → (w ≡ record { number = done; length = saved_length }) × (out' ≡ s ++ drop saved_length out)
unfolding pick_up_number pick_up_of open_number
saved_again c m n s out out' r w byte up h len room save =
    let num : pick_up_number c (length m) s ≡ done = sym (ap (λ (x : Made). x.number) up.made) ∙ h in
    let o = first-none (pick_up_rules c (length m) s) done tt num in
    let ok : well_saved c s ≡ true = not-false (well_saved c s) o.1.1.1.0 in
    let t = taken c s ok in
    let d : Chain = picked_up c s in
    let is : r.chain ≡ d = ap (λ (x : Made). x.chain) (up.made ∙ sym (pick-up-on c (length m) s num)) in
    let open-now : open_number d (length n) ≡ done = none_first (open_rules d (length n) []) done (ap (is_bad_chain c.count c.kinds) len ∙ o.0, (still_kept c s o.1.0 t.2, (ap (λ (x : ℕ). eqb x closed) (open_again s), tt))) in
    let zero-now : save_number d (length n) (length out) ≡ done = save-asked d (length n) (length out) open-now ∙ rw (le-ltb (length out) saved_length room) in
    let on = writes-on (saved_bytes d.registers d.place) out zero-now in
    let b = taken-bytes c s byte ok in (
      save.answer ∙ ap (λ (x : Chain). save_of x (length n) (length out)) is ∙ sym on.answer ∙ (λ k. record { number = done; length = (ap length b ∙ t.0) k }),
      save.output ∙ ap (λ (x : Chain). save_output x (length n) out) is ∙ sym on.output ∙ (λ k. b k ++ drop ((ap length b ∙ t.0) k) out),
    )

-- ---- every string of bytes is taken or is 17

pub taken-or_17 : (c : Chain) (m s : List ℕ) (r : Made)
    → state_number c (length m) ≡ done → c.place.running ≡ closed
    → PickUp c m s r
    → ((well_saved c s ≡ true) × (r ≡ record { chain = picked_up c s; number = done })) ⊎ ((well_saved c s ≡ false) × (r ≡ record { chain = c; number = ill_formed }))
taken-or_17 c m s r h shut up = go (well_saved c s) refl
  where
    go : (b : Bool) → well_saved c s ≡ b
        → ((well_saved c s ≡ true) × (r ≡ record { chain = picked_up c s; number = done })) ⊎ ((well_saved c s ≡ false) × (r ≡ record { chain = c; number = ill_formed }))
    go true e = inl (e, up.made ∙ sym (picked c (length m) s h shut e))
    go false e = inr (e, up.made ∙ sym (not-picked c (length m) s h shut e))
