-- Every accepted stream is one of the grammar's, and each of its bytes goes where the grammar says. Assumes nothing.
use Prim.Native.Nat.{ℕ, zero, suc, ◌+◌, ◌-◌, ◌%◌, ◌^◌, ◌≤◌, ◌<◌}
use mathlib.Core.Bool.{true, false, not}
use mathlib.Core.Path.{◌≡◌, refl, ap, sym, subst, ◌∙◌}
use mathlib.Core.List.{List, [], ◌∷◌, ◌++◌}
use native.Mathlib.Nat.{mod-eq_of_lt}
use native.Mathlib.Omega.{arith}
use lib.Dec.{eqb}
use lib.ListN.{length}
use borrow.Author.Tests.{eqb-true, eqb-false, leb-false, not-false}
use Rattle.chain.specs.declared.Chain.{Chain}
use Rattle.chain.specs.declared.Place.{Place}
use Rattle.chain.specs.Paper.{preamble, postamble, no_windows, at_preamble, at_second, at_control, at_address, at_address2, at_address3, at_count, at_null, at_check, two_preambles, B2}
use Rattle.chain.specs.Rules.{pick}
use Rattle.chain.specs.Set.{with_place, with_awaited, with_left, with_control, with_device}
use Rattle.chain.proofs.ByCases.{by_test}
use Rattle.awaited.specs.Byte.{next_device, advance_of}
use Rattle.machine.specs.Run.{registers_of, missed_of, went_on}
use Rattle.machine.specs.Calls.{opened_place}
use Rattle.chain.specs.Kinds.{size_at}
use Rattle.grammar.specs.Stream.{base_at, Section, windows_sent, section_sent, sections_sent, stream_sent}
use Rattle.grammar.specs.Sent.{register, Sent, frame, bytes_of}
use Rattle.grammar.specs.Fits.{AllFit, SectionFits, SectionsFit}
use Rattle.chain.specs.Bytes.{Bytes}
use Rattle.grammar.proofs.OtherRegisters.{with_registers}
use Rattle.grammar.specs.Stores.{walk_of}
use Rattle.grammar.proofs.Accepted.{Accepted, accepted-bytes}
use Rattle.grammar.proofs.ReadByte.{Clean, GoesOn, on, AtCheck, over, onward, at_check_lem, Left, left_both, OneLeft, one}
use Rattle.grammar.proofs.ReadWindows.{counting, before, WindowsLeft, parse_windows}

-- ---- the address and the count

-- the count byte: the ones' complement of the number of windows
abbrev counted_to : Place → ℕ → Place
counted_to p b =
    with_awaited (with_left (counting p) (pick (eqb b no_windows) p.left (255 - b))) (pick (eqb b no_windows) at_check at_null)

count_is : (p : Place) (b : ℕ) → b < 256 → counted_to p b ≡ before (counting p) (no_windows - b)
count_is p b h =
    by_test (eqb b no_windows)
    (λ e.
    let z : no_windows - b ≡ 0 = omega (arith, eqb-true b no_windows e) in
    rw (e, z))
    (λ e.
    let d : b ≡ no_windows → ⊥ = eqb-false b no_windows e in
    let z : no_windows - b ≡ suc (254 - b) = omega arith in
    rw (e, z))

pub record HeadLeft (c : Chain) (bs : List ℕ) (p : Place) : Type 0 where
  pub address0 : ℕ
  pub address1 : ℕ
  pub address2 : ℕ
  pub many : ℕ
  pub rest : List ℕ
  pub run : Place
  pub few : many ≤ no_windows
  pub left : Left c bs (with_awaited p at_address) (frame address0 ∷ frame address1 ∷ frame address2 ∷ frame (no_windows - many) ∷ []) rest (before run many)

module _ (c : Chain) (bs : List ℕ) (p : Place) (u : Bytes bs) where
  address0_one : Accepted (with_place c (with_awaited p at_address)) bs → OneLeft c bs (with_awaited p at_address) (λ b. with_awaited (counting p) at_address2)
  unfolding registers_of missed_of advance_of
  address0_one h = one c bs (with_awaited p at_address) (λ b. with_awaited (counting p) at_address2) refl (λ b. (refl, refl, refl)) u h

  address1_one : Accepted (with_place c (with_awaited p at_address2)) bs → OneLeft c bs (with_awaited p at_address2) (λ b. with_awaited (counting p) at_address3)
  unfolding registers_of missed_of advance_of
  address1_one h = one c bs (with_awaited p at_address2) (λ b. with_awaited (counting p) at_address3) refl (λ b. (refl, refl, refl)) u h

  address2_one : Accepted (with_place c (with_awaited p at_address3)) bs → OneLeft c bs (with_awaited p at_address3) (λ b. with_awaited (counting p) at_count)
  unfolding registers_of missed_of advance_of
  address2_one h = one c bs (with_awaited p at_address3) (λ b. with_awaited (counting p) at_count) refl (λ b. (refl, refl, refl)) u h

  count_one : Accepted (with_place c (with_awaited p at_count)) bs → OneLeft c bs (with_awaited p at_count) (counted_to p)
  unfolding registers_of missed_of advance_of
  count_one h =
      one c bs (with_awaited p at_count) (counted_to p) refl
      (λ b. (by_test (eqb b no_windows) (λ e. rw e refl) (λ e. rw e refl), refl, refl)) u h

head_of : (c : Chain) (bs : List ℕ) (p : Place)
    (x : OneLeft c bs (with_awaited p at_address) (λ b. with_awaited (counting p) at_address2))
    (y : OneLeft c x.rest (with_awaited (counting p) at_address2) (λ b. with_awaited (counting (counting p)) at_address3))
    (z : OneLeft c y.rest (with_awaited (counting (counting p)) at_address3) (λ b. with_awaited (counting (counting (counting p))) at_count))
    (n : OneLeft c z.rest (with_awaited (counting (counting (counting p))) at_count) (counted_to (counting (counting (counting p)))))
    → HeadLeft c bs p
head_of c bs p x y z n =
    let q : Place = counting (counting (counting p)) in
    let k : no_windows - (no_windows - n.byte) ≡ n.byte = omega (arith, n.small) in
    record {
      address0 = x.byte;
      address1 = y.byte;
      address2 = z.byte;
      many = no_windows - n.byte;
      rest = n.rest;
      run = counting q;
      few = omega arith;
      left = rw k
          (subst (λ (r : Place). Left c bs (with_awaited p at_address) (frame x.byte ∷ frame y.byte ∷ frame z.byte ∷ frame n.byte ∷ []) n.rest r)
          (count_is q n.byte n.small)
          (left_both x.left (left_both y.left (left_both z.left n.left))));
    }

parse_head : (c : Chain) (bs : List ℕ) (p : Place) → Bytes bs → Accepted (with_place c (with_awaited p at_address)) bs → HeadLeft c bs p
parse_head c bs p u h =
    let x = address0_one c bs p u h in
    let y = address1_one c x.rest (counting p) x.left.bytes x.left.accepted in
    let z = address2_one c y.rest (counting (counting p)) y.left.bytes y.left.accepted in
    head_of c bs p x y z (count_one c z.rest (counting (counting (counting p))) z.left.bytes z.left.accepted)

-- ---- a section

-- the registers after the control byte
abbrev loaded : Chain → Place → ℕ → List ℕ
loaded c p b = registers_of (with_place c (with_awaited p at_control)) b

abbrev controlled : Place → ℕ → Place
controlled p b = with_control (counting p) b

control_went : (c : Chain) (p : Place) (b : ℕ)
    → went_on (with_place c (with_awaited p at_control)) [] b ≡ with_place (with_registers c (loaded c p b)) (with_awaited (controlled p b) at_address)
unfolding missed_of advance_of
control_went c p b = refl

pub record SectionLeft (c : Chain) (bs : List ℕ) (p : Place) : Type 0 where
  pub section : Section
  pub rest : List ℕ
  pub registers : List ℕ
  pub run : Place
  pub fits : SectionFits (size_at c p.device) section
  pub sends : walk_of (with_place c (with_awaited p at_control)) bs
      ≡ section_sent (base_at c p.device) p.device section ++ walk_of (with_place (with_registers c registers) (with_awaited run at_check)) rest
  pub accepted : Accepted (with_place (with_registers c registers) (with_awaited run at_check)) rest
  pub bytes : Bytes rest
  pub device : run.device ≡ p.device
  pub control : run.control ≡ section.control

-- after the control byte: the address, the count and the windows
module _ (c : Chain) (bs : List ℕ) (p : Place) (a : HeadLeft c bs p) (w : WindowsLeft c a.rest a.run a.many) where
  section-left : Left c bs (with_awaited p at_address)
      (frame a.address0 ∷ frame a.address1 ∷ frame a.address2 ∷ frame (no_windows - length w.windows) ∷ windows_sent (base_at c p.device) w.windows)
      w.rest (before w.run 0)
  section-left =
      subst (λ (n : ℕ). Left c bs (with_awaited p at_address) (frame a.address0 ∷ frame a.address1 ∷ frame a.address2 ∷ frame (no_windows - n) ∷ windows_sent (base_at c p.device) w.windows) w.rest (before w.run 0)) (sym w.many)
      (subst (λ (d : ℕ). Left c bs (with_awaited p at_address) (frame a.address0 ∷ frame a.address1 ∷ frame a.address2 ∷ frame (no_windows - a.many) ∷ windows_sent (base_at c d) w.windows) w.rest (before w.run 0)) a.left.device
      (left_both a.left w.left))

module _ (c : Chain) (bs : List ℕ) (p : Place) (o : GoesOn (with_place c (with_awaited p at_control)) bs) where
  section_with : (a : HeadLeft (with_registers c (loaded c p o.byte)) o.rest (controlled p o.byte))
      (w : WindowsLeft (with_registers c (loaded c p o.byte)) a.rest a.run a.many) → SectionLeft c bs p
  section_with a w =
      let g = section-left (with_registers c (loaded c p o.byte)) o.rest (controlled p o.byte) a w in
      let few : a.many ≤ no_windows = a.few in
      record {
        section = record { control = o.byte; address0 = a.address0; address1 = a.address1; address2 = a.address2; windows = w.windows };
        rest = w.rest;
        registers = loaded c p o.byte;
        run = w.run;
        fits = record { few = omega (arith, w.many); fit = subst (λ (d : ℕ). AllFit (size_at c d) w.windows) a.left.device w.fits };
        sends = o.sends
            ∙ ap (λ (d : Chain). record { byte = o.byte; to = register p.device } ∷ walk_of d o.rest) (control_went c p o.byte)
            ∙ ap (record { byte = o.byte; to = register p.device } ∷◌) g.sends;
        accepted = g.accepted;
        bytes = g.bytes;
        device = g.device;
        control = g.control;
      }

  section-on : Bytes bs → SectionLeft c bs p
  section-on u =
      let v : Bytes (o.byte ∷ o.rest) = subst (λ (l : List ℕ). Bytes l) o.is u in
      let a = parse_head (with_registers c (loaded c p o.byte)) o.rest (controlled p o.byte) v.1
      (subst (λ (d : Chain). Accepted d o.rest) (control_went c p o.byte) o.accepted) in
      section_with a (parse_windows (with_registers c (loaded c p o.byte)) a.many a.rest a.run a.left.bytes a.left.accepted)

parse_section : (c : Chain) (bs : List ℕ) (p : Place) → Bytes bs → Accepted (with_place c (with_awaited p at_control)) bs → SectionLeft c bs p
parse_section c bs p u h = section-on c bs p (on (with_place c (with_awaited p at_control)) bs refl h) u

-- ---- the check byte

-- the place after a preamble there
abbrev moved : Place → Place
moved p = with_control (with_device (counting p) (next_device p)) 0

check_went : (c : Chain) (p : Place) (b : ℕ) → went_on (with_place c (with_awaited p at_check)) [] b ≡ with_place c (with_awaited (moved p) at_control)
unfolding registers_of missed_of advance_of
check_went c p b = refl

-- it goes on at a preamble alone, where control bit 2 is clear and a device stands after this one
pub record NextBegins (c : Chain) (p : Place) (b : ℕ) : Type 0 where
  pub byte : b ≡ preamble
  pub bit : B2 p.control ≡ false
  pub device : p.device + 1 < c.count

next-begins : (c : Chain) (p : Place) (b : ℕ) → Clean (with_place c (with_awaited p at_check)) b → NextBegins c p b
next-begins c p b k =
    let n : eqb b postamble ≡ false = k.unfinished in
    let e : eqb b preamble ≡ true = not-false (eqb b preamble) (rw n at k.check-byte) in
    record {
      byte = eqb-true b preamble e;
      bit = rw e at k.keeps_going;
      device = leb-false c.count (p.device + 1) (rw e at k.next_device_lem);
    }

-- ---- the sections

-- the sections from device d on
pub record SectionsLeft (c : Chain) (g bs : List ℕ) (p : Place) (d : ℕ) : Type 0 where
  pub first : Section
  pub others : List Section
  pub fits : SectionsFit c d first others
  pub sends : walk_of (with_place (with_registers c g) (with_awaited p at_control)) bs ≡ sections_sent c d first others

-- the same, with the first section already read
pub record OthersLeft (c : Chain) (g bs : List ℕ) (p : Place) (d : ℕ) (first : Section) : Type 0 where
  pub others : List Section
  pub fits : SectionsFit c d first others
  pub sends : section_sent (base_at c d) d first ++ walk_of (with_place (with_registers c g) (with_awaited p at_check)) bs ≡ sections_sent c d first others

module _ (c : Chain) (g bs : List ℕ) (p : Place) (d : ℕ) (first : Section) (l : d < c.count) (f : SectionFits (size_at c d) first) where
  others_none : walk_of (with_place (with_registers c g) (with_awaited p at_check)) bs ≡ frame postamble ∷ [] → OthersLeft c g bs p d first
  others_none e = record { others = []; fits = (l, f); sends = ap (section_sent (base_at c d) d first ++◌) e }

  others_on : (o : GoesOn (with_place (with_registers c g) (with_awaited p at_check)) bs) → o.byte ≡ preamble → B2 first.control ≡ false
      → SectionsLeft c g o.rest (moved p) (suc d) → OthersLeft c g bs p d first
  others_on o e b s =
      record {
        others = s.first ∷ s.others;
        fits = (l, f, b, s.fits);
        sends = ap (section_sent (base_at c d) d first ++◌)
            (o.sends
            ∙ ap (λ (x : Chain). frame o.byte ∷ walk_of x o.rest) (check_went (with_registers c g) p o.byte)
            ∙ ap (λ (x : ℕ). frame x ∷ walk_of (with_place (with_registers c g) (with_awaited (moved p) at_control)) o.rest) e
            ∙ ap (frame preamble ∷◌) s.sends);
      }

-- the sections from device d on are read, whatever the registers and the bytes
abbrev Reads : Chain → ℕ → Type 0
Reads c d = (g bs : List ℕ) (p : Place) → p.device ≡ d → Bytes bs
    → Accepted (with_place (with_registers c g) (with_awaited p at_control)) bs → SectionsLeft c g bs p d

next_is : (c : Chain) (d k : ℕ) → c.count ≤ 8 → k ≡ d → k + 1 < c.count → (k + 1) % 2 ^ 8 ≡ suc d
next_is c d k m e h =
    let small : k + 1 < 2 ^ 8 = omega arith in
    mod-eq_of_lt small ∙ omega arith

parse_others : (c : Chain) (g bs : List ℕ) (p : Place) (d : ℕ) (first : Section) → c.count ≤ 8 → d < c.count
    → SectionFits (size_at c d) first → p.device ≡ d → p.control ≡ first.control → Bytes bs
    → Accepted (with_place (with_registers c g) (with_awaited p at_check)) bs
    → (suc d < c.count → Reads c (suc d)) → OthersLeft c g bs p d first
parse_others c g bs p d first m l f e k u h rec = go (at_check_lem (with_place (with_registers c g) (with_awaited p at_check)) bs refl h)
  where
    go : AtCheck (with_place (with_registers c g) (with_awaited p at_check)) bs → OthersLeft c g bs p d first
    go (over e) = others_none c g bs p d first l f e
    go (onward o) =
        let t = next-begins (with_registers c g) p o.byte o.tells in
        let v : Bytes (o.byte ∷ o.rest) = subst (λ (x : List ℕ). Bytes x) o.is u in
        let more : p.device + 1 < c.count = t.device in
        others_on c g bs p d first l f o t.byte (subst (λ (x : ℕ). B2 x ≡ false) k t.bit)
        (rec (omega arith) g o.rest (moved p) (next_is c d p.device m e more) v.1
        (subst (λ (x : Chain). Accepted x o.rest) (check_went (with_registers c g) p o.byte) o.accepted))

sections_of : (c : Chain) (g bs : List ℕ) (p : Place) (a : SectionLeft (with_registers c g) bs p)
    → OthersLeft c a.registers a.rest a.run p.device a.section → SectionsLeft c g bs p p.device
sections_of c g bs p a o =
    record { first = a.section; others = o.others; fits = o.fits; sends = a.sends ∙ o.sends }

-- n devices at most, from device d on
parse_sections : (c : Chain) (n d : ℕ) → c.count ≤ 8 → d + n ≡ c.count → d < c.count → Reads c d
parse_sections c zero d m s l = absurd (omega arith)
parse_sections c (suc n) d m s l = λ g bs p e u h.
    let a = parse_section (with_registers c g) bs p u h in
    subst (λ (x : ℕ). SectionsLeft c g bs p x) e
    (sections_of c g bs p a
    (parse_others c a.registers a.rest a.run p.device a.section m (omega arith) a.fits a.device a.control a.bytes a.accepted
    (λ j. subst (λ (x : ℕ). Reads c x) (ap suc (sym e)) (parse_sections c n (suc d) m (omega arith) (omega arith)))))

-- ---- the whole stream: a write or a check, any mode, any chain

pub record Parsed (c : Chain) (mode check : ℕ) (bs : List ℕ) : Type 0 where
  pub first : Section
  pub others : List Section
  pub fits : SectionsFit c 0 first others
  pub sends : walk_of (with_place c (opened_place mode check)) bs ≡ stream_sent c mode first others

module _ (c : Chain) (bs : List ℕ) (p : Place) (u : Bytes bs) (h : Accepted (with_place c (with_awaited p at_preamble)) bs) where
  -- the first preamble, in mode 6 and in another
  lead_two : eqb p.mode two_preambles ≡ true → OneLeft c bs (with_awaited p at_preamble) (λ b. with_awaited (counting p) at_second)
  unfolding registers_of missed_of advance_of
  lead_two e = one c bs (with_awaited p at_preamble) (λ b. with_awaited (counting p) at_second) refl (λ b. (rw e, refl, refl)) u h

  lead_one : eqb p.mode two_preambles ≡ false → OneLeft c bs (with_awaited p at_preamble) (λ b. with_awaited (counting p) at_control)
  unfolding registers_of missed_of advance_of
  lead_one e = one c bs (with_awaited p at_preamble) (λ b. with_awaited (counting p) at_control) refl (λ b. (rw e, refl, refl)) u h

second_one : (c : Chain) (bs : List ℕ) (p : Place) → Bytes bs → Accepted (with_place c (with_awaited p at_second)) bs
    → OneLeft c bs (with_awaited p at_second) (λ b. with_awaited (counting p) at_control)
unfolding registers_of missed_of advance_of
second_one c bs p u h = one c bs (with_awaited p at_second) (λ b. with_awaited (counting p) at_control) refl (λ b. (refl, refl, refl)) u h

is_preamble : (b : ℕ) → not (eqb b preamble) ≡ false → b ≡ preamble
is_preamble b e = eqb-true b preamble (not-false (eqb b preamble) e)

-- after the lead the sections follow
module _ (c : Chain) (mode check : ℕ) (bs : List ℕ) where
  parsed_one : (e : eqb mode two_preambles ≡ false)
      (x : OneLeft c bs (opened_place mode check) (λ b. with_awaited (counting (opened_place mode check)) at_control))
      → SectionsLeft c c.registers x.rest (counting (opened_place mode check)) 0 → Parsed c mode check bs
  parsed_one e x s =
      record {
        first = s.first;
        others = s.others;
        fits = s.fits;
        sends = rw e
            (x.left.sends
            ∙ ap (frame x.byte ∷◌) s.sends
            ∙ ap (λ (b : ℕ). frame b ∷ sections_sent c 0 s.first s.others) (is_preamble x.byte x.tells.opens));
      }

  parsed_two : (e : eqb mode two_preambles ≡ true)
      (x : OneLeft c bs (opened_place mode check) (λ b. with_awaited (counting (opened_place mode check)) at_second))
      (y : OneLeft c x.rest (with_awaited (counting (opened_place mode check)) at_second) (λ b. with_awaited (counting (counting (opened_place mode check))) at_control))
      → SectionsLeft c c.registers y.rest (counting (counting (opened_place mode check))) 0 → Parsed c mode check bs
  parsed_two e x y s =
      record {
        first = s.first;
        others = s.others;
        fits = s.fits;
        sends = rw e
            (x.left.sends
            ∙ ap (frame x.byte ∷◌) y.left.sends
            ∙ ap (λ (l : List Sent). frame x.byte ∷ frame y.byte ∷ l) s.sends
            ∙ ap (λ (b : ℕ). frame b ∷ frame y.byte ∷ sections_sent c 0 s.first s.others) (is_preamble x.byte x.tells.opens)
            ∙ ap (λ (b : ℕ). frame preamble ∷ frame b ∷ sections_sent c 0 s.first s.others) (is_preamble y.byte y.tells.opens));
      }

pub parse : (c : Chain) (mode check : ℕ) (bs : List ℕ) → 0 < c.count → c.count ≤ 8 → Bytes bs
    → Accepted (with_place c (opened_place mode check)) bs → Parsed c mode check bs
parse c mode check bs n m u h =
    by_test (eqb mode two_preambles)
    (λ e.
    let x = lead_two c bs (opened_place mode check) u h e in
    let y = second_one c x.rest (counting (opened_place mode check)) x.left.bytes x.left.accepted in
    parsed_two c mode check bs e x y
    (parse_sections c c.count 0 m (omega arith) n c.registers y.rest (counting (counting (opened_place mode check))) refl y.left.bytes y.left.accepted))
    (λ e.
    let x = lead_one c bs (opened_place mode check) u h e in
    parsed_one c mode check bs e x
    (parse_sections c c.count 0 m (omega arith) n c.registers x.rest (counting (opened_place mode check)) refl x.left.bytes x.left.accepted))

-- so the grammar's stream has the bytes that were fed
pub parsed_bytes : (c : Chain) (mode check : ℕ) (bs : List ℕ) → Accepted (with_place c (opened_place mode check)) bs
    → (x : Parsed c mode check bs) → bytes_of (stream_sent c mode x.first x.others) ≡ bs
parsed_bytes c mode check bs h x =
    ap (λ (l : List Sent). bytes_of l) (sym x.sends) ∙ accepted-bytes bs (with_place c (opened_place mode check)) h
