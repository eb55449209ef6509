-- The grammar is unambiguous: two readings of the same bytes are the same sections, windows and data. The machine is not mentioned.
-- Assumes nothing.
use Prim.Native.Nat.{ℕ, suc, ◌+◌, ◌-◌, ◌/◌, ◌%◌}
use mathlib.Core.Bool.{Bool, true, false}
use mathlib.Core.Path.{◌≡◌, refl, ap, sym, ◌∙◌}
use mathlib.Core.List.{List, [], ◌∷◌, ◌++◌, append_assoc}
use native.Mathlib.Nat.{div-add-mod'}
use native.Mathlib.Omega.{arith}
use lib.Dec.{eqb}
use lib.ListN.{length}
use Rattle.chain.specs.declared.Chain.{Chain}
use Rattle.chain.specs.Paper.{preamble, postamble, no_windows, two_preambles}
use Rattle.chain.specs.Rules.{pick}
use Rattle.chain.specs.Kinds.{size_at}
use Rattle.grammar.specs.Stream.{base_at, Window, Section, data_sent, window_sent, windows_sent, section_sent, sections_sent, stream_sent}
use Rattle.grammar.specs.Sent.{Sent, frame, bytes_of}
use Rattle.grammar.specs.Fits.{Fits, AllFit, SectionFits, SectionsFit}

pub bytes-append : (xs ys : List Sent) → bytes_of (xs ++ ys) ≡ bytes_of xs ++ bytes_of ys
bytes-append [] ys = refl
bytes-append (x ∷ xs) ys = ap (x.byte ∷◌) (bytes-append xs ys)

-- data bytes are sent as they are
pub data_bytes : (i : ℕ) (vs : List ℕ) → bytes_of (data_sent i vs) ≡ vs
data_bytes i [] = refl
data_bytes i (v ∷ vs) = ap (v ∷◌) (data_bytes (suc i) vs)

tail-eq : {x y : ℕ} {xs ys : List ℕ} → x ∷ xs ≡ y ∷ ys → xs ≡ ys
tail-eq e = cc

-- two parts read from the front of the same bytes: the same, and the rests too
pub record Same {A : Type 0} (x y : A) (a b : List ℕ) : Type 0 where
  pub part : x ≡ y
  pub rest : a ≡ b

-- as many data bytes
data_one : (i j : ℕ) (vs ws a b : List ℕ) → length vs ≡ length ws → bytes_of (data_sent i vs) ++ a ≡ bytes_of (data_sent j ws) ++ b → Same vs ws a b
data_one i j [] [] a b l e = record { part = refl; rest = e }
data_one i j [] (w ∷ ws) a b l e = absurd (omega arith)
data_one i j (v ∷ vs) [] a b l e = absurd (omega arith)
data_one i j (v ∷ vs) (w ∷ ws) a b l e =
    let h : v ≡ w = cc in
    let s = data_one (suc i) (suc j) vs ws a b (omega arith) (tail-eq e) in
    let t : vs ≡ ws = s.part in
    record { part = cc; rest = s.rest }

same_number : (x y : ℕ) → x / 256 ≡ y / 256 → x % 256 ≡ y % 256 → x ≡ y
same_number x y p q = omega (arith, div-add-mod' x 256, div-add-mod' y 256)

window_is : (v w : Window) → v.null ≡ w.null → v.start ≡ w.start → v.end ≡ w.end → v.bytes ≡ w.bytes → v ≡ w
window_is v w n s e d = rw (n, s, e, d)

window-one : (size base : ℕ) (v w : Window) (a b : List ℕ) → Fits size v → Fits size w
    → bytes_of (window_sent base v) ++ a ≡ bytes_of (window_sent base w) ++ b → Same v w a b
window-one size base v w a b f g e =
    let n : v.null ≡ w.null = cc in
    let s : v.start ≡ w.start = same_number v.start w.start (cc) (cc) in
    let t : v.end ≡ w.end = same_number v.end w.end (cc) (cc) in
    let l : length v.bytes ≡ length w.bytes = omega (arith, f.full, g.full) in
    let d = data_one (base + v.start) (base + w.start) v.bytes w.bytes a b l (tail-eq (tail-eq (tail-eq (tail-eq (tail-eq e))))) in
    record { part = window_is v w n s t d.part; rest = d.rest }

-- the bytes of two parts, and a rest
regroup : (xs ys : List Sent) (a : List ℕ) → bytes_of (xs ++ ys) ++ a ≡ bytes_of xs ++ (bytes_of ys ++ a)
regroup xs ys a = rw (bytes-append xs ys) (append_assoc (bytes_of xs) (bytes_of ys) a)

-- as many windows
windows-one : (size base : ℕ) (vs ws : List Window) (a b : List ℕ) → AllFit size vs → AllFit size ws → length vs ≡ length ws
    → bytes_of (windows_sent base vs) ++ a ≡ bytes_of (windows_sent base ws) ++ b → Same vs ws a b
windows-one size base [] [] a b f g l e = record { part = refl; rest = e }
windows-one size base [] (w ∷ ws) a b f g l e = absurd (omega arith)
windows-one size base (v ∷ vs) [] a b f g l e = absurd (omega arith)
windows-one size base (v ∷ vs) (w ∷ ws) a b f g l e =
    let h = sym (regroup (window_sent base v) (windows_sent base vs) a) ∙ e ∙ regroup (window_sent base w) (windows_sent base ws) b in
    let s = window-one size base v w _ _ f.0 g.0 h in
    let t = windows-one size base vs ws a b f.1 g.1 (omega arith) s.rest in
    let x : v ≡ w = s.part in
    let y : vs ≡ ws = t.part in
    record { part = cc; rest = t.rest }

section_is : (s t : Section) → s.control ≡ t.control → s.address0 ≡ t.address0 → s.address1 ≡ t.address1 → s.address2 ≡ t.address2
    → s.windows ≡ t.windows → s ≡ t
section_is s t n x y z w = rw (n, x, y, z, w)

section-one : (c : Chain) (d : ℕ) (s t : Section) (a b : List ℕ) → SectionFits (size_at c d) s → SectionFits (size_at c d) t
    → bytes_of (section_sent (base_at c d) d s) ++ a ≡ bytes_of (section_sent (base_at c d) d t) ++ b → Same s t a b
section-one c d s t a b f g e =
    let n : s.control ≡ t.control = cc in
    let x : s.address0 ≡ t.address0 = cc in
    let y : s.address1 ≡ t.address1 = cc in
    let z : s.address2 ≡ t.address2 = cc in
    let k : no_windows - length s.windows ≡ no_windows - length t.windows = cc in
    let l : length s.windows ≡ length t.windows = omega (arith, f.few, g.few) in
    let w = windows-one (size_at c d) (base_at c d) s.windows t.windows a b f.fit g.fit l (tail-eq (tail-eq (tail-eq (tail-eq (tail-eq e))))) in
    record { part = section_is s t n x y z w.part; rest = w.rest }

-- a stream ends or goes on, not both
no_byte : {xs : List ℕ} → postamble ∷ [] ≡ preamble ∷ xs → ⊥
no_byte e = let z : ◌≡◌ {A = ℕ} postamble preamble = cc in omega arith

-- a section, and what follows it
section_then : (c : Chain) (d : ℕ) (s t : Section) (xs ys : List Sent) → SectionFits (size_at c d) s → SectionFits (size_at c d) t
    → bytes_of (section_sent (base_at c d) d s ++ xs) ≡ bytes_of (section_sent (base_at c d) d t ++ ys) → Same s t (bytes_of xs) (bytes_of ys)
section_then c d s t xs ys f g e =
    section-one c d s t (bytes_of xs) (bytes_of ys) f g (sym (bytes-append (section_sent (base_at c d) d s) xs) ∙ e ∙ bytes-append (section_sent (base_at c d) d t) ys)

sections_one : (c : Chain) (d : ℕ) (s : Section) (ss : List Section) (t : Section) (ts : List Section) → SectionsFit c d s ss → SectionsFit c d t ts
    → bytes_of (sections_sent c d s ss) ≡ bytes_of (sections_sent c d t ts) → (s ≡ t) × (ss ≡ ts)
sections_one c d s [] t [] f g e = ((section_then c d s t (frame postamble ∷ []) (frame postamble ∷ []) f.1 g.1 e).part, refl)
sections_one c d s [] t (u ∷ us) f g e =
    absurd (no_byte (section_then c d s t (frame postamble ∷ []) (frame preamble ∷ sections_sent c (suc d) u us) f.1 g.1 e).rest)
sections_one c d s (r ∷ rs) t [] f g e =
    absurd (no_byte (sym (section_then c d s t (frame preamble ∷ sections_sent c (suc d) r rs) (frame postamble ∷ []) f.1 g.1 e).rest))
sections_one c d s (r ∷ rs) t (u ∷ us) f g e =
    let x = section_then c d s t (frame preamble ∷ sections_sent c (suc d) r rs) (frame preamble ∷ sections_sent c (suc d) u us) f.1 g.1 e in
    let y = sections_one c (suc d) r rs u us f.3 g.3 (tail-eq x.rest) in
    let p : r ≡ u = y.0 in
    let q : rs ≡ us = y.1 in
    (x.part, cc)

module _ (c : Chain) (mode : ℕ) (s : Section) (ss : List Section) (t : Section) (ts : List Section) (f : SectionsFit c 0 s ss) (g : SectionsFit c 0 t ts) where
  -- two readings of the same bytes are one
  pub same_sections : bytes_of (stream_sent c mode s ss) ≡ bytes_of (stream_sent c mode t ts) → (s ≡ t) × (ss ≡ ts)
  same_sections e = sections_one c 0 s ss t ts f g (led (eqb mode two_preambles) (sections_sent c 0 s ss) (sections_sent c 0 t ts) e)
    where
      led : (k : Bool) (xs ys : List Sent)
          → bytes_of (pick k (frame preamble ∷ frame preamble ∷ []) (frame preamble ∷ []) ++ xs)
          ≡ bytes_of (pick k (frame preamble ∷ frame preamble ∷ []) (frame preamble ∷ []) ++ ys)
          → bytes_of xs ≡ bytes_of ys
      led true xs ys e = tail-eq (tail-eq e)
      led false xs ys e = tail-eq e

  -- so each byte is meant for the same
  pub one_reading : bytes_of (stream_sent c mode s ss) ≡ bytes_of (stream_sent c mode t ts) → stream_sent c mode s ss ≡ stream_sent c mode t ts
  one_reading e =
      let q = same_sections e in
      rw (q.0, q.1)
