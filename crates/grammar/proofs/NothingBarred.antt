-- Control bytes with B4 clear bar nothing: after any part of such a stream the registers bar no more than before. Assumes nothing.
use Prim.Native.Nat.{ℕ, suc}
use mathlib.Core.Bool.{Bool, true, false}
use mathlib.Core.Path.{◌≡◌, refl}
use mathlib.Core.List.{List, [], ◌∷◌}
use lib.Dec.{eqb, ltb}
use lib.ListN.{length, get_or, take}
use Rattle.chain.specs.declared.Chain.{Chain}
use Rattle.chain.specs.Paper.{preamble, postamble, B4}
use Rattle.chain.specs.Rules.{pick}
use Rattle.grammar.specs.Stream.{base_at, Section, section_sent, sections_sent, lead_sent, stream_sent}
use Rattle.grammar.specs.Sent.{Target, framing, register, cell, Sent, frame, registers, index, slot, after}
use Rattle.grammar.specs.Fits.{Clear}
use Rattle.grammar.proofs.EachSent.{Each, each_append, each_take, each_lead, each_windows}
use Rattle.grammar.proofs.Walk.{put, put_all}
use Rattle.grammar.proofs.SameWay.{Freer, get_or-put_any}

-- a byte that is meant for a register has B4 clear
abbrev pub UnbarredAt : Target → ℕ → Type 0
UnbarredAt framing b = Unit {0}
UnbarredAt (register d) b = B4 b ≡ false
UnbarredAt (cell i) b = Unit {0}

abbrev pub Unbarred : List Sent → Type 0
Unbarred = Each UnbarredAt

-- ---- the registers after such bytes

clear_first : (k : Bool) (b y : ℕ) → B4 b ≡ false → B4 y ≡ false → B4 (pick k b y) ≡ false
clear_first true b y f h = f
clear_first false b y f h = h

freer_one : (t : Target) (b : ℕ) (g h : List ℕ) → UnbarredAt t b → Freer g h → Freer g (put (slot registers t) b h)
freer_one framing b g h u f = f
freer_one (cell i) b g h u f = f
freer_one (register j) b g h u f =
    λ d e. rw (get_or-put_any (index j) b h d)
    (clear_first (ltb d (length h)) (after (index j) b d (get_or h d 0)) 0 (clear_first (eqb d j) b (get_or h d 0) u (f d e)) refl)

freer_all : (xs : List Sent) (g h : List ℕ) → Unbarred xs → Freer g h → Freer g (put_all registers xs h)
freer_all [] g h u f = f
freer_all (x ∷ xs) g h u f = freer_all xs g (put (slot registers x.to) x.byte h) u.1 (freer_one x.to x.byte g h u.0 f)

pub freer_put_all : (xs : List Sent) (g : List ℕ) → Unbarred xs → Freer g (put_all registers xs g)
freer_put_all xs g u = freer_all xs g g u (λ d e. e)

-- ---- streams of such bytes

pub unbarred_take : (k : ℕ) (xs : List Sent) → Unbarred xs → Unbarred (take k xs)
unbarred_take = each_take UnbarredAt

unbarred_section : (c : Chain) (d : ℕ) (s : Section) → B4 s.control ≡ false → Unbarred (section_sent (base_at c d) d s)
unbarred_section c d s h = (h, (tt, (tt, (tt, (tt, each_windows UnbarredAt (λ b. tt) (λ i b. tt) (base_at c d) s.windows)))))

unbarred_sections : (c : Chain) (d : ℕ) (s : Section) (ss : List Section) → Clear s ss → Unbarred (sections_sent c d s ss)
unbarred_sections c d s [] h = each_append UnbarredAt (section_sent (base_at c d) d s) (frame postamble ∷ []) (unbarred_section c d s h) (tt, tt)
unbarred_sections c d s (t ∷ ts) h =
    each_append UnbarredAt (section_sent (base_at c d) d s) (frame preamble ∷ sections_sent c (suc d) t ts) (unbarred_section c d s h.0) (tt, unbarred_sections c (suc d) t ts h.1)

-- a stream with B4 clear in every control byte
pub unbarred_stream : (c : Chain) (mode : ℕ) (s : Section) (ss : List Section) → Clear s ss → Unbarred (stream_sent c mode s ss)
unbarred_stream c mode s ss h = each_append UnbarredAt (lead_sent mode) (sections_sent c 0 s ss) (each_lead UnbarredAt (λ b. tt) mode) (unbarred_sections c 0 s ss h)
