-- Document 01's twelve cases, one table: each row is computed on the definitions that the contracts cite. Assumes nothing.
use Rattle.std.specs.Prelude.{ℕ, suc, Bool, true, false, ◌&&◌, List, [], ◌∷◌, ◌++◌, eqb, length, take, replicate}
use Rattle.std.proofs.lemmas.List.Edits.{sets}
use Rattle.chain.specs.declared.Chain.{Chain}
use Rattle.chain.specs.Paper.{done}
use Rattle.chain.specs.Kinds.{size_of}
use Rattle.chain.specs.Calls.{new_of, reset_of, reset_memory}
use Rattle.demands.specs.Loader.{AfterSlice}
use Rattle.demands.specs.Demand3.{load}
use Rattle.demands.specs.Ours.{ours}

-- all in mode 1, as a write, on one device after a reset
pub data Case : Type 0 where
  -- streams for the teaching array, one run after another: the last one's number and bytes taken, then the memory and the first register
  loads : List (List ℕ) → ℕ → ℕ → List ℕ → ℕ → Case
  -- a kind, a stream, how many of its bytes were fed, and the closing bytes
  closes : ℕ → List ℕ → ℕ → List ℕ → Case
  -- bytes, the position that the hunt finds, the bits that it leaves, and the bytes that it writes
  hunts : List ℕ → ℕ → ℕ → List ℕ → Case

-- one device of that kind, its cells set; and what a reset makes of both
abbrev pub made : ℕ → Chain
made kind = (new_of 1 (kind ∷ replicate 7 0) (size_of kind)).chain

abbrev pub fresh : ℕ → Chain
fresh kind = (reset_of (made kind) (size_of kind)).chain

abbrev pub wiped : ℕ → List ℕ
wiped kind = reset_memory (made kind) (replicate (size_of kind) 0xee)

abbrev pub same : List ℕ → List ℕ → Bool
same [] [] = true
same [] (y ∷ ys) = false
same (x ∷ xs) [] = false
same (x ∷ xs) (y ∷ ys) = eqb x y && same xs ys

abbrev pub load_all : AfterSlice → List (List ℕ) → AfterSlice
load_all a [] = a
load_all a (s ∷ ss) = load_all (load ours 1 a.fed.chain a.memory s) ss

abbrev pub before : AfterSlice
before = record { fed = record { chain = fresh 0; answer = record { number = done; taken = 0; mismatches = 0 } }; memory = wiped 0 }

-- an output of n bytes, none of them zero: what is not written shows
abbrev pub lent : ℕ → List ℕ
lent n = replicate n 0xee

abbrev pub holds : Case → Bool
holds (loads streams number taken memory register) =
    let a = load_all before streams in
    eqb a.fed.answer.number number
    && eqb a.fed.answer.taken taken
    && eqb a.fed.answer.mismatches 0
    && same a.memory memory
    && same a.fed.chain.registers (register ∷ replicate 7 0)
holds (closes kind s k bytes) =
    let a = load ours 1 (fresh kind) (wiped kind) (take k s) in
    let w = ours.closing a.fed.chain a.memory (lent 9) in
    eqb w.written.number done && eqb w.written.length (length bytes) && same w.out (sets (lent 9) 0 bytes)
holds (hunts s p left bytes) =
    let h = ours.hunt s (lent 9) in
    eqb h.hunted.number done
    && eqb h.hunted.p p
    && eqb h.hunted.left left
    && eqb h.hunted.length (length bytes)
    && same h.out (sets (lent 9) 0 bytes)

-- a stream's head with its count byte, and a window's
abbrev pub head : ℕ → List ℕ
head count = 0xb2 ∷ 0x00 ∷ 0x00 ∷ 0x00 ∷ 0x00 ∷ count ∷ []

abbrev pub window : ℕ → ℕ → List ℕ
window start end = 0x00 ∷ 0x00 ∷ start ∷ 0x00 ∷ end ∷ []

abbrev pub stream_a : List ℕ
stream_a = head 0xfe ++ window 9 11 ++ (0x11 ∷ 0x22 ∷ 0x33 ∷ 0x4d ∷ [])

abbrev pub zeros : List ℕ
zeros = replicate 52 0

-- 1: A sets cells 9, 10, 11. 2: two windows, 9..11 as in A, then 10..10 = 44. 3: no windows. 4: end 51 taken, 5: end 52 gives 12.
-- 6: start 52 gives 11. 7: start 11, end 9 gives 12. 8: control 10 hex, then a second run: 6 at its first byte.
-- 9: A stopped after 13 bytes. 10: after 8. 11: kind 2, after 8. 12: hunt over 64 01, p = 1
abbrev pub table : List Case
table =
    loads (stream_a ∷ []) 0 15 (sets zeros 9 (0x11 ∷ 0x22 ∷ 0x33 ∷ [])) 0
    ∷ loads ((head 0xfd ++ window 9 11 ++ (0x11 ∷ 0x22 ∷ 0x33 ∷ []) ++ window 10 10 ++ (0x44 ∷ 0x4d ∷ [])) ∷ []) 0 21 (sets zeros 9 (0x11 ∷ 0x44 ∷ 0x33 ∷ [])) 0
    ∷ loads ((head 0xff ++ (0x4d ∷ [])) ∷ []) 0 7 zeros 0
    ∷ loads ((head 0xfe ++ window 50 51 ++ (0x11 ∷ 0x22 ∷ 0x4d ∷ [])) ∷ []) 0 14 (sets zeros 50 (0x11 ∷ 0x22 ∷ [])) 0
    ∷ loads ((head 0xfe ++ window 50 52 ++ (0x11 ∷ 0x22 ∷ 0x33 ∷ 0x4d ∷ [])) ∷ []) 12 11 zeros 0
    ∷ loads ((head 0xfe ++ window 52 52 ++ (0x11 ∷ 0x4d ∷ [])) ∷ []) 11 9 zeros 0
    ∷ loads ((head 0xfe ++ window 11 9 ++ (0x11 ∷ 0x4d ∷ [])) ∷ []) 12 11 zeros 0
    ∷ loads ((0xb2 ∷ 0x10 ∷ 0x00 ∷ 0x00 ∷ 0x00 ∷ 0xff ∷ 0x4d ∷ []) ∷ stream_a ∷ []) 6 1 zeros 0x10
    ∷ closes 0 stream_a 13 (0x00 ∷ 0x4d ∷ [])
    ∷ closes 0 stream_a 8 (0xff ∷ [])
    ∷ closes 2 stream_a 8 (0xff ∷ 0xff ∷ 0xff ∷ [])
    ∷ hunts (0x64 ∷ 0x01 ∷ []) 1 7 (0xb2 ∷ [])
    ∷ []

-- a row that does not hold is named in the refusal, as in `Fails 5`
pub data Fails : ℕ → Type 0 where

abbrev pub Pass : Bool → ℕ → Type 0 → Type 0
Pass true i rest = rest
Pass false i rest = Fails i

abbrev pub All : ℕ → List Case → Type 0
All i [] = Unit {0}
All i (k ∷ ks) = Pass (holds k) i (All (suc i) ks)
