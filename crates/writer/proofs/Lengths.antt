-- How long the writer's streams are, and what an accepted call leaves. Assumes nothing.
use Prim.Native.Nat.{ℕ, zero, suc, ◌+◌, ◌-◌, ◌≤◌, ◌<◌}
use mathlib.Core.Path.{◌≡◌, refl, sym, ap, ◌∙◌}
use mathlib.Core.List.{List, [], ◌∷◌}
use native.Mathlib.Omega.{arith}
use lib.ListN.{length, take}
use lib.Seq.{take_at}
use Rattle.chain.specs.declared.Written.{Written}
use Rattle.chain.specs.Paper.{first_mode, done}
use Rattle.chain.specs.Kinds.{size_of}
use Rattle.writer.specs.Stream.{lead_in, stream_of}
use Rattle.chain.specs.Output.{over}
use Rattle.writer.specs.Write.{sum_of, write_number, Write}
use Rattle.writer.proofs.Accepted.{accepts}
use Rattle.writer.proofs.Parts.{stream-length}

whole_sum : (size : ℕ) → 0 < size → sum_of (0 ∷ []) ((size - 1) ∷ []) ≡ size
unfolding sum_of
whole_sum size h = omega arith

-- one window over a whole device takes size + 12 bytes in mode 1
pub whole_length : (size control : ℕ) (address bytes : List ℕ) → 0 < size → length bytes ≡ size
    → length (stream_of first_mode control address (0 ∷ []) ((size - 1) ∷ []) bytes) ≡ size + 12
unfolding lead_in
whole_length size control address bytes h b =
    stream-length first_mode control address (0 ∷ []) ((size - 1) ∷ []) bytes refl (b ∙ sym (whole_sum size h)) ∙ omega arith

-- a call on any known kind
pub whole-device : (kind control : ℕ) (address bytes out : List ℕ) (r : Written) (out' : List ℕ)
    → (size_of kind ≡ 0 → ⊥) → length bytes ≡ size_of kind → size_of kind + 12 ≤ length out
    → Write kind first_mode control address (0 ∷ []) ((size_of kind - 1) ∷ []) bytes out r out'
    → (r.number ≡ done) × (r.length ≡ size_of kind + 12)
unfolding write_number
whole-device kind control address bytes out r out' known b room w =
    let some : 0 < size_of kind = positive (size_of kind) known in
    let n : ℕ = length (stream_of first_mode control address (0 ∷ []) ((size_of kind - 1) ∷ []) bytes) in
    let l : n ≡ size_of kind + 12 = whole_length (size_of kind) control address bytes some b in
    let z =
    accepts kind first_mode (0 ∷ []) ((size_of kind - 1) ∷ []) (length bytes) n (length out)
    (record {
      known = known;
      least = omega arith;
      most = omega arith;
      same = refl;
      few = omega arith;
      inside = (omega arith, omega arith, tt);
      all = b ∙ sym (whole_sum (size_of kind) some);
      fits = omega arith;
    })
    in
    (ap (λ (q : Written). q.number) w.answer ∙ z, ap (λ (q : Written). q.length) w.answer ∙ rw z l)
  where
    positive : (n : ℕ) → (n ≡ 0 → ⊥) → 0 < n
    positive zero h = absurd (h refl)
    positive (suc n) h = omega arith

-- 2,677 for kind 2
pub whole-kind_2 : (control : ℕ) (address bytes out : List ℕ) (r : Written) (out' : List ℕ)
    → length bytes ≡ 2665 → 2677 ≤ length out
    → Write 2 first_mode control address (0 ∷ []) (2664 ∷ []) bytes out r out'
    → (r.number ≡ done) × (r.length ≡ 2677)
unfolding size_of
whole-kind_2 control address bytes out r out' b room w =
    whole-device 2 control address bytes out r out' (λ z. omega (arith, z)) b room w

-- the front of the output is the stream
pub front : (kind mode control : ℕ) (address starts ends bytes out : List ℕ) (r : Written) (out' : List ℕ)
    → Write kind mode control address starts ends bytes out r out' → r.number ≡ done
    → (r.length ≡ length (stream_of mode control address starts ends bytes)) × (take r.length out' ≡ stream_of mode control address starts ends bytes)
front kind mode control address starts ends bytes out r out' w z =
    let e : write_number kind mode control address starts ends bytes (length out) ≡ done = sym (ap (λ (q : Written). q.number) w.answer) ∙ z in
    let l : r.length ≡ length (stream_of mode control address starts ends bytes) = ap (λ (q : Written). q.length) w.answer ∙ rw e in
    let o : out' ≡ over (stream_of mode control address starts ends bytes) out = w.output ∙ rw e in
    (l, rw (l, o) (take_at (stream_of mode control address starts ends bytes) _ _ refl))
