-- Of every loader that meets clause (a) of the second demand: with a tidier that keeps its promise, what is tidied has the shape and loads as the stream
-- does; and two accepted streams have equal tidied bytes exactly when they have one meaning. With clause (e), the accepted streams are those that load
-- whole. Assumes nothing.
use Prim.Native.Nat.{ℕ, ◌<◌}
use mathlib.Core.Path.{◌≡◌, refl, ap, sym, subst, ◌∙◌}
use mathlib.Core.List.{List, [], ◌∷◌, ◌++◌, append-nil}
use native.Mathlib.Nat.{add-zero}
use native.Mathlib.Omega.{arith}
use lib.Dec.{eqb}
use lib.ListN.{length, get_or, take, replicate, length-replicate, get_or-replicate}
use lib.Seq.{take-length}
use Rattle.chain.specs.declared.Chain.{Chain}
use Rattle.chain.specs.Paper.{preamble, writing, first_mode}
use Rattle.chain.specs.Rules.{pick}
use Rattle.chain.specs.Kinds.{size_of, size_at, base_of}
use Rattle.chain.specs.Bytes.{Bytes}
use Rattle.chain.specs.State.{state_number}
use Rattle.chain.proofs.Bytes.{bytes_by}
use Rattle.chain.proofs.Sound.{state_usable}
use Rattle.grammar.specs.Sent.{memory, last_to, bytes_of}
use Rattle.grammar.specs.Stream.{Section, windows_sent, sections_sent, stream_sent}
use Rattle.tidy.specs.Tidy.{tidy_windows}
use Rattle.tidy.proofs.TidyWindows.{tidy_last}
use Rattle.tidy.proofs.SameWindows.{same_effect}
use Rattle.demands.specs.Loader.{Loader}
use Rattle.demands.specs.Demand2.{Demand2a, Demand2e}
use Rattle.demands.specs.Demand3.{load, Whole}
use Rattle.demands.specs.Patches.{Device, Sending, left_by}
use Rattle.demands.specs.OneFile.{KeepsTidy, Accepted, AcceptedExactly, section, windows, SameHead, InShape, SameLoad, TidiesAll, SameMeaning}
use Rattle.demands.proofs.Loads.StreamA.{mode-one}
use Rattle.demands.proofs.Patches.PatchLoads.{SentWhole, read-sent, file-taken}
use Rattle.demands.proofs.Patches.TwoLaws.{same-cells}
use Rattle.demands.proofs.Tidy.StreamRead.{tidy_one}
use Rattle.demands.proofs.Tidy.TidiedStream.{written_bytes, fits, is_stream, tidy_accepted, in_shape, has_room, told_is, output_is, written_is}

-- ---- loads

module _ (l : Loader) (meets : Demand2a l) (c : Chain) where
  -- what an accepted stream leaves
  sent : (m : List ℕ) → Device c m → {s : List ℕ} (a : Accepted c s) (x : Sending first_mode s) → SentWhole l c m (section a) x
  sent m d {s} a x = read-sent c d.one first_mode s a.reading l meets mode-one a.bytes c m d refl x

  -- two that leave the same in each cell and have one control byte
  load_alike : (m : List ℕ) → Device c m → {s t : List ℕ} (a : Accepted c s) (b : Accepted c t) → (section a).control ≡ (section b).control
      → ((i old : ℕ) → last_to memory (windows_sent 0 (windows a)) i old ≡ last_to memory (windows_sent 0 (windows b)) i old)
      → (x : Sending first_mode s) (y : Sending first_mode t) → SameLoad l c m x y
  load_alike m d a b control effect x y =
      let p = sent m d a x in
      let q = sent m d b y in
      record {
        one = p.loads;
        other = q.loads;
        memory =
            same-cells (length m) (left_by l c m x).memory (left_by l c m y).memory p.cells_many q.cells_many
            (λ i h. p.cells i h ∙ effect i (get_or m i 0) ∙ sym (q.cells i h));
        registers =
            same-cells (length c.registers) (left_by l c m x).fed.chain.registers (left_by l c m y).fed.chain.registers
            p.registers_many q.registers_many
            (λ i h. p.registers i h ∙ ap (λ (k : ℕ). pick (eqb i 0) k (get_or c.registers i 0)) control ∙ sym (q.registers i h));
      }

-- what is tidied, as the stream itself
tidied-load : (l : Loader) → Demand2a l → (c : Chain) (m : List ℕ) (d : Device c m) {s : List ℕ} (a : Accepted c s)
    → (x : Sending first_mode s) (z : Sending first_mode (written_bytes c m d s a)) → SameLoad l c m x z
tidied-load l meets c m d {s} a x z =
    load_alike l meets c m d a (tidy_accepted c m d s a) refl (λ i old. sym (tidy_last (size_at c 0) (windows a) (fits c m d s a).fit i old)) x z

-- (i), (iv) and (v)
pub tidies_all : (l : Loader) → Demand2a l → KeepsTidy l → TidiesAll l
tidies_all l meets keeps c m s d a f =
    record {
      room = has_room c m d s a l keeps f;
      told = told_is c m d s a l keeps f;
      output = output_is c m d s a l keeps f;
      shape = λ z. subst (λ (u : List ℕ). InShape a u) (sym (written_is c m d s a l keeps f z)) (in_shape c m d s a);
      loads = λ z n e.
          subst (λ (u : List ℕ). (x : Sending first_mode s) (y : Sending first_mode u) → SameLoad l c n x y) (sym (written_is c m d s a l keeps f z))
          (tidied-load l meets c n e a);
    }

-- ---- (ii): two streams of one meaning

-- other cells on the same device
device_with : (c : Chain) (m n : List ℕ) → Device c m → length n ≡ length m → Bytes n → Device c n
device_with c m n d e u =
    record {
      one = d.one;
      idle =
          record {
            kinds = d.idle.kinds;
            registers = d.idle.registers;
            register_bytes = d.idle.register_bytes;
            memory_bytes = u;
            sound = ap (state_number c) e ∙ d.idle.sound;
            is_closed = d.idle.is_closed;
          };
      clear = d.clear;
    }

-- the memory of one device has its size
one_size : (c : Chain) (m : List ℕ) → Device c m → length m ≡ size_at c 0
one_size c m d =
    sym (state_usable c (length m) d.idle.sound).fits.exact
    ∙ ap (base_of c.kinds) d.one
    ∙ first c.kinds (omega (arith, d.idle.kinds))
  where
    first : (ks : List ℕ) → 0 < length ks → base_of ks 1 ≡ size_of (get_or ks 0 0)
    first [] h = absurd (omega arith)
    first (k ∷ ks) h = unfold base_of in add-zero (size_of k)

-- a stream sent in one slice
whole : (c : Chain) (m : List ℕ) (d : Device c m) {s : List ℕ} (a : Accepted c s) → Sending first_mode s
whole c m d {s} a =
    record { before = []; byte = preamble; last = bytes_of (sections_sent c 0 (section a) []); rest = []; all = is_stream c m d s a }

same-section : (size : ℕ) (x y : Section) → SameHead x y → tidy_windows size x.windows ≡ tidy_windows size y.windows
    → tidy_one size x ≡ tidy_one size y
same-section size x y h w = rw (h.control, h.address0, h.address1, h.address2, w)

module _ (l : Loader) (meets : Demand2a l) (c : Chain) (m : List ℕ) (d : Device c m) {s t : List ℕ} (a : Accepted c s) (b : Accepted c t) where
  abbrev size : ℕ
  size = size_at c 0

  -- a memory of one value tells what each leaves in a cell that holds it
  told : SameMeaning l a b → (v : ℕ) → v < 256 → (i : ℕ) → i < size
      → last_to memory (windows_sent 0 (windows a)) i v ≡ last_to memory (windows_sent 0 (windows b)) i v
  told same v small i h =
      let n : List ℕ = replicate size v in
      let k : length n ≡ size = length-replicate size v in
      let e : Device c n = device_with c m n d (k ∙ sym (one_size c m d)) (bytes_by n (λ j g. rw (get_or-replicate size j v 0 (omega arith)) small)) in
      let here : get_or n i 0 ≡ v = get_or-replicate size i v 0 h in
      let x = whole c m d a in
      let y = whole c m d b in
      let both : last_to memory (windows_sent 0 (windows a)) i (get_or n i 0) ≡ last_to memory (windows_sent 0 (windows b)) i (get_or n i 0) =
      sym ((sent l meets c n e a x).cells i (omega arith))
      ∙ ap (λ (q : List ℕ). get_or q i 0) (same.memory n e x y)
      ∙ (sent l meets c n e b y).cells i (omega arith) in
      subst (λ (o : ℕ). last_to memory (windows_sent 0 (windows a)) i o ≡ last_to memory (windows_sent 0 (windows b)) i o) here both

  pub one-file : SameMeaning l a b → written_bytes c m d s a ≡ written_bytes c m d t b
  one-file same =
      let w : tidy_windows size (windows a) ≡ tidy_windows size (windows b) =
      same_effect size (windows a) (windows b) (fits c m d s a).fit (fits c m d t b).fit (told same 0 (omega arith)) (told same 1 (omega arith)) in
      ap (λ (q : Section). bytes_of (stream_sent c first_mode q [])) (same-section size (section a) (section b) same.head w)

  pub one_meaning : written_bytes c m d s a ≡ written_bytes c m d t b → SameMeaning l a b
  one_meaning e =
      record {
        head =
            record {
              control = ap (λ (q : List ℕ). get_or q 1 0) e;
              address0 = ap (λ (q : List ℕ). get_or q 2 0) e;
              address1 = ap (λ (q : List ℕ). get_or q 3 0) e;
              address2 = ap (λ (q : List ℕ). get_or q 4 0) e;
            };
        memory = λ n g x y.
            let z = whole c m d (tidy_accepted c m d s a) in
            let other : (z : Sending first_mode (written_bytes c m d s a)) → (left_by l c n y).memory ≡ (left_by l c n z).memory =
            subst (λ (u : List ℕ). (z : Sending first_mode u) → (left_by l c n y).memory ≡ (left_by l c n z).memory) (sym e)
            (λ z. (tidied-load l meets c n g b y z).memory) in
            (tidied-load l meets c n g a x z).memory ∙ sym (other z);
      }

-- ---- the accepted streams are those that load whole

pub accepted_exactly : (l : Loader) → Demand2a l → Demand2e l → AcceptedExactly l
accepted_exactly l meets accepts c m s d u = (loads_reads, reads_loads)
  where
    loads_reads : Whole l first_mode s c m → Accepted c s
    loads_reads w =
        let x = (accepts c m writing first_mode [] s d.idle mode-one u w.number).reading in
        let all : take (load l first_mode c m s).fed.answer.taken s ≡ s = ap (λ (n : ℕ). take n s) w.taken ∙ take-length s in
        record { bytes = u; reading = record { first = x.first; others = x.others; fits = x.fits; bytes = x.bytes ∙ all } }

    reads_loads : Accepted c s → Whole l first_mode s c m
    reads_loads a =
        let t = file-taken l meets c m first_mode s [] d mode-one u a.reading in
        let e : s ≡ s ++ [] = sym (append-nil s) in
        record {
          started = t.started;
          number = ap (λ (z : List ℕ). (load l first_mode c m z).fed.answer.number) e ∙ t.number;
          taken = ap (λ (z : List ℕ). (load l first_mode c m z).fed.answer.taken) e ∙ t.taken;
        }
