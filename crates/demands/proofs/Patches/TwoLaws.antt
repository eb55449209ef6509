-- The two laws for patches, of every loader that meets clause (a) of the second demand: patches that share no cell may change places, and two may
-- be sent as one. With clause (e), the streams that load whole and leave B4 clear are the patches. Assumes nothing.
use Prim.Native.Nat.{ℕ, suc, ◌+◌, ◌≤◌, ◌<◌}
use mathlib.Core.Bool.{false}
use mathlib.Core.Path.{◌≡◌, refl, ap, sym, subst, ◌∙◌}
use mathlib.Core.List.{List, [], ◌∷◌, ◌++◌, append-nil}
use native.Mathlib.Omega.{arith}
use lib.ListN.{length, get_or, take, length-append}
use lib.Seq.{take-length, ext_get_or}
use Rattle.chain.specs.declared.Chain.{Chain}
use Rattle.chain.specs.Paper.{writing, B4}
use Rattle.chain.specs.Kinds.{size_at}
use Rattle.chain.specs.Bytes.{Bytes}
use Rattle.grammar.specs.Sent.{memory, last_to, bytes_of}
use Rattle.grammar.specs.Stream.{Window, Section, windows_sent, stream_sent}
use Rattle.grammar.specs.Fits.{AllFit, SectionFits, Reading}
use Rattle.grammar.specs.Tables.{nulled}
use Rattle.grammar.proofs.FitsAccepted.{first_lets}
use Rattle.grammar.proofs.WindowCells.{null_bytes, in_order}
use Rattle.writer.specs.Write.{most_windows}
use Rattle.demands.specs.Loader.{Loader, Idle, Mode}
use Rattle.demands.specs.Demand2.{Demand2a, Demand2e}
use Rattle.demands.specs.Demand3.{load}
use Rattle.demands.specs.Patches.{Device, Patch, windows_in, WholeClear, PatchesExactly, Sending, left_by, left_by_both, BothLoad, NoneShared, EitherOrder, Apart, AsOne, Stacked}
use Rattle.demands.proofs.Patches.WindowCells.{swapped}
use Rattle.demands.proofs.Patches.PatchLoads.{sent-whole, read_fits, read_clear, clear_read, read-sent, FileTaken, file-taken}

-- ---- the windows of both fit

pub fit_append : (size : ℕ) (vs ws : List Window) → AllFit size vs → AllFit size ws → AllFit size (vs ++ ws)
fit_append size [] ws f g = g
fit_append size (v ∷ vs) ws f g = (f.0, fit_append size vs ws f.1 g)

fit_nulled : (size : ℕ) (ws : List Window) → AllFit size ws → AllFit size (nulled ws)
fit_nulled size [] f = tt
fit_nulled size (w ∷ ws) f = (record { order = f.0.order; inside = f.0.inside; full = f.0.full }, fit_nulled size ws f.1)

pub fit_unnulled : (size : ℕ) (ws : List Window) → AllFit size (nulled ws) → AllFit size ws
fit_unnulled size [] f = tt
fit_unnulled size (w ∷ ws) f = (record { order = f.0.order; inside = f.0.inside; full = f.0.full }, fit_unnulled size ws f.1)

pub nulled_many : (ws : List Window) → length (nulled ws) ≡ length ws
nulled_many [] = refl
nulled_many (w ∷ ws) = ap suc (nulled_many ws)

module _ (size : ℕ) (u : Section) (vs ws : List Window) (f : AllFit size vs) (g : AllFit size ws)
    (few : length vs + length ws ≤ most_windows) (e : nulled u.windows ≡ nulled (vs ++ ws)) where
  -- the section that has them, whatever its null bytes
  pub stacked_fits : SectionFits size u
  stacked_fits =
      let n : length u.windows ≡ length vs + length ws =
      sym (nulled_many u.windows) ∙ ap length e ∙ nulled_many (vs ++ ws) ∙ length-append vs ws in
      record {
        few = omega arith;
        fit = fit_unnulled size u.windows (subst (λ (l : List Window). AllFit size l) (sym e) (fit_nulled size (vs ++ ws) (fit_append size vs ws f g)));
      }

  -- and what it leaves in a cell
  stacked_cell : (i old : ℕ) → last_to memory (windows_sent 0 u.windows) i old ≡ last_to memory (windows_sent 0 ws) i (last_to memory (windows_sent 0 vs) i old)
  stacked_cell i old =
      sym (null_bytes 0 u.windows i old)
      ∙ ap (λ (l : List Window). last_to memory (windows_sent 0 l) i old) e
      ∙ null_bytes 0 (vs ++ ws) i old
      ∙ in_order 0 vs ws i old

-- ---- two patches in turn

-- two memories of n cells that agree cell by cell
pub same-cells : (n : ℕ) (a b : List ℕ) → length a ≡ n → length b ≡ n → ((i : ℕ) → i < n → get_or a i 0 ≡ get_or b i 0) → a ≡ b
same-cells n a b p q h = ext_get_or 0 a b (p ∙ sym q) (λ i g. h i (omega (arith, g, p)))

-- what they leave, vs being the windows of the first and ws those of the second
pub record InTurn (l : Loader) (c : Chain) (m : List ℕ) {k n : ℕ} {s t : List ℕ} (vs ws : List Window) (x : Sending k s) (y : Sending n t) : Type 0 where
  pub loads : BothLoad l c m x y
  pub cells : (i : ℕ) → i < length m
      → get_or (left_by_both l c m x y).memory i 0 ≡ last_to memory (windows_sent 0 ws) i (last_to memory (windows_sent 0 vs) i (get_or m i 0))
  pub cells_many : length (left_by_both l c m x y).memory ≡ length m

module _ (l : Loader) (meets : Demand2a l) (c : Chain) (m : List ℕ) (d : Device c m) where
  pub in_turn : (k n : ℕ) (s t : List ℕ) (p : Patch c k s) (q : Patch c n t) (x : Sending k s) (y : Sending n t) → InTurn l c m (windows_in p) (windows_in q) x y
  in_turn k n s t p q x y =
      let a = read-sent c d.one k s p.reading l meets p.of_mode p.bytes c m d refl x in
      let again = a.device (read_clear c d.one k s p.reading p.clear) in
      let b = read-sent c d.one n t q.reading l meets q.of_mode q.bytes (left_by l c m x).fed.chain (left_by l c m x).memory again a.kinds y in
      record {
        loads = record { first = a.loads; second = b.loads };
        cells = λ i h. b.cells i (omega (arith, h, a.cells_many)) ∙ ap (last_to memory (windows_sent 0 (windows_in q)) i) (a.cells i h);
        cells_many = b.cells_many ∙ a.cells_many;
      }

  either_order : (k n : ℕ) (s t : List ℕ) (p : Patch c k s) (q : Patch c n t) → NoneShared (windows_in p) (windows_in q)
      → (x x' : Sending k s) (y y' : Sending n t) → EitherOrder l c m x x' y y'
  either_order k n s t p q none x x' y y' =
      let a = in_turn k n s t p q x y in
      let b = in_turn n k t s q p y' x' in
      let f = (read_fits c d.one k s p.reading).fit in
      let g = (read_fits c d.one n t q.reading).fit in
      record {
        one_order = a.loads;
        in_other_order = b.loads;
        memory =
            same-cells (length m) (left_by_both l c m x y).memory (left_by_both l c m y' x').memory a.cells_many b.cells_many
            (λ i h. a.cells i h ∙ swapped (size_at c 0) (windows_in p) (windows_in q) f g none i (get_or m i 0) ∙ sym (b.cells i h));
      }

  as_one : (k n o : ℕ) (s t : List ℕ) (u : Section) (p : Patch c k s) (q : Patch c n t) → length (windows_in p) + length (windows_in q) ≤ most_windows
      → nulled u.windows ≡ nulled (windows_in p ++ windows_in q) → Mode o → Bytes (bytes_of (stream_sent c o u []))
      → (x : Sending k s) (y : Sending n t) (z : Sending o (bytes_of (stream_sent c o u []))) → AsOne l c m x y z
  as_one k n o s t u p q few e mode small x y z =
      let f = (read_fits c d.one k s p.reading).fit in
      let g = (read_fits c d.one n t q.reading).fit in
      let a = in_turn k n s t p q x y in
      let b = sent-whole l meets c m o u d mode (stacked_fits (size_at c 0) u (windows_in p) (windows_in q) f g few e) small (bytes_of (stream_sent c o u [])) refl z in
      record {
        both = a.loads;
        one = b.loads;
        memory =
            same-cells (length m) (left_by l c m z).memory (left_by_both l c m x y).memory b.cells_many a.cells_many
            (λ i h. b.cells i h ∙ stacked_cell (size_at c 0) u (windows_in p) (windows_in q) f g few e i (get_or m i 0) ∙ sym (a.cells i h));
      }

-- ---- the laws

pub apart : (l : Loader) → Demand2a l → Apart l
apart l meets c m k n s t d p q none x x' y y' = either_order l meets c m d k n s t p q none x x' y y'

pub stacked : (l : Loader) → Demand2a l → Stacked l
stacked l meets c m k n o s t u d p q few e mode small x y z = as_one l meets c m d k n o s t u p q few e mode small x y z

-- the one stream is a patch again, where its control byte leaves B4 clear, so that a third can be stacked on it
pub stacked_patch : (c : Chain) (m : List ℕ) (k n o : ℕ) (s t : List ℕ) (u : Section) → Device c m → (p : Patch c k s) (q : Patch c n t)
    → length (windows_in p) + length (windows_in q) ≤ most_windows → nulled u.windows ≡ nulled (windows_in p ++ windows_in q)
    → Mode o → Bytes (bytes_of (stream_sent c o u [])) → B4 u.control ≡ false → Patch c o (bytes_of (stream_sent c o u []))
stacked_patch c m k n o s t u d p q few e mode small b =
    let f = (read_fits c d.one k s p.reading).fit in
    let g = (read_fits c d.one n t q.reading).fit in
    record {
      of_mode = mode;
      bytes = small;
      reading = record { first = u; others = []; fits = (omega (arith, d.one), stacked_fits (size_at c 0) u (windows_in p) (windows_in q) f g few e); bytes = refl };
      clear = b;
    }

-- ---- the streams that load whole and leave B4 clear are the patches

module _ (l : Loader) (meets : Demand2a l) (c : Chain) (m : List ℕ) (mode : ℕ) (s : List ℕ) (o : Mode mode) (u : Bytes s) where
  -- all of it in one slice, with nothing after it
  at_once : (d : Device c m) (r : Reading c mode s) → FileTaken l c m mode s [] r.first
  at_once d r = file-taken l meets c m mode s [] d o u r

  patch_whole : Device c m → Patch c mode s → WholeClear l c m mode s
  patch_whole d p =
      let a = at_once d p.reading in
      let e : s ≡ s ++ [] = sym (append-nil s) in
      record {
        whole =
            record {
              started = a.started;
              number = ap (λ (z : List ℕ). (load l mode c m z).fed.answer.number) e ∙ a.number;
              taken = ap (λ (z : List ℕ). (load l mode c m z).fed.answer.taken) e ∙ a.taken;
            };
        clear =
            ap (λ (z : List ℕ). B4 (get_or (load l mode c m z).fed.chain.registers 0 0)) e
            ∙ ap B4 a.register
            ∙ read_clear c d.one mode s p.reading p.clear;
      }

  whole_patch : Demand2e l → c.count ≡ 1 → Idle c m → WholeClear l c m mode s → Device c m × Patch c mode s
  whole_patch accepts one i w =
      let k = accepts c m writing mode [] s i o u w.whole.number in
      let x = k.reading in
      let all : take (load l mode c m s).fed.answer.taken s ≡ s = ap (λ (n : ℕ). take n s) w.whole.taken ∙ take-length s in
      let r : Reading c mode s = record { first = x.first; others = x.others; fits = x.fits; bytes = x.bytes ∙ all } in
      let d : Device c m = record { one = one; idle = i; clear = (first_lets writing c.registers 0 x.first x.others (k.lets x)).b4 } in
      let e : s ++ [] ≡ s = append-nil s in
      let b : B4 x.first.control ≡ false =
      ap B4 (sym (at_once d r).register) ∙ ap (λ (z : List ℕ). B4 (get_or (load l mode c m z).fed.chain.registers 0 0)) e ∙ w.clear in
      (d, record { of_mode = o; bytes = u; reading = r; clear = clear_read c one mode s r b })

pub patches_exactly : (l : Loader) → Demand2a l → Demand2e l → PatchesExactly l
patches_exactly l meets accepts c m mode s one i o u =
    (whole_patch l meets c m mode s o u accepts one i, (λ x. patch_whole l meets c m mode s o u x.0 x.1))
