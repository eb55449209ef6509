-- The lister on the stream of a section that fits, whatever follows it: it lists as that section. Assumes nothing.
use Prim.Native.Nat.{ℕ, suc, ◌+◌, ◌-◌, ◌≤◌, ◌<◌}
use mathlib.Core.Bool.{Bool, true, false, and-false}
use mathlib.Core.Path.{◌≡◌, refl, ap, sym, subst, ◌∙◌}
use mathlib.Core.List.{List, [], ◌∷◌, ◌++◌, append-nil, append_assoc}
use native.Mathlib.Nat.{div-add-mod'}
use native.Mathlib.Omega.{arith}
use lib.Dec.{eqb}
use lib.ListN.{length, get_or, take, drop, length-append}
use lib.Seq.{sets, take_at, get_or-append-add, get_or-append_seam, drop-append-add}
use Rattle.cells.proofs.Over.{front_is}
use borrow.Author.Tests.{le-ltb, lt-leb, le-leb, ne_eqb}
use Rattle.chain.specs.Paper.{preamble, postamble, no_windows, first_mode, two_preambles, done}
use Rattle.chain.specs.Rules.{pick}
use Rattle.chain.specs.Kinds.{size_of}
use Rattle.chain.specs.declared.Chain.{Chain}
use Rattle.chain.proofs.ByCases.{by_test}
use Rattle.reader.specs.Stops.{stop}
use Rattle.reader.specs.Windows.{start_at, end_at, next_at, window_stop, windows_stop, windows_of}
use Rattle.reader.specs.Stream.{preamble_at, count_at, head_stop, check_stop, stream_stop}
use Rattle.lister.specs.Listing.{list_stop, listed_of, listing_of, starts_of, ends_of, offsets_of}
use Rattle.reader.proofs.Windows.{whole, read_whole}
use Rattle.grammar.specs.Stream.{Window, Section, stream_sent}
use Rattle.grammar.specs.Sent.{bytes_of}
use Rattle.grammar.specs.Fits.{Fits, AllFit, SectionFits}
use Rattle.demands.specs.Loader.{AfterList, Mode}
use Rattle.grammar.specs.Tables.{starts, ends, cells, offsets}
use Rattle.demands.specs.Files.{gathered, ListsAs}
use Rattle.demands.specs.Ours.{ours}
use Rattle.grammar.proofs.SectionBytes.{window_bytes, windows_bytes, section_bytes, lead_bytes, stream-bytes, starts_many, ends_many, offsets_many}

-- ---- one window

-- a window that stands in s from `at` on
pub record Stands (s : List ℕ) (at : ℕ) (w : Window) : Type 0 where
  pub start : start_at s at ≡ w.start
  pub end : end_at s at ≡ w.end
  pub next : next_at s at ≡ at + length (window_bytes w)
  pub data_there : take (w.end - w.start + 1) (drop (at + 5) s) ≡ w.bytes

pub stands : (size : ℕ) (pre : List ℕ) (w : Window) (post : List ℕ) → Fits size w → Stands (pre ++ (window_bytes w ++ post)) (length pre) w
stands size pre w post f =
    let s : List ℕ = pre ++ (window_bytes w ++ post) in
    let a : start_at s (length pre) ≡ w.start =
    rw (get_or-append-add pre (window_bytes w ++ post) 1 0, get_or-append-add pre (window_bytes w ++ post) 2 0) (div-add-mod' w.start 256) in
    let b : end_at s (length pre) ≡ w.end =
    rw (get_or-append-add pre (window_bytes w ++ post) 3 0, get_or-append-add pre (window_bytes w ++ post) 4 0) (div-add-mod' w.end 256) in
    let l : length w.bytes ≡ suc (w.end - w.start) = f.full in
    record {
      start = a;
      end = b;
      next = omega (arith, a, b, l);
      data_there = rw (drop-append-add pre (window_bytes w ++ post) 5) (take_at w.bytes post (w.end - w.start + 1) (omega arith));
    }

-- the lister passes it, and lists it
module _ (size : ℕ) (s : List ℕ) (w : Window) (at next n : ℕ) (f : Fits size w) (k : Stands s at w) (e : next_at s at ≡ next) (l : next ≤ length s) where
  passed : window_stop size s at ≡ stop done (next_at s at)
  passed =
      let a = k.start in
      let b = k.end in
      let o = f.order in
      let i = f.inside in
      whole size s at (omega arith) (omega arith) (omega arith) (omega arith)

  stop-more : windows_stop size s (suc n) at ≡ windows_stop size s n next
  unfolding windows_stop
  stop-more = rw passed (ap (windows_stop size s n) e)

  pub list-more : windows_of size s (suc n) at
      ≡ record { number = done; start = start_at s at; end = end_at s at; first = at + 5; next = next_at s at } ∷ windows_of size s n next
  unfolding windows_of
  list-more = rw (passed, read_whole size s at passed) (ap (λ (x : ℕ). record { number = done; start = start_at s at; end = end_at s at; first = at + 5; next = next_at s at } ∷ windows_of size s n x) e)

-- ---- windows one after another

-- what the lister makes of windows that stand in s from `at` on: offsets count from p
pub record Through (size : ℕ) (s : List ℕ) (ws : List Window) (p at : ℕ) : Type 0 where
  pub ending : windows_stop size s (length ws) at ≡ stop done (at + length (windows_bytes ws))
  pub starts_are : starts_of (windows_of size s (length ws) at) ≡ starts ws
  pub ends_are : ends_of (windows_of size s (length ws) at) ≡ ends ws
  pub offsets_are : offsets_of p (windows_of size s (length ws) at) ≡ offsets (at - p) ws
  pub cells_are : gathered p s (starts ws) (ends ws) (offsets (at - p) ws) ≡ cells ws

through-none : (size : ℕ) (s : List ℕ) (p at : ℕ) → Through size s [] p at
unfolding windows_stop windows_of
through-none size s p at =
    let z : at ≡ at + 0 = omega arith in
    record { ending = ap (stop done) z; starts_are = refl; ends_are = refl; offsets_are = refl; cells_are = refl }

through-more : (size : ℕ) (s : List ℕ) (w : Window) (ws : List Window) (p at next : ℕ) → p ≤ at → Fits size w → Stands s at w
    → next ≡ at + length (window_bytes w) → next ≤ length s → Through size s ws p next → Through size s (w ∷ ws) p at
through-more size s w ws p at next i f k n l t =
    let e : next_at s at ≡ next = k.next ∙ sym n in
    let m = list-more size s w at next (length ws) f k e l in
    let first : at + 5 - p ≡ at - p + 5 = omega arith in
    let later : next - p ≡ at - p + 5 + length w.bytes = omega arith in
    let here : p + (at - p + 5) ≡ at + 5 = omega arith in
    let long : next + length (windows_bytes ws) ≡ at + length (windows_bytes (w ∷ ws)) = omega (arith, length-append (window_bytes w) (windows_bytes ws)) in
    record {
      ending = stop-more size s w at next (length ws) f k e l ∙ t.ending ∙ ap (stop done) long;
      starts_are = ap starts_of m ∙ rw t.starts_are (ap (λ (x : ℕ). x ∷ starts ws) k.start);
      ends_are = ap ends_of m ∙ rw t.ends_are (ap (λ (x : ℕ). x ∷ ends ws) k.end);
      offsets_are = ap (offsets_of p) m ∙ rw (t.offsets_are, first, later);
      cells_are = rw (here, k.data_there, ← later) (ap (λ (x : List ℕ). w.bytes ++ x) t.cells_are);
    }

-- all windows of a section, from a seam on
through : (size : ℕ) (ws : List Window) (pre post : List ℕ) (p : ℕ) → p ≤ length pre → AllFit size ws
    → Through size (pre ++ (windows_bytes ws ++ post)) ws p (length pre)
through size [] pre post p i f = through-none size (pre ++ post) p (length pre)
through size (w ∷ ws) pre post p i f =
    let rest : List ℕ = windows_bytes ws ++ post in
    let q : List ℕ = pre ++ window_bytes w in
    let s : List ℕ = pre ++ (windows_bytes (w ∷ ws) ++ post) in
    let n : length q ≡ length pre + length (window_bytes w) = length-append pre (window_bytes w) in
    let d : pre ++ (window_bytes w ++ rest) ≡ s = ap (λ (x : List ℕ). pre ++ x) (sym (append_assoc (window_bytes w) (windows_bytes ws) post)) in
    let e : q ++ rest ≡ s = append_assoc pre (window_bytes w) rest ∙ d in
    let t : Through size s ws p (length q) = subst (λ (x : List ℕ). Through size x ws p (length q)) e (through size ws q post p (omega arith) f.1) in
    let k : Stands s (length pre) w = subst (λ (x : List ℕ). Stands x (length pre) w) d (stands size pre w rest f.0) in
    let m : length q + length rest ≡ length s = sym (length-append q rest) ∙ ap length e in
    through-more size s w ws p (length pre) (length q) i f.0 k n (omega arith) t

-- ---- a section, its preamble at p

pub record Stood (size mode p : ℕ) (s : List ℕ) (x : Section) : Type 0 where
  pub head : head_stop mode s ≡ stop done (p + 6)
  pub control : get_or s (p + 1) 0 ≡ x.control
  pub address0 : get_or s (p + 2) 0 ≡ x.address0
  pub address1 : get_or s (p + 3) 0 ≡ x.address1
  pub address2 : get_or s (p + 4) 0 ≡ x.address2
  pub count : count_at s p ≡ length x.windows
  pub windows : Through size s x.windows p (p + 6)
  pub check : get_or s (p + 6 + length (windows_bytes x.windows)) 0 ≡ postamble
  pub long : p + 6 + length (windows_bytes x.windows) < length s

complement : (n : ℕ) → n ≤ no_windows → 255 - (no_windows - n) ≡ n
complement n h = omega arith

module _ (size mode : ℕ) (x : Section) (rest : List ℕ) (f : SectionFits size x) where
  -- what stands after the head
  abbrev body : List ℕ
  body = windows_bytes x.windows ++ (postamble ∷ rest)

  body-check : (pre : List ℕ) → get_or (pre ++ body) (length pre + length (windows_bytes x.windows)) 0 ≡ postamble
  body-check pre = get_or-append-add pre body (length (windows_bytes x.windows)) 0 ∙ get_or-append_seam (windows_bytes x.windows) postamble rest 0

  body_long : length body ≡ length (windows_bytes x.windows) + suc (length rest)
  body_long = length-append (windows_bytes x.windows) (postamble ∷ rest)

  -- whatever stands before the preamble, where the lister passes the head
  stood : (front : List ℕ) → head_stop mode (front ++ (preamble ∷ section_bytes x rest)) ≡ stop done (length front + 6)
      → Stood size mode (length front) (front ++ (preamble ∷ section_bytes x rest)) x
  stood front h =
      let p = length front in
      let ws = x.windows in
      let s : List ℕ = front ++ (preamble ∷ section_bytes x rest) in
      let head : List ℕ = preamble ∷ x.control ∷ x.address0 ∷ x.address1 ∷ x.address2 ∷ (no_windows - length ws) ∷ [] in
      let at : (k : ℕ) → get_or s (p + k) 0 ≡ get_or (head ++ body) k 0 = λ k. get_or-append-add front (head ++ body) k 0 in
      let e : (front ++ head) ++ body ≡ s = append_assoc front head body in
      let n : length (front ++ head) ≡ p + 6 = length-append front head in
      let l = body_long in
      let m : length s ≡ p + length (head ++ body) = length-append front (head ++ body) in
      let w = through size ws (front ++ head) (postamble ∷ rest) p (omega arith) f.fit in
      record {
        head = h;
        control = at 1;
        address0 = at 2;
        address1 = at 3;
        address2 = at 4;
        count = ap (λ (k : ℕ). 255 - k) (at 5) ∙ complement (length ws) f.few;
        windows = subst (λ (k : ℕ). Through size s ws p k) n (subst (λ (t : List ℕ). Through size t ws p (length (front ++ head))) e w);
        check = rw (e, n) at (body-check (front ++ head));
        long = omega arith;
      }

  stood_two : eqb mode two_preambles ≡ true → Stood size mode 1 (lead_bytes true ++ section_bytes x rest) x
  unfolding head_stop preamble_at
  stood_two e = let l = body_long in stood (preamble ∷ []) (rw (e, le-ltb (length (lead_bytes true ++ section_bytes x rest)) 7 (omega arith)) (simp and-false))

  pub stood_one : eqb mode two_preambles ≡ false → Stood size mode 0 (lead_bytes false ++ section_bytes x rest) x
  unfolding head_stop preamble_at
  stood_one e = let l = body_long in stood [] (rw (e, le-ltb (length (lead_bytes false ++ section_bytes x rest)) 6 (omega arith)) (simp and-false))

-- ---- the listing

-- its preamble at p; t bytes are up to its postamble
module _ (kind mode p : ℕ) (s : List ℕ) (x : Section) (t : ℕ) (pa : preamble_at mode ≡ p) (k : Stood (size_of kind) mode p s x)
    (tk : t ≡ p + 6 + length (windows_bytes x.windows) + 1) where
  check_stop_lem : (control : ℕ) → check_stop control s (p + 6 + length (windows_bytes x.windows)) ≡ stop done t
  unfolding check_stop
  check_stop_lem control =
      rw (lt-leb (length s) (p + 6 + length (windows_bytes x.windows)) k.long, k.check, tk)

  pub stream_stop_lem : stream_stop (size_of kind) mode s ≡ stop done t
  unfolding stream_stop
  stream_stop_lem = rw (k.head, pa, k.count, k.windows.ending) (check_stop_lem (get_or s (p + 1) 0))

  module _ (known : size_of kind ≡ 0 → ⊥) (o : Mode mode) (ts te to : List ℕ) (a : length x.windows ≤ length ts) (b : length x.windows ≤ length te)
      (d : length x.windows ≤ length to) where
    list_stop_lem : list_stop (size_of kind) mode s (length ts) (length te) (length to) ≡ stop done t
    unfolding list_stop
    list_stop_lem =
        rw (
          ne_eqb (size_of kind) 0 known,
          le-leb first_mode mode o.least,
          le-leb mode two_preambles o.most,
          stream_stop_lem,
          pa,
          k.count,
          le-ltb (length ts) (length x.windows) a,
          le-ltb (length te) (length x.windows) b,
          le-ltb (length to) (length x.windows) d,
        )

    answer_is : listed_of s (preamble_at mode) (list_stop (size_of kind) mode s (length ts) (length te) (length to))
        ≡ record {
          number = done;
          windows = length x.windows;
          control = x.control;
          address = x.address0 ∷ x.address1 ∷ x.address2 ∷ [];
          taken = t;
        }
    unfolding listed_of
    answer_is = rw (list_stop_lem, pa, k.count, k.control, k.address0, k.address1, k.address2)

    listing_is : listing_of (size_of kind) s (preamble_at mode) (list_stop (size_of kind) mode s (length ts) (length te) (length to))
        ≡ windows_of (size_of kind) s (length x.windows) (p + 6)
    unfolding listing_of
    listing_is = rw (list_stop_lem, pa, k.count)

    offsets_are : offsets_of p (windows_of (size_of kind) s (length x.windows) (p + 6)) ≡ offsets 6 x.windows
    offsets_are =
        let z : p + 6 - p ≡ 6 = omega arith in
        k.windows.offsets_are ∙ ap (λ (o : ℕ). offsets o x.windows) z

    cells_are : gathered p s (starts x.windows) (ends x.windows) (offsets 6 x.windows) ≡ cells x.windows
    cells_are =
        let z : p + 6 - p ≡ 6 = omega arith in
        subst (λ (o : ℕ). gathered p s (starts x.windows) (ends x.windows) (offsets o x.windows) ≡ cells x.windows) z k.windows.cells_are

    list_is : ours.list kind mode s ts te to
        ≡ record {
          listed =
              record {
                number = done;
                windows = length x.windows;
                control = x.control;
                address = x.address0 ∷ x.address1 ∷ x.address2 ∷ [];
                taken = t;
              };
          starts = sets ts 0 (starts x.windows);
          ends = sets te 0 (ends x.windows);
          offsets = sets to 0 (offsets 6 x.windows);
        }
    list_is = rw (answer_is, listing_is, k.windows.starts_are, k.windows.ends_are, pa, offsets_are)

    stood_lists : ListsAs mode s t x (ours.list kind mode s ts te to)
    stood_lists =
        let n = length x.windows in
        let sa : take n (sets ts 0 (starts x.windows)) ≡ starts x.windows = front_is (starts x.windows) ts n (starts_many x.windows) a in
        let ea : take n (sets te 0 (ends x.windows)) ≡ ends x.windows = front_is (ends x.windows) te n (ends_many x.windows) b in
        let oa : take n (sets to 0 (offsets 6 x.windows)) ≡ offsets 6 x.windows = front_is (offsets 6 x.windows) to n (offsets_many 6 x.windows) d in
        subst (λ (r : AfterList). ListsAs mode s t x r) (sym list_is)
        (record {
          number = refl;
          taken = refl;
          control = refl;
          address = refl;
          windows = refl;
          starts = sa;
          ends = ea;
          offsets = oa;
          cells = rw (pa, sa, ea, oa) cells_are;
        })

-- the stream alone, as long as it is
pub stream_long : (mode : ℕ) (c : Chain) (x : Section) (k : Bool) → eqb mode two_preambles ≡ k
    → length (bytes_of (stream_sent c mode x [])) ≡ pick k 1 0 + 6 + length (windows_bytes x.windows) + 1
stream_long mode c x k e =
    ap length (sym (append-nil (bytes_of (stream_sent c mode x []))) ∙ stream-bytes c mode x [])
    ∙ rw e (either k)
  where
    either : (k : Bool) → length (lead_bytes k ++ section_bytes x []) ≡ pick k 1 0 + 6 + length (windows_bytes x.windows) + 1
    either true = omega (arith, length-append (windows_bytes x.windows) (postamble ∷ []))
    either false = omega (arith, length-append (windows_bytes x.windows) (postamble ∷ []))

module _ (kind mode : ℕ) (c : Chain) (x : Section) (rest : List ℕ) (f : SectionFits (size_of kind) x) (known : size_of kind ≡ 0 → ⊥) (o : Mode mode) where
  -- whatever tables of room enough are lent, and whatever follows the stream
  pub listed : (ts te to : List ℕ) → length x.windows ≤ length ts → length x.windows ≤ length te → length x.windows ≤ length to
      → ListsAs mode (bytes_of (stream_sent c mode x []) ++ rest) (length (bytes_of (stream_sent c mode x []))) x
      (ours.list kind mode (bytes_of (stream_sent c mode x []) ++ rest) ts te to)
  listed ts te to a b d =
      let t : ℕ = length (bytes_of (stream_sent c mode x [])) in
      let s : List ℕ = bytes_of (stream_sent c mode x []) ++ rest in
      by_test (eqb mode two_preambles)
      (λ e.
      let is : s ≡ lead_bytes true ++ section_bytes x rest = stream-bytes c mode x rest ∙ rw e in
      let k : Stood (size_of kind) mode 1 s x = subst (λ (l : List ℕ). Stood (size_of kind) mode 1 l x) (sym is) (stood_two (size_of kind) mode x rest f e) in
      stood_lists kind mode 1 s x t (unfold preamble_at in rw e) k (stream_long mode c x true e) known o ts te to a b d)
      (λ e.
      let is : s ≡ lead_bytes false ++ section_bytes x rest = stream-bytes c mode x rest ∙ rw e in
      let k : Stood (size_of kind) mode 0 s x = subst (λ (l : List ℕ). Stood (size_of kind) mode 0 l x) (sym is) (stood_one (size_of kind) mode x rest f e) in
      stood_lists kind mode 0 s x t (unfold preamble_at in rw e) k (stream_long mode c x false e) known o ts te to a b d)
