-- Loaders that clause (a) of the second demand shuts out: a constant answer and refusing all, storing nothing, a made-up count.
-- Assumes nothing.
use Prim.Native.Nat.{ℕ, ◌<◌}
use mathlib.Core.Path.{◌≡◌, refl, ap, sym, ◌∙◌}
use mathlib.Core.List.{List, [], ◌∷◌, ◌++◌}
use native.Mathlib.Omega.{arith}
use lib.Dec.{eqb}
use lib.ListN.{length, take, get_or}
use Rattle.chain.specs.declared.Chain.{Chain}
use Rattle.chain.specs.Paper.{writing, checking, done, more}
use Rattle.chain.specs.Rules.{pick}
use Rattle.chain.specs.Kinds.{base_of}
use Rattle.grammar.specs.Stream.{Section, stream_sent}
use Rattle.grammar.specs.Sent.{bytes_of, unlikes}
use Rattle.machine.specs.Run.{Run, run}
use Rattle.demands.specs.Loader.{Loader, AfterSlice, Idle, Mode}
use Rattle.grammar.specs.Fits.{Fitting}
use Rattle.demands.specs.Demand2.{Seen, slices, joined, ran, Demand2a}
use Rattle.demands.specs.Ours.{ours}
use Rattle.demands.specs.Wrong.{constant, idle, taking, missing}
use Rattle.demands.proofs.Loads.OneSlice.{whole_seen, part_seen}
use Rattle.demands.proofs.Loads.StreamA.{teaching, cells0, section_a, idle-teaching, mode-one, fits_A}

-- ---- refusing all, by whatever numbers; one number, one count of bytes taken, one count of mismatches for all; storing nothing

module _ (l : Loader) (d : Demand2a l) where
  abbrev A : (check : ℕ) → Seen check teaching cells0 (stream_sent teaching 1 section_a []) done (l.slice (l.start teaching cells0 1 check).chain cells0 (bytes_of (stream_sent teaching 1 section_a [])))
  A check = whole_seen l d teaching cells0 check 1 section_a [] idle-teaching mode-one (fits_A check)

  abbrev none : (check : ℕ) → Seen check teaching cells0 [] more (l.slice (l.start teaching cells0 1 check).chain cells0 [])
  none check = part_seen l d teaching cells0 check 1 section_a [] idle-teaching mode-one (fits_A check) 0 (omega arith)

  pub refuses_out : ((c : Chain) (m s : List ℕ) → (l.slice c m s).fed.answer.number ≡ done → ⊥) → ⊥
  refuses_out h = h (l.start teaching cells0 1 writing).chain cells0 (bytes_of (stream_sent teaching 1 section_a [])) (A writing).number

  pub one-number_out : (n : ℕ) → ((c : Chain) (m s : List ℕ) → (l.slice c m s).fed.answer.number ≡ n) → ⊥
  one-number_out n h =
      let e : ◌≡◌ {A = ℕ} done more =
      sym (A writing).number ∙ h (l.start teaching cells0 1 writing).chain cells0 (bytes_of (stream_sent teaching 1 section_a []))
      ∙ sym (h (l.start teaching cells0 1 writing).chain cells0 []) ∙ (none writing).number
      in
      omega arith

  pub one-taken_out : (n : ℕ) → ((c : Chain) (m s : List ℕ) → (l.slice c m s).fed.answer.taken ≡ n) → ⊥
  one-taken_out n h =
      let e : ◌≡◌ {A = ℕ} 15 0 =
      sym (A writing).taken ∙ h (l.start teaching cells0 1 writing).chain cells0 (bytes_of (stream_sent teaching 1 section_a []))
      ∙ sym (h (l.start teaching cells0 1 writing).chain cells0 []) ∙ (none writing).taken
      in
      omega arith

  pub one-mismatches_out : (n : ℕ) → ((c : Chain) (m s : List ℕ) → (l.slice c m s).fed.answer.mismatches ≡ n) → ⊥
  unfolding base_of
  one-mismatches_out n h =
      let e : ◌≡◌ {A = ℕ} 3 0 =
      sym (A checking).mismatches ∙ h (l.start teaching cells0 1 checking).chain cells0 (bytes_of (stream_sent teaching 1 section_a []))
      ∙ sym (h (l.start teaching cells0 1 checking).chain cells0 []) ∙ (none checking).mismatches
      in
      omega arith

  pub stores_nothing_out : ((c : Chain) (m s : List ℕ) → (l.slice c m s).memory ≡ m) → ⊥
  unfolding base_of
  stores_nothing_out h =
      let e : ◌≡◌ {A = ℕ} 0 0x11 =
      ap (λ (x : List ℕ). get_or x 9 0) (sym (h (l.start teaching cells0 1 writing).chain cells0 (bytes_of (stream_sent teaching 1 section_a []))))
      ∙ (A writing).cells 9 (omega arith)
      in
      omega arith

-- ---- by name: every constant answer, refusing all with any number among them

pub constant_out : (n t w : ℕ) → Demand2a (constant n t w) → ⊥
constant_out n t w d =
    let a : n ≡ done = (whole_seen (constant n t w) d teaching cells0 writing 1 section_a [] idle-teaching mode-one (fits_A writing)).number in
    let b : n ≡ more = (part_seen (constant n t w) d teaching cells0 writing 1 section_a [] idle-teaching mode-one (fits_A writing) 0 (omega arith)).number in
    omega arith

-- ---- storing nothing

pub idle_out : Demand2a idle → ⊥
unfolding base_of
idle_out d =
    let e : ◌≡◌ {A = ℕ} 0 0x11 =
    (whole_seen idle d teaching cells0 writing 1 section_a [] idle-teaching mode-one (fits_A writing)).cells 9 (omega arith) in
    omega arith

-- ---- every count of bytes taken, or of mismatches, that differs from the true one on some fitting stream, whole or in part, in some
-- cut, whatever follows: of any loader

module _ (l : Loader) (d : Demand2a l) (c : Chain) (m : List ℕ) (check mode : ℕ) (s : Section) (ss : List Section)
    (i : Idle c m) (o : Mode mode) (g : Fitting c check mode s ss) where
  pub taken_out : (ps : List (List ℕ)) (b : ℕ) (last rest : List ℕ) → joined ps ++ (b ∷ last) ≡ bytes_of (stream_sent c mode s ss)
      → ((ran l check mode c m ps ((b ∷ last) ++ rest)).fed.answer.taken ≡ length (stream_sent c mode s ss) → ⊥) → ⊥
  taken_out ps b last rest e h = h ((d c m check mode s ss i o g).whole ps b last rest e).taken

  pub taken_part_out : (k : ℕ) → k < length (stream_sent c mode s ss) → (ps : List (List ℕ)) (last : List ℕ)
      → joined ps ++ last ≡ take k (bytes_of (stream_sent c mode s ss))
      → ((ran l check mode c m ps last).fed.answer.taken ≡ length (take k (stream_sent c mode s ss)) → ⊥) → ⊥
  taken_part_out k b ps last e h = h ((d c m check mode s ss i o g).part k b ps last e).taken

  pub mismatches_out : (ps : List (List ℕ)) (b : ℕ) (last rest : List ℕ) → joined ps ++ (b ∷ last) ≡ bytes_of (stream_sent c mode s ss)
      → ((ran l check mode c m ps ((b ∷ last) ++ rest)).fed.answer.mismatches ≡ pick (eqb check writing) 0 (unlikes m (stream_sent c mode s ss)) → ⊥) → ⊥
  mismatches_out ps b last rest e h = h ((d c m check mode s ss i o g).whole ps b last rest e).mismatches

  pub mismatches_part_out : (k : ℕ) → k < length (stream_sent c mode s ss) → (ps : List (List ℕ)) (last : List ℕ)
      → joined ps ++ last ≡ take k (bytes_of (stream_sent c mode s ss))
      → ((ran l check mode c m ps last).fed.answer.mismatches ≡ pick (eqb check writing) 0 (unlikes m (take k (stream_sent c mode s ss))) → ⊥) → ⊥
  mismatches_part_out k b ps last e h = h ((d c m check mode s ss i o g).part k b ps last e).mismatches

-- ---- by name: a rule that makes the count up from what the last slice is given

-- what slices leave for the next one
abbrev pub left_by : Loader → Chain → List ℕ → List (List ℕ) → Run
left_by l c m [] = run c m more
left_by l c m (p ∷ ps) = left_by l (l.slice c m p).fed.chain (l.slice c m p).memory ps

slices_last : (l : Loader) (c : Chain) (m : List ℕ) (ps : List (List ℕ)) (last : List ℕ)
    → slices l c m ps last ≡ l.slice (left_by l c m ps).chain (left_by l c m ps).memory last
slices_last l c m [] last = refl
slices_last l c m (p ∷ ps) last = slices_last l (l.slice c m p).fed.chain (l.slice c m p).memory ps last

-- the rule f on the last slice of a run
abbrev ruled : (Chain → List ℕ → List ℕ → ℕ) → Run → List ℕ → ℕ
ruled f r last = f r.chain r.memory last

module _ (f : Chain → List ℕ → List ℕ → ℕ) (c : Chain) (m : List ℕ) where
  taking-left : (ps : List (List ℕ)) → left_by (taking f) c m ps ≡ left_by ours c m ps
  taking-left = go c m
    where
      go : (c : Chain) (m : List ℕ) (ps : List (List ℕ)) → left_by (taking f) c m ps ≡ left_by ours c m ps
      go c m [] = refl
      go c m (p ∷ ps) = go (ours.slice c m p).fed.chain (ours.slice c m p).memory ps

  missing-left : (ps : List (List ℕ)) → left_by (missing f) c m ps ≡ left_by ours c m ps
  missing-left = go c m
    where
      go : (c : Chain) (m : List ℕ) (ps : List (List ℕ)) → left_by (missing f) c m ps ≡ left_by ours c m ps
      go c m [] = refl
      go c m (p ∷ ps) = go (ours.slice c m p).fed.chain (ours.slice c m p).memory ps

  taking_is : (ps : List (List ℕ)) (last : List ℕ) → (slices (taking f) c m ps last).fed.answer.taken ≡ ruled f (left_by ours c m ps) last
  taking_is ps last =
      ap (λ (a : AfterSlice). a.fed.answer.taken) (slices_last (taking f) c m ps last) ∙ ap (λ (r : Run). ruled f r last) (taking-left ps)

  missing_is : (ps : List (List ℕ)) (last : List ℕ) → (slices (missing f) c m ps last).fed.answer.mismatches ≡ ruled f (left_by ours c m ps) last
  missing_is ps last =
      ap (λ (a : AfterSlice). a.fed.answer.mismatches) (slices_last (missing f) c m ps last) ∙ ap (λ (r : Run). ruled f r last) (missing-left ps)

module _ (f : Chain → List ℕ → List ℕ → ℕ) (c : Chain) (m : List ℕ) (check mode : ℕ) (s : Section) (ss : List Section)
    (i : Idle c m) (o : Mode mode) (g : Fitting c check mode s ss) where
  -- what slices leave of a run started afresh
  abbrev left : List (List ℕ) → Run
  left ps = left_by ours (ours.start c m mode check).chain m ps

  pub taking_out : (ps : List (List ℕ)) (b : ℕ) (last rest : List ℕ) → joined ps ++ (b ∷ last) ≡ bytes_of (stream_sent c mode s ss)
      → (ruled f (left ps) ((b ∷ last) ++ rest) ≡ length (stream_sent c mode s ss) → ⊥) → Demand2a (taking f) → ⊥
  taking_out ps b last rest e h d =
      taken_out (taking f) d c m check mode s ss i o g ps b last rest e
      (λ q. h (sym (taking_is f (ours.start c m mode check).chain m ps ((b ∷ last) ++ rest)) ∙ q))

  pub taking_part_out : (k : ℕ) → k < length (stream_sent c mode s ss) → (ps : List (List ℕ)) (last : List ℕ)
      → joined ps ++ last ≡ take k (bytes_of (stream_sent c mode s ss))
      → (ruled f (left ps) last ≡ length (take k (stream_sent c mode s ss)) → ⊥) → Demand2a (taking f) → ⊥
  taking_part_out k b ps last e h d =
      taken_part_out (taking f) d c m check mode s ss i o g k b ps last e (λ q. h (sym (taking_is f (ours.start c m mode check).chain m ps last) ∙ q))

  pub missing_out : (ps : List (List ℕ)) (b : ℕ) (last rest : List ℕ) → joined ps ++ (b ∷ last) ≡ bytes_of (stream_sent c mode s ss)
      → (ruled f (left ps) ((b ∷ last) ++ rest) ≡ pick (eqb check writing) 0 (unlikes m (stream_sent c mode s ss)) → ⊥) → Demand2a (missing f) → ⊥
  missing_out ps b last rest e h d =
      mismatches_out (missing f) d c m check mode s ss i o g ps b last rest e
      (λ q. h (sym (missing_is f (ours.start c m mode check).chain m ps ((b ∷ last) ++ rest)) ∙ q))

  pub missing_part_out : (k : ℕ) → k < length (stream_sent c mode s ss) → (ps : List (List ℕ)) (last : List ℕ)
      → joined ps ++ last ≡ take k (bytes_of (stream_sent c mode s ss))
      → (ruled f (left ps) last ≡ pick (eqb check writing) 0 (unlikes m (take k (stream_sent c mode s ss))) → ⊥) → Demand2a (missing f) → ⊥
  missing_part_out k b ps last e h d =
      mismatches_part_out (missing f) d c m check mode s ss i o g k b ps last e
      (λ q. h (sym (missing_is f (ours.start c m mode check).chain m ps last) ∙ q))

-- the bytes of the last slice alone: right on every stream in one slice, and out by a cut
pub per_slice_out : Demand2a (taking (λ c m s. length s)) → ⊥
unfolding base_of
per_slice_out =
    taking_out (λ c m s. length s) teaching cells0 writing 1 section_a [] idle-teaching mode-one (fits_A writing) ((0xb2 ∷ []) ∷ []) 0
    (0 ∷ 0 ∷ 0 ∷ 0xfe ∷ 0 ∷ 0 ∷ 9 ∷ 0 ∷ 11 ∷ 0x11 ∷ 0x22 ∷ 0x33 ∷ 0x4d ∷ []) [] refl no
  where
    no : ◌≡◌ {A = ℕ} 14 15 → ⊥
    no q = omega arith
