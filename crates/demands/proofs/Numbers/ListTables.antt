-- The table of the lister's numbers, and what its refusals leave. Assumes nothing.
use Prim.Native.Nat.{ℕ, zero, suc, ◌+◌, ◌<◌}
use mathlib.Core.Bool.{Bool, true, false, not}
use mathlib.Core.Logic.{inl, inr, ◌≢◌, ⊎_elim}
use mathlib.Core.Path.{◌≡◌, refl, sym, ap, ◌∙◌}
use mathlib.Core.List.{List, [], ◌∷◌}
use native.Mathlib.Nat.{add-zero}
use native.Mathlib.Omega.{arith}
use borrow.Author.Tests.{eqb-false, eq-eqb, ne_eqb, le-ltb}
use lib.Dec.{eqb, lit<}
use lib.ListN.{length, get_or, replicate, length-replicate}
use Rattle.chain.specs.declared.Chain.{Chain}
use Rattle.chain.specs.Paper.{writing, first_mode, two_preambles, most_memory, done, bad_chain, bad_mode, no_preamble, barred, no_check, bad_check_byte, ends_here, last_device, bad_start, bad_end, too_short, more}
use Rattle.chain.specs.Rules.{Rule, ◌gives◌, pick, first_of, from}
use Rattle.chain.specs.Set.{with_place}
use Rattle.chain.specs.Kinds.{size_of, base_of, known_of}
use Rattle.chain.specs.State.{is_bad_chain, unused_zero, is_ill_formed, feed_number, state_number}
use Rattle.chain.specs.Calls.{first_only, fresh_chain, chain_number, new_of}
use Rattle.chain.proofs.Sizes.{size_most}
use Rattle.chain.proofs.ByCases.{by_test, either_way}
use Rattle.awaited.specs.Byte.{byte_rules, number_of}
use Rattle.machine.specs.Run.{Run, run, step_of, run_of}
use Rattle.grammar.proofs.Runs.Started.{opened_feeds}
use Rattle.machine.specs.Calls.{opened_place, start_number, start_of, fed_of, slice_of}
use Rattle.machine.specs.declared.Fed.{Fed}
use Rattle.machine.proofs.Runs.{step_number}
use Rattle.grammar.proofs.Runs.Slices.{slice_runs, slice_number_lem}
use Rattle.machine.proofs.Feed.{first_on, first_off}
use Rattle.lister.specs.declared.Listed.{Listed}
use Rattle.reader.specs.Stops.{Stop, stop}
use Rattle.reader.specs.Stream.{preamble_at, count_at, stream_stop}
use Rattle.lister.specs.Listing.{any_shorter, list_stop, listed_of, listing_of, listed, Lists}
use Rattle.reader.proofs.AsMachine.{stream_as_machine}
use Rattle.chain.specs.Bytes.{Bytes}
use Rattle.chain.specs.WellFormed.{Among}
use Rattle.chain.specs.Table.{Table}
use Rattle.chain.proofs.BadChain.{m_known, m_unknown}
use Rattle.chain.proofs.Means.{said, reads}
use Rattle.chain.proofs.Table.{table, table-reads}
use Rattle.demands.specs.ByteTable.{slice_number}
use Rattle.demands.specs.ListTable.{fresh_run, own_number, own_taken, list_table, ListTaken}
use Rattle.demands.specs.Demand1.{ListRefused}

-- ---- a freshly reset device, and a write started on it

module _ (kind : ℕ) (known : size_of kind ≢ 0) where
  abbrev eight : List ℕ
  eight = kind ∷ replicate 7 0

  pub good_chain : is_bad_chain 1 eight (size_of kind) ≡ false
  unfolding is_bad_chain known_of base_of
  good_chain =
      let e : size_of kind + 0 ≡ size_of kind = add-zero (size_of kind) in
      rw (ne_eqb (size_of kind) 0 known, e, le-ltb most_memory (size_of kind) (omega (arith, size_most kind)), eq-eqb (size_of kind) (size_of kind) refl)

  pub new_is : (new_of 1 eight (size_of kind)).chain ≡ fresh_chain 1 eight
  unfolding new_of chain_number
  new_is = rw good_chain

  pub kinds_kept : first_only 1 eight ≡ eight
  unfolding first_only
  kinds_kept = refl

  pub fresh-formed : is_ill_formed (fresh_chain 1 eight) ≡ false
  unfolding is_ill_formed unused_zero first_only
  fresh-formed = refl

  module _ (mode : ℕ) (inside : from first_mode two_preambles mode ≡ true) where
    abbrev started : Chain
    started = with_place (fresh_chain 1 eight) (opened_place mode writing)

    start_number_lem : start_number (fresh_chain 1 eight) (size_of kind) mode ≡ done
    unfolding start_number
    start_number_lem = rw (fresh-formed, kinds_kept, good_chain, inside)

    start_is : fresh_run kind mode ≡ started
    unfolding start_of
    start_is =
        ap (λ (c : Chain). (start_of c (size_of kind) mode writing).chain) new_is
        ∙ ap (λ (n : ℕ). pick (eqb n done) started (fresh_chain 1 eight)) start_number_lem

    opens : (m : List ℕ) → length m ≡ size_of kind → feed_number started (length m) ≡ done
    unfolding state_number
    opens m e = opened_feeds (fresh_chain 1 eight) (length m) mode writing (rw (fresh-formed, kinds_kept, e, good_chain)) inside

-- ---- the numbers that a run can have

abbrev numbers_of : List Rule → ℕ → List ℕ
numbers_of [] n = n ∷ []
numbers_of ((b gives m) ∷ rules) n = m ∷ numbers_of rules n

first-among : (rules : List Rule) (n : ℕ) → Among (first_of rules n) (numbers_of rules n)
first-among [] n = inl refl
first-among ((true gives m) ∷ rules) n = inl refl
first-among ((false gives m) ∷ rules) n = inr (first-among rules n)

abbrev pub run_numbers : List ℕ
run_numbers = no_preamble ∷ bad_check_byte ∷ ends_here ∷ last_device ∷ barred ∷ no_check ∷ bad_start ∷ bad_end ∷ done ∷ more ∷ []

byte-among : (c : Chain) (b : ℕ) → Among (number_of c b) run_numbers
unfolding number_of
byte-among c b = first-among (byte_rules c b) more

run-among : (s : List ℕ) (r : Run) → Among r.number run_numbers → Among (run_of r s).number run_numbers
run-among [] r h = unfold run_of in h
run-among (b ∷ bs) r h =
    by_test (eqb r.number more)
    (λ e.
    rw (first_on r b bs e)
    (run-among bs (step_of r.chain r.memory b) (rw (step_number r.chain r.memory b) (byte-among r.chain b))))
    (λ e. rw (first_off r b bs e) h)

-- a stream's own number, then 15
abbrev pub own_rules : ℕ → Bool → List Rule
own_rules own short =
    (eqb own no_preamble gives no_preamble)
    ∷ (eqb own barred gives barred)
    ∷ (eqb own no_check gives no_check)
    ∷ (eqb own bad_check_byte gives bad_check_byte)
    ∷ (eqb own ends_here gives ends_here)
    ∷ (eqb own last_device gives last_device)
    ∷ (eqb own bad_start gives bad_start)
    ∷ (eqb own bad_end gives bad_end)
    ∷ (eqb own more gives more)
    ∷ (short gives too_short)
    ∷ []

pub spread : (own : ℕ) (short : Bool) → Among own run_numbers → pick (not (eqb own done)) own (pick short too_short own) ≡ first_of (own_rules own short) done
spread own short (inl e) = rw e refl
spread own short (inr (inl e)) = rw e refl
spread own short (inr (inr (inl e))) = rw e refl
spread own short (inr (inr (inr (inl e)))) = rw e refl
spread own short (inr (inr (inr (inr (inl e))))) = rw e refl
spread own short (inr (inr (inr (inr (inr (inl e)))))) = rw e refl
spread own short (inr (inr (inr (inr (inr (inr (inl e))))))) = rw e refl
spread own short (inr (inr (inr (inr (inr (inr (inr (inl e)))))))) = rw e refl
spread own short (inr (inr (inr (inr (inr (inr (inr (inr (inl e))))))))) = rw e refl
spread own short (inr (inr (inr (inr (inr (inr (inr (inr (inr (inl e)))))))))) = rw e refl
spread own short (inr (inr (inr (inr (inr (inr (inr (inr (inr (inr e)))))))))) = absurd e

-- ---- the table

through : (a b : Bool) (x y z : Stop) → (pick a x (pick b y z)).number ≡ pick a x.number (pick b y.number z.number)
through true b x y z = refl
through false true x y z = refl
through false false x y z = refl

through-taken : (a b : Bool) (n : ℕ) (e : Stop) → (pick a (stop n e.taken) (pick b (stop too_short e.taken) e)).taken ≡ e.taken
through-taken true b n e = refl
through-taken false true n e = refl
through-taken false false n e = refl

bytes-at : (s : List ℕ) → Bytes s → (i : ℕ) → get_or s i 0 < 256
bytes-at [] h i = lit< tt
bytes-at (b ∷ bs) h zero = h.0
bytes-at (b ∷ bs) h (suc i) = bytes-at bs h.1 i

module _ (kind mode : ℕ) (s : List ℕ) (small : Bytes s) where
  module _ (known : size_of kind ≢ 0) (inside : from first_mode two_preambles mode ≡ true) where
    abbrev memory : List ℕ
    memory = replicate (size_of kind) 0

    own-run : own_number kind mode s ≡ (run_of (run (started kind known mode inside) memory more) s).number
    own-run =
        ap (λ (c : Chain). slice_number c memory s) (start_is kind known mode inside)
        ∙ slice_number_lem (started kind known mode inside) memory s (opens kind known mode inside memory (length-replicate (size_of kind) 0))

    pub own-stream : (stream_stop (size_of kind) mode s).number ≡ own_number kind mode s
    own-stream =
        ap (λ (e : Stop). e.number) (stream_as_machine kind (replicate 7 0) mode memory s (bytes-at s small)) ∙ sym own-run

    pub own-among : Among (own_number kind mode s) run_numbers
    own-among =
        rw own-run (run-among s (run (started kind known mode inside) memory more) (inr (inr (inr (inr (inr (inr (inr (inr (inr (inl refl)))))))))))

    own_taken_lem : (stream_stop (size_of kind) mode s).taken ≡ own_taken kind mode s
    unfolding fed_of
    own_taken_lem =
        ap (λ (e : Stop). e.taken) (stream_as_machine kind (replicate 7 0) mode memory s (bytes-at s small))
        ∙ sym
        (ap (λ (c : Chain). (slice_of c memory s).answer.taken) (start_is kind known mode inside)
        ∙ ap (λ (f : Fed). f.answer.taken)
        (slice_runs (started kind known mode inside) memory s (opens kind known mode inside memory (length-replicate (size_of kind) 0))).0)

  module _ (starts ends offsets : List ℕ) where
    abbrev short : Bool
    short = any_shorter (length starts) (length ends) (length offsets) (count_at s (preamble_at mode))

    abbrev rules : List Rule
    rules =
        (eqb (size_of kind) 0 gives bad_chain)
        ∷ (not (from first_mode two_preambles mode) gives bad_mode)
        ∷ own_rules (own_number kind mode s) short

    list-number : (listed_of s (preamble_at mode) (listed kind mode s starts ends offsets)).number ≡ first_of rules done
    unfolding listed_of list_stop
    list-number =
        by_test (eqb (size_of kind) 0) (λ e. rw e)
        (λ e.
        rw e
        (by_test (from first_mode two_preambles mode)
        (λ f.
        let known = eqb-false (size_of kind) 0 e in
        let e' = stream_stop (size_of kind) mode s in
        rw f
        (through (not (eqb e'.number done)) short (stop e'.number e'.taken) (stop too_short e'.taken) e'
        ∙ ap (λ (n : ℕ). pick (not (eqb n done)) n (pick short too_short n)) (own-stream known f)
        ∙ spread (own_number kind mode s) short (own-among known f)))
        (λ f. rw f)))

    -- s is bytes, as its type in the code says
    pub list_table_lem : Table (listed_of s (preamble_at mode) (listed kind mode s starts ends offsets)).number (list_table kind mode s starts ends offsets) done
    list_table_lem = rw list-number (table rules (list_table kind mode s starts ends offsets) done tt (search (m_unknown, table-reads) depth 40))

    pub list_taken : ListTaken kind mode s (listed_of s (preamble_at mode) (listed kind mode s starts ends offsets)).taken
    unfolding listed_of list_stop
    list_taken =
        record {
          none = ⊎_elim (λ u. rw ((m_unknown kind).said u))
              (λ n. let f : from first_mode two_preambles mode ≡ false = said (search reads) n in either_way (λ (e : Stop). e.taken ≡ 0) (eqb (size_of kind) 0) _ _ refl (rw f));
          own = λ k b.
              let e' = stream_stop (size_of kind) mode s in
              let known = eqb-false (size_of kind) 0 ((m_known kind).said k) in
              let f : from first_mode two_preambles mode ≡ true = said (search reads) b in
              rw (ne_eqb (size_of kind) 0 known, f) (through-taken (not (eqb e'.number done)) short e'.number e' ∙ own_taken_lem known f);
        }

-- ---- what a refusal leaves

pub list-refused : (kind mode : ℕ) (s starts ends offsets : List ℕ) (r : Listed) (starts' ends' offsets' : List ℕ)
    → Lists kind mode s starts ends offsets r starts' ends' offsets' → r.number ≢ done → ListRefused starts ends offsets r starts' ends' offsets'
unfolding listed_of listing_of
list-refused kind mode s starts ends offsets r starts' ends' offsets' l h =
    let e : eqb (listed kind mode s starts ends offsets).number done ≡ false
    = ne_eqb (listed kind mode s starts ends offsets).number done (λ q. h (ap (λ (x : Listed). x.number) l.answer ∙ q))
    in
    record {
      windows = ap (λ (x : Listed). x.windows) l.answer ∙ rw e;
      control = ap (λ (x : Listed). x.control) l.answer ∙ rw e;
      address = ap (λ (x : Listed). x.address) l.answer ∙ rw e;
      starts_kept = l.starts_left ∙ rw e;
      ends_kept = l.ends_left ∙ rw e;
      offsets_kept = l.offsets_left ∙ rw e;
    }
