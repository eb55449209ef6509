-- What salvage answers, as the code comes to it: its refusals, how the stream ended, and all of it. Assumes nothing.
use Prim.Native.Nat.{ℕ, ◌+◌, ◌-◌, ◌≤◌, ◌<◌}
use mathlib.Core.Bool.{false}
use mathlib.Core.Path.{◌≡◌, refl, sym, ap, ◌∙◌}
use mathlib.Core.List.{List, map}
use native.Mathlib.Omega.{arith}
use borrow.Author.Tests.{eq-eqb, ne_eqb, lt-ltb, le-ltb, eqb-true}
use lib.Dec.{eqb, ltb}
use lib.ListN.{length, get_or, length-map}
use Rattle.chain.proofs.ByCases.{by_test}
use Rattle.chain.specs.Paper.{preamble, first_mode, done, bad_chain, no_preamble, too_short, no_head}
use Rattle.chain.specs.Rules.{pick}
use Rattle.chain.specs.Kinds.{size_of}
use Rattle.chain.specs.Output.{over}
use Rattle.reader.specs.Stops.{Stop, stop, ◌then◌}
use Rattle.reader.specs.Windows.{ReadWindow, windows_stop, windows_of}
use Rattle.reader.specs.Stream.{preamble_at, head_length, control_at, count_at, check_stop, stream_stop}
use Rattle.reader.specs.Given.{window_in, windows_at, given_of, stream_with}
use Rattle.reader.proofs.Streams.{head-one}
use Rattle.salvage.specs.declared.Salvaged.{Salvaged}
use Rattle.salvage.specs.Salvage.{after_all, offset_of, salvaged, salvage_number, Salvages}
use Rattle.salvage.specs.Steps.{Kept, kept_of, reaches_of, end_of, laid_over}
use Rattle.salvage.proofs.WholeWindows.{alone, few}
use Rattle.salvage.proofs.Laying.{after-taken, Ready, there as within, long, reach_ends, count, ends_with_postamble, stored}

-- ---- how the stream ended

module _ (size : ℕ) (s : List ℕ) (h : head_length ≤ length s) (b : get_or s 0 0 ≡ preamble) where
  abbrev reading : Stop
  reading = windows_stop size s (count_at s 0) head_length

  -- six bytes and a preamble are a head
  stream_is : stream_stop size first_mode s ≡ (reading then check_stop (control_at s 0) s)
  unfolding stream_stop preamble_at
  stream_is =
      rw (head-one first_mode s (omega arith) (eq-eqb (get_or s 0 0) preamble b) refl, le-ltb (length s) 6 h)

  pub end_is : pick (eqb reading.number done) (check_stop (control_at s 0) s (after_all head_length (windows_of size s (count_at s 0) head_length))).number reading.number
      ≡ (stream_stop size first_mode s).number
  end_is =
      by_test (eqb reading.number done)
      (λ e. let z : reading ≡ stop done reading.taken = ap (λ (n : ℕ). stop n reading.taken) (eqb-true reading.number done e) in
      let t = after-taken size s (count_at s 0) head_length reading.taken z in
      sym (ap (λ (x : Stop). x.number) stream_is ∙ rw (e, t)))
      (λ e. sym (ap (λ (x : Stop). x.number) stream_is ∙ rw e))

-- ---- refusals

abbrev pub refusedWith : ℕ → Salvaged
refusedWith n = record { number = n; kept = 0; announced = 0; end = 0; offset = 0; length = 0 }

module _ (kind : ℕ) (s out : List ℕ) (size : ℕ) (z : size ≡ size_of kind) where
  nothing : (n : ℕ) (r : Salvaged) → r ≡ refusedWith n → salvage_number kind s (length out) ≡ n → (n ≡ done → ⊥) → Salvages kind s out r out
  nothing n r e f h = record { answer = e ∙ rw (f, ne_eqb n done h); output = rw (f, ne_eqb n done h) }

  pub no_kind : (r : Salvaged) → r ≡ refusedWith bad_chain → size ≡ 0 → Salvages kind s out r out
  no_kind r e y = nothing bad_chain r e (unfold salvage_number in rw (eq-eqb (size_of kind) 0 (sym z ∙ y))) (λ x. omega (arith, x))

  module _ (known : size ≡ 0 → ⊥) where
    unknown : eqb (size_of kind) 0 ≡ false
    unknown = ne_eqb (size_of kind) 0 (λ e. known (z ∙ e))

    pub cut_short : (r : Salvaged) → r ≡ refusedWith no_head → length s < 6 → Salvages kind s out r out
    cut_short r e l = nothing no_head r e (unfold salvage_number in rw (unknown, lt-ltb (length s) 6 l)) (λ x. omega (arith, x))

    module _ (h : 6 ≤ length s) where
      there : ltb (length s) 6 ≡ false
      there = le-ltb (length s) 6 h

      pub no-first : (r : Salvaged) → r ≡ refusedWith no_preamble → (get_or s 0 0 ≡ preamble → ⊥) → Salvages kind s out r out
      no-first r e b = nothing no_preamble r e (unfold salvage_number in rw (unknown, there, ne_eqb (get_or s 0 0) preamble b)) (λ x. omega (arith, x))

      -- ---- what was kept, and its reaches noted in a table

      module _ (b : get_or s 0 0 ≡ preamble) (small : (i : ℕ) → get_or s i 0 < 256) (k : Kept) (reaches : List ℕ)
          (e : (k ≡ kept_of size s (count_at s 0) head_length) × (reaches ≡ reaches_of (windows_of size s (count_at s 0) head_length))) where
        abbrev ws : List ReadWindow
        ws = windows_of size s (count_at s 0) head_length

        ready : Ready size s k.windows k.offset
        ready = record { head = h; first = b; whole = rw e.0 (alone size s (count_at s 0) head_length).0 }

        alone-is : windows_of size s k.windows head_length ≡ ws
        alone-is = rw e.0 (alone size s (count_at s 0) head_length).1

        given_is : windows_at size s k.windows head_length ≡ given_of (size_of kind) s
        unfolding given_of
        given_is = rw (← z) (ap (map (window_in s)) alone-is)

        salvaged_is : stream_with s (windows_at size s k.windows head_length) ≡ salvaged (size_of kind) s
        unfolding salvaged
        salvaged_is = ap (stream_with s) given_is

        long-is : length (salvaged (size_of kind) s) ≡ k.offset + 1
        long-is = sym (ap length salvaged_is) ∙ ends_with_postamble size s k.windows k.offset ready small

        pub no_room : (r : Salvaged) → r ≡ refusedWith too_short → length out ≤ k.offset → Salvages kind s out r out
        no_room r f l =
            nothing too_short r f
            (unfold salvage_number in rw (unknown, there, eq-eqb (get_or s 0 0) preamble b, lt-ltb (length out) (length (salvaged (size_of kind) s)) (omega (arith, long-is))))
            (λ x. omega (arith, x))

        noted : reaches ≡ reaches_of (windows_of size s k.windows head_length)
        noted = rw (e.1, alone-is)

        many : length reaches ≡ k.windows
        many = ap length e.1 ∙ length-map ws (λ (w : ReadWindow). w.end - w.start) ∙ rw e.0

        pub asks : k.offset < length out
            → (length reaches ≤ 255) × (5 < k.offset) × (k.offset ≤ length s) × (k.offset < length out) × (end_of head_length reaches ≤ k.offset)
        asks l =
            let n : k.windows ≤ 255 = rw e.0 (let f = few size s (count_at s 0) head_length in omega arith) in (
              omega (arith, many),
              omega (arith, long size s k.windows k.offset ready small),
              within size s k.windows k.offset ready small,
              l,
              omega (arith, ap (end_of head_length) noted, reach_ends size s k.windows k.offset ready small),
            )

        pub all : (end : ℕ) (out' : List ℕ) → end ≡ pick (eqb k.number done) (check_stop (get_or s 1 0) s k.offset).number k.number
            → k.offset < length out → out' ≡ laid_over s (length reaches) reaches k.offset out
            → Salvages kind s out
            (record { number = done; kept = k.windows; announced = 255 - get_or s 5 0; end = end; offset = k.offset; length = k.offset + 1 }) out'
        all end out' f l o =
            let a : k.windows ≡ length (given_of (size_of kind) s) = sym (count size s k.windows k.offset ready small) ∙ ap length given_is in
            record {
              answer = rw (number, ← a, ← ended, ← last, long-is);
              output =
                  o
                  ∙ ap (λ (n : ℕ). laid_over s n reaches k.offset out) many
                  ∙ ap (λ (ds : List ℕ). laid_over s k.windows ds k.offset out) noted
                  ∙ stored size s k.windows k.offset ready small out l
                  ∙ ap (λ (u : List ℕ). over u out) salvaged_is
                  ∙ rw number;
            }
          where
            number : salvage_number kind s (length out) ≡ done
            number = unfold salvage_number in rw (unknown, there, eq-eqb (get_or s 0 0) preamble b, le-ltb (length out) (length (salvaged (size_of kind) s)) (omega (arith, long-is, l)))

            ended : end ≡ (stream_stop (size_of kind) first_mode s).number
            ended = f ∙ rw (e.0, ← z) (end_is size s h b)

            last : k.offset ≡ offset_of (size_of kind) s
            last = unfold offset_of in rw (e.0, z)
