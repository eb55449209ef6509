-- Of every loader whose salvage keeps its promise: it salvages the streams whose first six bytes are in order, and no others, and writes the stream of the
-- kept windows; with clause (a) of the second demand that loads as these windows. Assumes nothing.
use Prim.Native.Nat.{ℕ, ◌+◌, ◌≤◌}
use mathlib.Core.Bool.{true≢false}
use mathlib.Core.Path.{◌≡◌, refl, ap, sym, ◌∙◌}
use mathlib.Core.List.{List}
use native.Mathlib.Omega.{arith}
use lib.Dec.{eqb}
use lib.ListN.{length, get_or}
use lib.Seq.{take-append_seam}
use Rattle.chain.specs.Paper.{preamble, writing, first_mode, done}
use Rattle.chain.specs.Kinds.{size_of}
use Rattle.chain.specs.WellFormed.{Known}
use Rattle.chain.specs.Output.{over}
use Rattle.chain.specs.Calls.{no_chain}
use Rattle.chain.specs.Table.{NoneOf}
use Rattle.chain.proofs.ByCases.{by_test, by_eq}
use Rattle.chain.proofs.BadChain.{m_known, m_unknown}
use Rattle.chain.proofs.Table.{else_of}
use Rattle.salvage.specs.declared.Salvaged.{Salvaged}
use Rattle.salvage.specs.Salvage.{salvaged, salvage_number, changes_of}
use Rattle.demands.specs.Loader.{Loader, AfterSalvage, rescued}
use Rattle.demands.specs.Demand2.{Demand2a}
use Rattle.demands.specs.Table.{salvage_table}
use Rattle.demands.specs.Ours.{ours}
use Rattle.demands.specs.OldDisks.{KeepsSalvage, Rescued, InOrder, InOrderExactly, kept_section, SoundAlways}
use Rattle.demands.proofs.Loads.StreamA.{mode-one}
use Rattle.demands.proofs.Numbers.SalvageTables.{salvage_table_lem}
use Rattle.demands.proofs.Files.WrittenLoads.{written_loads}
use Rattle.demands.proofs.Salvage.KeptWindows.{kept-nulled, kept_fits, salvaged_is, kept_small, offset-inside, salvaged_long}

-- ---- a number 0

is_known : (kind : ℕ) → ((Known kind → ⊥) → ⊥) → Known kind
is_known kind h = by_test (eqb (size_of kind) 0) (λ e. absurd (h ((m_unknown kind).says e))) (λ e. (m_known kind).says e)

-- ---- what was salvaged

module _ (l : Loader) (keeps : KeepsSalvage l) (kind : ℕ) (s out : List ℕ) where
  abbrev size : ℕ
  size = size_of kind

  abbrev w : AfterSalvage
  w = l.salvage kind s out

  number_is : w.salvaged.number ≡ salvage_number kind s (length out)
  number_is = ap (λ (r : Salvaged). r.number) (keeps kind s out).answer

  pub is_done : InOrder kind s → length (salvaged size s) ≤ length out → Rescued w
  is_done o h =
      number_is
      ∙ (else_of (salvage_table kind s out) (salvage_number kind s (length out)) done (salvage_table_lem kind s out)).1
      ((λ n. n o.known), ((λ n. omega (arith, n, o.six)), ((λ n. n o.first), ((λ n. omega (arith, n, h)), tt))))

  module _ (z : Rescued w) where
    zero : salvage_number kind s (length out) ≡ done
    zero = sym number_is ∙ z

    none : NoneOf (salvage_table kind s out)
    none = (else_of (salvage_table kind s out) (salvage_number kind s (length out)) done (salvage_table_lem kind s out)).0 zero

    pub in_order : InOrder kind s
    in_order =
        record {
          known = is_known kind none.0;
          six = omega (arith, none.1.0);
          first = by_eq (get_or s 0 0) preamble (λ e. e) (λ e. absurd (none.1.1.0 e));
        }

    pub changes_are : w.salvaged ≡ changes_of size s done
    changes_are = (keeps kind s out).answer ∙ ap (changes_of size s) zero

    pub rescued_is : rescued w ≡ salvaged size s
    rescued_is = rw ((keeps kind s out).answer, (keeps kind s out).output, zero) (take-append_seam (salvaged size s) _)

    told_is : w.salvaged.length ≡ length (rescued w)
    told_is = ap (λ (r : Salvaged). r.length) changes_are ∙ ap length (sym rescued_is)

    inside_is : length (rescued w) ≤ length out
    inside_is = omega (arith, ap length rescued_is, none.1.1.1.0)

    output_is : w.out ≡ over (rescued w) out
    output_is = (keeps kind s out).output ∙ rw (zero, rescued_is)

-- ---- the claims

pub in_order_exactly : (l : Loader) → KeepsSalvage l → InOrderExactly l
in_order_exactly l keeps kind s out u =
    let size : ℕ = size_of kind in
    record {
      only = in_order l keeps kind s out;
      room = λ o h. is_done l keeps kind s out o (omega (arith, h, salvaged_long size s u o.six, offset-inside size s o.six));
      enough = λ z out' h.
          is_done l keeps kind s out' (in_order l keeps kind s out z) (omega (arith, h, ap (λ (r : Salvaged). r.length) (changes_are l keeps kind s out z)));
    }

pub sound_always : (l : Loader) → Demand2a l → KeepsSalvage l → SoundAlways l
sound_always l meets keeps kind s out u z =
    let size : ℕ = size_of kind in
    let a = changes_are l keeps kind s out z in
    let b = rescued_is l keeps kind s out z in
    let o = in_order l keeps kind s out z in
    record {
      told = told_is l keeps kind s out z;
      inside = inside_is l keeps kind s out z;
      output = output_is l keeps kind s out z;
      kept = ap (λ (r : Salvaged). r.kept) a;
      offset = ap (λ (r : Salvaged). r.offset + 1) a ∙ sym (salvaged_long size s u o.six) ∙ ap length (sym b);
      bytes = λ c. b ∙ salvaged_is size s c;
      loads = λ c m d.
          written_loads kind first_mode (kept_section size s) (kept_fits size s) (kept-nulled size s) (kept_small size s u) l meets
          (rescued (l.salvage kind s out)) (b ∙ salvaged_is size s no_chain) c m writing d.idle mode-one d.first
          (record { b4 = d.clear; b3 = λ e. absurd (true≢false e); sent_b3 = λ e. absurd (true≢false e) });
    }

-- ---- ours keeps its promise

pub salvage_kept : KeepsSalvage ours
salvage_kept kind s out = record { answer = refl; output = refl }
