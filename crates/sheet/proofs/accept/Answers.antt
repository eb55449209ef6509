use Rattle.std.proofs.Common.{rules, sym, ap, ◌≡◌, ◌∙◌, true}
use Rattle.chain.specs.Paper.{first_mode, two_preambles, bad_chain, bad_mode}
use Rattle.chain.specs.Rules.{from}
use Rattle.chain.specs.Kinds.{size_of}
use Rattle.chain.specs.Refusal.{answered}
use Rattle.sheet.proofs.Loading.{mode_known}
use Rattle.sheet.proofs.Numbers.{too_many, other-sum, too_long, unknown_kind, other-mode, few_numbers, few_figures, none_of_these, kind_known}
use Rattle.sheet.proofs.accept.Goals.{then-n-gt-MOST_STREAMS-via-then-n-gt-MOST_STREAMS, then-n-gt-MOST_STREAMS-via-else-n-gt-MOST_STREAMS+then-total-streams, then-n-gt-MOST_STREAMS-via-else-n-gt-MOST_STREAMS+else-total-streams+then-streams-gt-MOST_BYTES, then-numbers-n-via-then-numbers-n, then-numbers-n-via-else-numbers-n+then-figures-n}
use Rattle.sheet.proofs.accept.Goals as goal

-- `sheet::accept` meets its contract. Assumes nothing.
pub returns-then-n-gt-MOST_STREAMS-clause-number : goal.returns-then-n-gt-MOST_STREAMS-clause-number
returns-then-n-gt-MOST_STREAMS-clause-number c =
    let a = c.args in
    elim c.then-n-gt-MOST_STREAMS.branch [
      | then-n-gt-MOST_STREAMS-via-then-n-gt-MOST_STREAMS w ↦ too_many a.kind a.mode a.streams.now a.lengths.now a.numbers a.figures w.if-n-gt-MOST_STREAMS.true
      | then-n-gt-MOST_STREAMS-via-else-n-gt-MOST_STREAMS+then-total-streams w ↦
          other-sum a.kind a.mode a.streams.now a.lengths.now a.numbers a.figures w.if-n-gt-MOST_STREAMS.false (λ e. w.if-total-streams.true (w.total.ensures ∙ e))
      | then-n-gt-MOST_STREAMS-via-else-n-gt-MOST_STREAMS+else-total-streams+then-streams-gt-MOST_BYTES w ↦
          too_long a.kind a.mode a.streams.now a.lengths.now a.numbers a.figures w.if-n-gt-MOST_STREAMS.false (sym w.total.ensures ∙ w.if-total-streams.false)
          w.if-streams-gt-MOST_BYTES.true
    ]

pub returns-in_err-kind-clause-number : goal.returns-in_err-kind-clause-number
returns-in_err-kind-clause-number c =
    let a = c.args in
    let e : answered c.from_residual.result ≡ bad_chain = search rules in
    e ∙ unknown_kind a.kind a.mode a.streams.now a.lengths.now a.numbers a.figures c.if-n-gt-MOST_STREAMS.false (sym c.total.ensures ∙ c.if-total-streams.false)
    c.if-streams-gt-MOST_BYTES.false c.in_err-kind.ensures.1

pub returns-in_err-mode-clause-number : goal.returns-in_err-mode-clause-number
returns-in_err-mode-clause-number c =
    let a = c.args in
    let known : size_of a.kind ≡ 0 → ⊥ = λ z. kind_known c.in_ok-kind.kind (ap size_of c.in_ok-kind.ensures ∙ z) in
    let e : answered c.from_residual-in_err-mode.result ≡ bad_mode = search rules in
    e ∙ other-mode a.kind a.mode a.streams.now a.lengths.now a.numbers a.figures c.if-n-gt-MOST_STREAMS.false (sym c.total.ensures ∙ c.if-total-streams.false)
    c.if-streams-gt-MOST_BYTES.false known c.in_err-mode.ensures.1

pub returns-then-numbers-n-clause-number : goal.returns-then-numbers-n-clause-number
returns-then-numbers-n-clause-number c =
    let a = c.args in
    let known : size_of a.kind ≡ 0 → ⊥ = λ z. kind_known c.in_ok-kind.kind (ap size_of c.in_ok-kind.ensures ∙ z) in
    let good : from first_mode two_preambles a.mode ≡ true = ap (from first_mode two_preambles) (sym c.in_ok-mode.ensures) ∙ mode_known c.in_ok-mode.mode in
    let exact = sym c.total.ensures ∙ c.if-total-streams.false in
    elim c.then-numbers-n.branch [
      | then-numbers-n-via-then-numbers-n w ↦
          few_numbers a.kind a.mode a.streams.now a.lengths.now a.numbers a.figures c.if-n-gt-MOST_STREAMS.false exact c.if-streams-gt-MOST_BYTES.false known good
          w.if-numbers-n.true
      | then-numbers-n-via-else-numbers-n+then-figures-n w ↦
          few_figures a.kind a.mode a.streams.now a.lengths.now a.numbers a.figures c.if-n-gt-MOST_STREAMS.false exact c.if-streams-gt-MOST_BYTES.false known good
          w.if-numbers-n.false w.if-figures-n.true
    ]

pub returns-clause-number : goal.returns-clause-number
returns-clause-number c =
    let a = c.args in
    let known : size_of a.kind ≡ 0 → ⊥ = λ z. kind_known c.in_ok-kind.kind (ap size_of c.in_ok-kind.ensures ∙ z) in
    let good : from first_mode two_preambles a.mode ≡ true = ap (from first_mode two_preambles) (sym c.in_ok-mode.ensures) ∙ mode_known c.in_ok-mode.mode in
    none_of_these a.kind a.mode a.streams.now a.lengths.now a.numbers a.figures c.if-n-gt-MOST_STREAMS.false (sym c.total.ensures ∙ c.if-total-streams.false)
    c.if-streams-gt-MOST_BYTES.false known good c.if-numbers-n.false c.if-figures-n.false
