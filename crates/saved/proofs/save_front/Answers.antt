use Rattle.std.proofs.Common.{◌≡◌, ◌∙◌, sym, ap, rules, length, ℕ, ◌<◌, ◌≤◌, ◌^◌, get_or, Fits, w8, List, ◌++◌, drop, Err, arith}
use borrow.Author.Tests.{lt-ltb, le-ltb, eqb-false}
use lib.Dec.{lit<}
use Rattle.chain.specs.Paper.{done}
use Rattle.chain.specs.Refusal.{number_of}
use Rattle.chain.specs.State.{open_number}
use Rattle.chain.proofs.Numbers.{open_none}
use Rattle.chain.proofs.PassedUp.{not_done}
use Rattle.saved.specs.Layout.{saved_in, saved_bytes}
use Rattle.saved.proofs.Ranged.{Ranged, fits}
use Rattle.saved.proofs.Formed.{open_well, narrow}
use Rattle.saved.proofs.Answers.{writes-off, writes-on, save_refused, save-asked}
use Rattle.saved.proofs.save_front.Goals as goal

pub returns-in_err-open : goal.returns-in_err-open
returns-in_err-open c =
    let a = c.args in
    let e = c.in_err-open.field-0.0 in
    let n : number_of e ≡ open_number a.c a.len = search rules in
    let up : c.from_residual.result ≡ Err e = search rules in
    rw up
    (writes-off (saved_bytes a.c.registers a.c.place) a.out.now
    (save_refused a.c a.len (length a.out.now) (λ q. eqb-false (number_of e) done (not_done e) (n ∙ q)) ∙ sym n) (eqb-false (number_of e) done (not_done e)))

pub returns-in_default : goal.returns-in_default
returns-in_default c =
    let a = c.args in
    let e : open_number a.c a.len ≡ done = search rules in
    let l : length a.out.now < 27 = search rules in
    writes-off (saved_bytes a.c.registers a.c.place) a.out.now
    (save-asked a.c a.len (length a.out.now) e ∙ simp (lt-ltb _ _ l)) (λ q. omega arith)

pub bytes-requires : goal.bytes-requires
bytes-requires c =
    let a = c.args in
    let e : open_number a.c a.len ≡ done = search rules in
    let o = open_none a.c a.len e in
    let n = narrow a.c a.len a.c.registers a.c.place o.0 (open_well a.c o.1.0 o.1.1.0).1 in
    let register : (i : ℕ) → get_or a.c.registers i 0 < 2 ^ 8 = λ i. (let f : Fits w8 (get_or a.c.registers i 0) = search rules in f.fits) in
    let ranged : Ranged a.c.registers a.c.place =
    record {
      eight = search rules;
      register = register;
      left = search rules;
      control = search rules;
      start = search rules;
      end = search rules;
      taken = search rules;
      mismatches = search rules;
    } in
    let next : a.c.place.next < 2 ^ 16 = search rules in
    fits 1 a.c.registers a.c.place (lit< tt) ranged n next

pub returns : goal.returns
unfolding saved_in
returns c =
    let a = c.args in
    let e : open_number a.c a.len ≡ done = search rules in
    let l : 27 ≤ length a.out.now = search rules in
    let r = writes-on (saved_bytes a.c.registers a.c.place) a.out.now
    (save-asked a.c a.len (length a.out.now) e ∙ simp (le-ltb _ _ l)) in
    record { answer = r.answer; output = ap (λ (x : List ℕ). x ++ drop 27 a.out.now) c.bytes.ensures ∙ r.output }
