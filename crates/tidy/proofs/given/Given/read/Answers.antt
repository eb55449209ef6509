use Rattle.std.proofs.Common.{rules, ◌≡◌, refl, Ok, arith}
use Rattle.tidy.proofs.Answers.{head-there, windows-whole}
use Rattle.tidy.proofs.given.Given.read.Goals as goal

pub bounds-s-5 : goal.bounds-s-5
bounds-s-5 c =
    let q : c.read_stream.result ≡ Ok c.in_ok-map_err.field-0 = search rules in
    let h = head-there c.size-size.result c.args.s.now _ (rw q at c.read_stream.ensures) refl in
    omega arith

pub invariant_of-result : goal.invariant_of-result
invariant_of-result c =
    let q : c.read_stream.result ≡ Ok c.in_ok-map_err.field-0 = search rules in
    record {
      head = head-there c.size-size.result c.args.s.now _ (rw q at c.read_stream.ensures) refl;
      count = refl;
      whole = windows-whole c.size-size.result c.args.s.now _ (rw q at c.read_stream.ensures) refl;
      small = omega (arith, c.size-size.ensures.bounds);
    }
