-- What a byte leaves of the place: running, mode, check and the counts are not the advance's. Assumes nothing.
use Rattle.std.proofs.Common.{◌≡◌, ℕ, ◌+◌, Bool, ltb, leb, refl}
use Rattle.chain.specs.declared.Place.{Place}
use Rattle.chain.specs.Rules.{pick}
use Rattle.chain.proofs.ByCases.{either_way}
use Rattle.awaited.specs.Byte.{passed_of, advance_of}

pub record Frame (p q : Place) : Type 0 where
  pub running : q.running ≡ p.running
  pub mode : q.mode ≡ p.mode
  pub check : q.check ≡ p.check
  pub taken : q.taken ≡ p.taken
  pub mismatches : q.mismatches ≡ p.mismatches

-- every field is the same by computation
framed : {p q : Place} → q.running ≡ p.running → q.mode ≡ p.mode → q.check ≡ p.check → q.taken ≡ p.taken
    → q.mismatches ≡ p.mismatches → Frame p q
framed a b c d e = record { running = a; mode = b; check = c; taken = d; mismatches = e }

frame-pick : (p : Place) (t : Bool) (x y : Place) → Frame p x → Frame p y → Frame p (pick t x y)
frame-pick p t x y f g = either_way (Frame p) t x y f g

-- data bytes stay in their device
pub passed_device : (p : Place) (n : ℕ) → (passed_of p n).device ≡ p.device
unfolding passed_of
passed_device p n =
    either_way (λ (q : Place). q.device ≡ p.device) (leb (p.next + n) p.end) _ _ refl
    (either_way (λ (q : Place). q.device ≡ p.device) (ltb 1 p.left) _ _ refl refl)

pub advance_frame : (p : Place) (b : ℕ) → Frame p (advance_of p b)
unfolding advance_of passed_of
advance_frame p b = search (frame-pick, framed) depth 40 fits 5000
