-- A place with one field replaced, and a chain likewise: antt has no record update. Assumes nothing.
use Rattle.std.specs.Prelude.{ℕ}
use Rattle.chain.specs.declared.Chain.{Chain}
use Rattle.chain.specs.declared.Place.{Place}

abbrev pub with_running : Place → ℕ → Place
with_running p v =
    record { running = v; mode = p.mode; check = p.check; device = p.device; awaited = p.awaited; left = p.left; control = p.control; start = p.start; end = p.end; next = p.next; taken = p.taken; mismatches = p.mismatches }

abbrev pub with_mode : Place → ℕ → Place
with_mode p v =
    record { running = p.running; mode = v; check = p.check; device = p.device; awaited = p.awaited; left = p.left; control = p.control; start = p.start; end = p.end; next = p.next; taken = p.taken; mismatches = p.mismatches }

abbrev pub with_check : Place → ℕ → Place
with_check p v =
    record { running = p.running; mode = p.mode; check = v; device = p.device; awaited = p.awaited; left = p.left; control = p.control; start = p.start; end = p.end; next = p.next; taken = p.taken; mismatches = p.mismatches }

abbrev pub with_device : Place → ℕ → Place
with_device p v =
    record { running = p.running; mode = p.mode; check = p.check; device = v; awaited = p.awaited; left = p.left; control = p.control; start = p.start; end = p.end; next = p.next; taken = p.taken; mismatches = p.mismatches }

abbrev pub with_awaited : Place → ℕ → Place
with_awaited p v =
    record { running = p.running; mode = p.mode; check = p.check; device = p.device; awaited = v; left = p.left; control = p.control; start = p.start; end = p.end; next = p.next; taken = p.taken; mismatches = p.mismatches }

abbrev pub with_left : Place → ℕ → Place
with_left p v =
    record { running = p.running; mode = p.mode; check = p.check; device = p.device; awaited = p.awaited; left = v; control = p.control; start = p.start; end = p.end; next = p.next; taken = p.taken; mismatches = p.mismatches }

abbrev pub with_control : Place → ℕ → Place
with_control p v =
    record { running = p.running; mode = p.mode; check = p.check; device = p.device; awaited = p.awaited; left = p.left; control = v; start = p.start; end = p.end; next = p.next; taken = p.taken; mismatches = p.mismatches }

abbrev pub with_start : Place → ℕ → Place
with_start p v =
    record { running = p.running; mode = p.mode; check = p.check; device = p.device; awaited = p.awaited; left = p.left; control = p.control; start = v; end = p.end; next = p.next; taken = p.taken; mismatches = p.mismatches }

abbrev pub with_end : Place → ℕ → Place
with_end p v =
    record { running = p.running; mode = p.mode; check = p.check; device = p.device; awaited = p.awaited; left = p.left; control = p.control; start = p.start; end = v; next = p.next; taken = p.taken; mismatches = p.mismatches }

abbrev pub with_next : Place → ℕ → Place
with_next p v =
    record { running = p.running; mode = p.mode; check = p.check; device = p.device; awaited = p.awaited; left = p.left; control = p.control; start = p.start; end = p.end; next = v; taken = p.taken; mismatches = p.mismatches }

abbrev pub with_taken : Place → ℕ → Place
with_taken p v =
    record { running = p.running; mode = p.mode; check = p.check; device = p.device; awaited = p.awaited; left = p.left; control = p.control; start = p.start; end = p.end; next = p.next; taken = v; mismatches = p.mismatches }

abbrev pub with_mismatches : Place → ℕ → Place
with_mismatches p v =
    record { running = p.running; mode = p.mode; check = p.check; device = p.device; awaited = p.awaited; left = p.left; control = p.control; start = p.start; end = p.end; next = p.next; taken = p.taken; mismatches = v }

abbrev pub with_place : Chain → Place → Chain
with_place c p = record { count = c.count; kinds = c.kinds; registers = c.registers; place = p }

-- no run open: every field zero
abbrev pub closed_place : Place
closed_place =
    record { running = 0; mode = 0; check = 0; device = 0; awaited = 0; left = 0; control = 0; start = 0; end = 0; next = 0; taken = 0; mismatches = 0 }
