-- How large the fields of a place are: by their declared types, and, where they have fewer bits when saved, by 'Well formed'. Assumes nothing.
use Prim.Native.Nat.{ℕ, ◌^◌, ◌<◌}
use mathlib.Core.Path.{◌≡◌}
use mathlib.Core.List.{List}
use lib.ListN.{length, get_or}
use lib.Dec.{lit<}
use Rattle.chain.specs.declared.Place.{Place}
use Rattle.saved.specs.Fields.{Fit}
use Rattle.saved.specs.Layout.{rows, widths, values}

-- u8, u16 and u32, and eight registers: so are the fields of every chain that a caller can lend
pub record Ranged (registers : List ℕ) (p : Place) : Type 0 where
  pub eight : length registers ≡ 8
  pub register : (i : ℕ) → get_or registers i 0 < 2 ^ 8
  pub left : p.left < 2 ^ 8
  pub control : p.control < 2 ^ 8
  pub start : p.start < 2 ^ 16
  pub end : p.end < 2 ^ 16
  pub taken : p.taken < 2 ^ 32
  pub mismatches : p.mismatches < 2 ^ 32

-- what a well-formed place adds
pub record Narrow (p : Place) : Type 0 where
  pub mode : p.mode < 2 ^ 3
  pub check : p.check < 2 ^ 1
  pub device : p.device < 2 ^ 3
  pub awaited : p.awaited < 2 ^ 4

-- so every value fits its row
pub fits : (n : ℕ) (g : List ℕ) (p : Place) → n < 2 ^ 4 → Ranged g p → Narrow p → p.next < 2 ^ 16 → Fit (widths rows) (values n rows g p)
fits n g p k r w t = (
  k,
  (
    w.mode,
    (
      w.check,
      (
        w.device,
        (
          w.awaited,
          (
            lit< tt,
            (
              r.left,
              (
                lit< tt,
                (
                  r.start,
                  (
                    r.end,
                    (
                      t,
                      (
                        r.taken,
                        (
                          r.mismatches,
                          (
                            r.register 0,
                            (
                              r.register 1,
                              (
                                r.register 2,
                                (
                                  r.register 3,
                                  (
                                    r.register 4,
                                    (
                                      r.register 5,
                                      (
                                        r.register 6,
                                        (
                                          r.register 7,
                                          (r.control, tt),
                                        ),
                                      ),
                                    ),
                                  ),
                                ),
                              ),
                            ),
                          ),
                        ),
                      ),
                    ),
                  ),
                ),
              ),
            ),
          ),
        ),
      ),
    ),
  ),
)
