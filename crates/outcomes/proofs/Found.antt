-- What was found of a text, by whether its number has 64 bits.
-- Assumes nothing.
use Rattle.std.specs.Prelude.{Ok, Err}
use mathlib.Core.List.{List}
use mathlib.Core.Path.{◌∙◌}
use Prim.Native.Nat.{ℕ}
use native.Mathlib.Omega.{arith}
use Rattle.kinds.specs.declared.Split.{Split}
use Rattle.outcomes.specs.declared.Fault.{Fault}
use Rattle.outcomes.specs.declared.WideSplit.{WideSplit}
use Rattle.outcomes.specs.Found.{Numbered, IsNumber, IsBeyond, IsFound, SplitOf}

module _ {F : Numbered} {t : List ℕ} {n : WideSplit} (N : IsFound F t n) where
  pub held-number : {s : Split} → SplitOf n (Ok s) → IsNumber F t s
  held-number p = record { parts = N.parts; reads = N.reads; canonical = N.canonical; sign = N.sign ∙ p.0; held = (rw p.1 at N.held).1 }

  pub over-beyond : {e : Fault} → SplitOf n (Err e) → IsBeyond F t
  over-beyond p = let h = rw p.0 at N.held in record { parts = N.parts; reads = N.reads; canonical = N.canonical; beyond = omega (arith, h) }
