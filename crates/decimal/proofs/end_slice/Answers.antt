-- `decimal::end_slice` meets its contract: from the start on, the buffer is the text, or nothing. Assumes nothing.
use mathlib.Core.Path.{refl, ap, ◌∙◌}
use Prim.Native.Nat.{ℕ, ◌+◌, ◌-◌}
use native.Mathlib.Omega.{arith}
use lib.ListN.{length, drop, length-drop}
use lib.Seq.{take_all}
use Rattle.decimal.proofs.Ends.{start-within, from_start}
use Rattle.decimal.proofs.end_slice.Goals as goal

pub slice_bounds-result-count : goal.slice_bounds-result-count
slice_bounds-result-count g c = start-within c.end_at-at.ensures

pub slice_bounds-out-start : goal.slice_bounds-out-start
slice_bounds-out-start g c = start-within c.end_at-at.ensures

pub returns : goal.returns
returns g c = (
  take_all (length c.end_at-at.new.out - c.end_at-at.result) (drop c.end_at-at.result c.end_at-at.new.out) (omega (arith, length-drop c.end_at-at.result c.end_at-at.new.out)) ∙ from_start c.end_at-at.ensures,
  refl,
  ap (λ (k : ℕ). k + c.args.out.ref_ptr.1) c.end_at-at.ensures.answers,
)
