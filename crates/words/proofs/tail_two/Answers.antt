-- `words::tail_two` meets its contract: two words that overlap. Assumes nothing.
use mathlib.Core.Path.{ap, ◌∙◌}
use Prim.Native.Nat.{ℕ, ◌+◌, ◌-◌}
use native.Mathlib.Omega.{arith}
use lib.Seq.{sets}
use Rattle.words.specs.Bytes.{bytes_of}
use Rattle.words.proofs.Bytes.{length-bytes_of}
use Rattle.words.proofs.Stores.{tailed}
use Rattle.words.proofs.tail_two.Goals as goal

pub returns : goal.returns
returns g c =
    let a = c.SIZE.ensures in
    let b = c.SIZE-2.ensures in
    let d = c.SIZE-3.ensures in
    let at = c.args.end + c.args.z - (c.SIZE.result + c.SIZE-2.result) in
    let v = bytes_of g.Y.Word.SIZE (g.Y.Word.value c.args.y) in
    let n = length-bytes_of g.Y.Word.SIZE (g.Y.Word.value c.args.y) in
    let first = c.put.ensures ∙ ap (λ (w : ℕ). sets c.args.buf.now at (bytes_of g.X.Word.SIZE w)) c.without.ensures in (
      omega arith,
      c.put-2.ensures ∙ rw first (tailed c.args.buf.now at (c.args.end - c.SIZE-3.result) g.X.Word.SIZE c.args.z (g.X.Word.value c.args.x) v (omega arith) (omega arith) (omega arith)),
    )
