-- `words::tail` meets its contract: two halves that overlap. Assumes nothing.
use mathlib.Core.Path.{◌≡◌, ap, ◌∙◌}
use Prim.Native.Nat.{ℕ, ◌+◌, ◌-◌, ◌*◌, ◌/◌, ◌^◌}
use native.Mathlib.Omega.{arith}
use lib.ListN.{drop}
use lib.Seq.{sets}
use Rattle.words.specs.Bytes.{bytes_of}
use Rattle.words.proofs.Stores.{tailed-whole}
use Rattle.words.proofs.tail.Goals as goal

pub without-requires : goal.without-requires
without-requires g c = let s = g.met.X.Word.sized in omega arith

pub without-requires-2 : goal.without-requires-2
without-requires-2 g c = let s = g.met.X.Word.sized in omega arith

pub returns : goal.returns
returns g c =
    let s = g.met.X.Word.sized in
    let a = c.SIZE.ensures in
    let b = c.SIZE-3.ensures in
    let v = g.X.Word.value c.args.x in
    let h = g.X.Word.SIZE / 2 in
    let low = c.put_low.ensures ∙ ap (λ (w : ℕ). sets c.args.buf.now (c.args.end + c.args.z - c.SIZE.result) (bytes_of h w)) c.without.ensures in
    let i : c.SIZE-2.result / 2 * 8 ≡ h * 8 = ap (λ (k : ℕ). k / 2 * 8) c.SIZE-2.ensures in
    let high : g.X.Word.value c.without-2.result ≡ v / 2 ^ (h * 8) = c.without-2.ensures ∙ ap (λ (k : ℕ). v / 2 ^ k) i in (
      ap (λ (k : ℕ). c.args.end + c.args.z - k) a,
      c.put_low-2.ensures ∙ rw (low, high) (tailed-whole c.args.buf.now (c.args.end + c.args.z - c.SIZE.result) (c.args.end - c.SIZE-3.result / 2) h h c.args.z v c.requires.0 c.requires.0 (omega arith))
          ∙ ap (λ (k : ℕ). sets c.args.buf.now (c.args.end + c.args.z - c.SIZE.result) (drop c.args.z (bytes_of k v))) s.2,
    )
