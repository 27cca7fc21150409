-- `eights::eight` meets its contract: four pairs, and the digits of each. Assumes nothing.
use mathlib.Core.Path.{◌≡◌, ap, ◌∙◌}
use Prim.Native.Nat.{ℕ, ◌+◌, ◌*◌, ◌-◌, ◌/◌, ◌%◌, ◌^◌, ◌<◌}
use native.Mathlib.Nat.{div-add-mod', mod-eq_of_lt}
use native.Mathlib.Omega.{arith}
use Rattle.eights.specs.Steps.{pairs_of}
use Rattle.eights.proofs.Lanes.{four_of, pairs-low, pairs-high, pairs_small, pairs-four, div_is, mod-is}
use Rattle.words.specs.Bytes.{bytes_of}
use Rattle.eights.proofs.Bytes.{bytes-eight_of}
use Rattle.eights.proofs.eight.Goals as goal

arg : (n : ℕ) → n < 100000000 → n / 10000 + (n - n / 10000 * 10000) * 2 ^ 32 % 2 ^ 64 ≡ n % 10000 * 4294967296 + n / 10000
arg n h =
    let d : n - n / 10000 * 10000 ≡ n % 10000 = omega (arith, div-add-mod' n 10000) in
    let e : n % 10000 * 2 ^ 32 % 2 ^ 64 ≡ n % 10000 * 4294967296 = mod-eq_of_lt (omega arith) in
    rw (d, e) (omega arith)

-- what pairs2 gives for the two halves of n
got : (n x : ℕ) → n < 100000000 → x ≡ n % 10000 * 4294967296 + n / 10000 →
    pairs_of (x / 4294967296) * 4294967296 + pairs_of (x % 4294967296) ≡ pairs_of (n % 10000) * 4294967296 + pairs_of (n / 10000)
got n x h e =
    rw (div_is (n % 10000) (n / 10000) 4294967296 e (omega arith), mod-is (n % 10000) (n / 10000) 4294967296 e (omega arith))

module _ (n p : ℕ) (h : n < 100000000) (e : p ≡ pairs_of (n % 10000) * 4294967296 + pairs_of (n / 10000)) where
  low : p % 4294967296 ≡ pairs_of (n / 10000)
  low = mod-is (pairs_of (n % 10000)) (pairs_of (n / 10000)) 4294967296 e (pairs_small (n / 10000) (omega arith))

  high : p / 4294967296 ≡ pairs_of (n % 10000)
  high = div_is (pairs_of (n % 10000)) (pairs_of (n / 10000)) 4294967296 e (pairs_small (n / 10000) (omega arith))

pub tens4-requires : goal.tens4-requires
tens4-requires c =
    let e = c.pairs2.ensures ∙ got c.args.n _ c.requires (arg c.args.n c.requires) in
    let q : c.args.n / 10000 < 10000 = omega arith in
    let r : c.args.n % 10000 < 10000 = omega arith in
    rw (low c.args.n _ c.requires e, high c.args.n _ c.requires e, pairs-low (c.args.n / 10000) q, pairs-high (c.args.n / 10000) q, pairs-low (c.args.n % 10000) r, pairs-high (c.args.n % 10000) r)
    (omega arith, omega arith, omega arith, omega arith)

pub returns : goal.returns
returns c =
    let e = c.pairs2.ensures ∙ got c.args.n _ c.requires (arg c.args.n c.requires) in
    let q : c.args.n / 10000 < 10000 = omega arith in
    let r : c.args.n % 10000 < 10000 = omega arith in
    let w : c.tens4.result ≡ four_of (c.args.n % 10000) * 4294967296 + four_of (c.args.n / 10000) = c.tens4.ensures ∙ rw (low c.args.n _ c.requires e, high c.args.n _ c.requires e, pairs-four (c.args.n / 10000) q, pairs-four (c.args.n % 10000) r) in
    ap (bytes_of 8) w ∙ bytes-eight_of c.args.n c.requires
