-- `bit_eights::octal` meets its contract: up to eight, up to sixteen, and eight more. Assumes nothing.
use mathlib.Core.Path.{◌≡◌, refl}
use Prim.Native.Nat.{ℕ, ◌-◌, ◌/◌, ◌%◌, ◌≤◌, ◌<◌}
use native.Mathlib.Nat.{lt_of_lt_of_le}
use native.Mathlib.Omega.{arith}
use lib.Dec.{lit<, lit≤}
use lib.ListN.{length}
use Rattle.buffer.proofs.Left.{Left, left-start}
use Rattle.digits.specs.Text.{ascii, text, last_text}
use Rattle.digits.proofs.Text.{last_text-mod, text-most}
use Rattle.lanes.proofs.Tails.{tail-ended}
use Rattle.bit_eights.proofs.Eights.{eight-less, eight-store, last-sixteen}
use Rattle.bit_eights.proofs.octal.Goals as goal
use Rattle.bit_eights.proofs.octal.Goals.{Start}

big : 1 < 8
big = lit< tt

last-eight : (n : ℕ) → last_text ascii 8 8 (n % 16777216) ≡ last_text ascii 8 8 n
last-eight n = last_text-mod ascii 8 big 8 n

-- all of it is left
whole : (s : Start) → let t = text ascii 8 s.args.n in Left s.args.buf.now s.args.end t t s.args.end s.args.buf.now
whole s = let t = text ascii 8 s.args.n in left-start s.args.buf.now s.args.end t t refl (omega (arith, s.requires.0, s.requires.2)) s.requires.3

most : (s : Start) → s.args.len ≤ 22
most s = omega (arith, s.requires.0, text-most ascii 8 big 22 s.args.n (lit< tt) (lt_of_lt_of_le s.ranges.n.fits (lit≤ tt)))

pub returns-then-len-le8 : goal.returns-then-len-le8
returns-then-len-le8 c =
    tail-ended ascii 8 big c.args.buf.now c.args.end c.args.n 8 (8 - c.args.len) (omega (arith, c.requires.0, c.if-len-le8.true)) (omega (arith, c.requires.0, c.requires.2)) c.requires.3
    c.tail.ensures.0 (rw (c.eight_octal-last.ensures, last-eight c.args.n) at c.tail.ensures.1)

pub returns-then-len-le16 : goal.returns-then-len-le16
returns-then-len-le16 c =
    last-sixteen ascii 3 (lit< tt) c.args.n c.args.len (whole (goal.at.returns-then-len-le16 c).Start) c.requires.0 (omega (arith, c.if-len-le8.false)) c.if-len-le16.true c.tail_two.ensures.0
    (rw (c.eight_octal-back.ensures, c.eight_octal-last.ensures, last-eight (c.args.n / 16777216), last-eight c.args.n) at c.tail_two.ensures.1)

pub overflow_sub-len-2 : goal.overflow_sub-len-2
overflow_sub-len-2 c = omega (arith, most (goal.at.overflow_sub-len-2 c).Start)

pub returns : goal.returns
returns c =
    let h : 8 < length (text ascii 8 c.args.n) = omega (arith, c.requires.0, c.if-len-le16.false) in
    let rest = eight-store ascii 3 (lit< tt) c.args.n (c.args.end - 8) (whole (goal.at.returns c).Start) h (omega (arith, c.requires.2, c.if-len-le16.false)) in
    let z : 24 - c.args.len ≡ 16 - (c.args.len - 8) = omega (arith, c.if-len-le16.false) in
    last-sixteen ascii 3 (lit< tt) (c.args.n / 16777216) (c.args.len - 8) rest (omega (arith, c.requires.0, eight-less ascii 3 (lit< tt) c.args.n h)) (omega (arith, c.if-len-le16.false)) (omega (arith, most (goal.at.returns c).Start)) (rw z at c.tail_two-2.ensures.0)
    (rw (c.put.ensures, c.eight_octal-last.ensures, last-eight c.args.n, c.eight_octal-front.ensures, c.eight_octal-back.ensures, last-eight (c.args.n / 16777216), z) at c.tail_two-2.ensures.1)
