-- `hex_digits::write` meets its contract: one digit, or the last four, eight or sixteen without the zeros in front. Assumes nothing.
use mathlib.Core.Path.{◌≡◌, refl}
use mathlib.Core.List.{List, [], ◌∷◌}
use Prim.Native.Nat.{ℕ, ◌+◌, ◌-◌, ◌^◌, ◌≤◌, ◌<◌}
use native.Mathlib.Omega.{arith}
use lib.Dec.{lit<}
use lib.ListN.{length, drop}
use lib.Seq.{sets}
use Rattle.buffer.specs.AtEnd.{ended}
use Rattle.buffer.proofs.AtEnd.{ended-sets}
use Rattle.digits.specs.Text.{text, last_text}
use Rattle.digits.proofs.Text.{text-small, text-some, text-most}
use Rattle.lanes.specs.Letters.{digit_byte}
use Rattle.lanes.proofs.Tails.{text-more, drop-joined, tail-ended}
use Rattle.hex_digits.proofs.write.Goals as goal
use Rattle.hex_digits.proofs.write.Goals.{After-one, Else-n-lt4294967296, Start, Then-n-lt4294967296, Then-n-lt65536}

hex : 1 < 16
hex = lit< tt

-- between j and k digits
within : (letter n len j k : ℕ) → len ≡ length (text (digit_byte letter) 16 n) → 0 < k → n < 16 ^ k → 16 ^ j ≤ n → (len ≤ k) × (j < len)
within letter n len j k l some h i =
    let α = digit_byte letter in
    (omega (arith, l, text-most α 16 hex k n some h), omega (arith, l, text-more α 16 hex j n i))

-- the last k digits without the zeros in front, where they stand
stands : (s : Start) (k : ℕ) {m : List ℕ} {r : ℕ} → s.args.len ≤ k → r ≡ s.args.end + (k - s.args.len) - k →
    m ≡ sets s.args.buf.now r (drop (k - s.args.len) (last_text (digit_byte s.args.letter) 16 k s.args.n)) →
    m ≡ ended s.args.buf.now s.args.end (text (digit_byte s.args.letter) 16 s.args.n)
stands s k h i e =
    (tail-ended (digit_byte s.args.letter) 16 hex s.args.buf.now s.args.end s.args.n k (k - s.args.len) (omega (arith, s.requires.2)) (omega (arith, s.requires.2, s.requires.3)) s.requires.4 i e).1

some : (c : After-one) → 1 ≤ c.args.end
some c = omega (arith, text-some (digit_byte c.args.letter) 16 hex c.args.n, c.requires.2, c.requires.3)

pub overflow_sub-buf : goal.overflow_sub-buf
overflow_sub-buf c = some (goal.at.overflow_sub-buf c).After-one

pub bounds-buf-end : goal.bounds-buf-end
bounds-buf-end c = omega (arith, some (goal.at.bounds-buf-end c).After-one)

pub returns-then-n-lt16 : goal.returns-then-n-lt16
returns-then-n-lt16 c =
    let h = some (goal.at.returns-then-n-lt16 c).After-one in
    rw (text-small (digit_byte c.args.letter) 16 hex c.args.n c.if-n-lt16.true, c.one.ensures)
    (refl, ended-sets c.args.buf.now (c.args.end - 1) c.args.end (digit_byte c.args.letter c.args.n ∷ []) (omega arith) c.requires.4)

in_four : (c : Then-n-lt65536) → (c.args.len ≤ 4) × (1 < c.args.len)
in_four c = within c.args.letter c.args.n c.args.len 1 4 c.requires.2 (lit< tt) c.if-n-lt65536.true c.if-n-lt16.false

pub overflow_sub-len : goal.overflow_sub-len
overflow_sub-len c = (in_four (goal.at.overflow_sub-len c).Then-n-lt65536).0

pub overflow_cast-len : goal.overflow_cast-len
overflow_cast-len c = record { fits = omega arith }

pub tail-requires : goal.tail-requires
tail-requires c =
    let l = in_four (goal.at.tail-requires c).Then-n-lt65536 in
    (omega arith, omega (arith, c.requires.3), c.requires.4)

pub returns-then-n-lt65536 : goal.returns-then-n-lt65536
returns-then-n-lt65536 c =
    (refl, stands (goal.at.returns-then-n-lt65536 c).Start 4 (in_four (goal.at.returns-then-n-lt65536 c).Then-n-lt65536).0 c.tail.ensures.0 (rw c.four-word.ensures at c.tail.ensures.1))

in-eight : (c : Then-n-lt4294967296) → (c.args.len ≤ 8) × (4 < c.args.len)
in-eight c = within c.args.letter c.args.n c.args.len 4 8 c.requires.2 (lit< tt) c.if-n-lt4294967296.true c.if-n-lt65536.false

pub overflow_sub-len-then-n-lt4294967296 : goal.overflow_sub-len-then-n-lt4294967296
overflow_sub-len-then-n-lt4294967296 c = (in-eight (goal.at.overflow_sub-len-then-n-lt4294967296 c).Then-n-lt4294967296).0

pub overflow_cast-len-then-n-lt4294967296 : goal.overflow_cast-len-then-n-lt4294967296
overflow_cast-len-then-n-lt4294967296 c = record { fits = omega arith }

pub tail-requires-then-n-lt4294967296 : goal.tail-requires-then-n-lt4294967296
tail-requires-then-n-lt4294967296 c =
    let l = in-eight (goal.at.tail-requires-then-n-lt4294967296 c).Then-n-lt4294967296 in
    (omega arith, omega (arith, c.requires.3), c.requires.4)

pub returns-then-n-lt4294967296 : goal.returns-then-n-lt4294967296
returns-then-n-lt4294967296 c =
    (refl, stands (goal.at.returns-then-n-lt4294967296 c).Start 8 (in-eight (goal.at.returns-then-n-lt4294967296 c).Then-n-lt4294967296).0 c.tail-then-n-lt4294967296.ensures.0 (rw c.eight.ensures at c.tail-then-n-lt4294967296.ensures.1))

in-sixteen : (c : Else-n-lt4294967296) → (c.args.len ≤ 16) × (8 < c.args.len)
in-sixteen c = within c.args.letter c.args.n c.args.len 8 16 c.requires.2 (lit< tt) c.ranges.n.fits c.if-n-lt4294967296.false

pub overflow_sub-len-2 : goal.overflow_sub-len-2
overflow_sub-len-2 c = (in-sixteen (goal.at.overflow_sub-len-2 c).Else-n-lt4294967296).0

pub overflow_cast-len-2 : goal.overflow_cast-len-2
overflow_cast-len-2 c = record { fits = omega arith }

pub tail_two-requires : goal.tail_two-requires
tail_two-requires c =
    let l = in-sixteen (goal.at.tail_two-requires c).Else-n-lt4294967296 in
    (omega arith, omega arith, omega (arith, c.requires.3), c.requires.4)

pub returns : goal.returns
returns c =
    let l = in-sixteen (goal.at.returns c).Else-n-lt4294967296 in (
      refl,
      stands (goal.at.returns c).Start 16 l.0 c.tail_two.ensures.0
          (rw (c.eight-front.ensures, c.eight-back.ensures, drop-joined (digit_byte c.args.letter) 16 hex (16 - c.args.len) 8 8 c.args.n (omega arith)) at c.tail_two.ensures.1),
    )
