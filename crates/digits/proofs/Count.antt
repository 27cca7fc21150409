-- How many decimal digits a number has by how many bits: 1233 / 4096 of them, or one more.
-- Assumes nothing.
use mathlib.Core.Path.{◌≡◌, refl, sym, ap, ◌∙◌}
use mathlib.Core.Bool.{Bool, true, false, cond}
use Prim.Native.Nat.{ℕ, zero, suc, ◌+◌, ◌-◌, ◌*◌, ◌/◌, ◌%◌, ◌^◌, ◌≤◌, ◌<◌}
use native.Mathlib.Nat.{mul-one, one-le-pow, pow-suc, pow-zero, le_trans, le_antisymm, not-suc-le-zero, lt_of_lt_of_le, zero-lt-suc}
use native.Mathlib.Decide.{dec_le}
use native.Mathlib.Omega.{arith}
use borrow.Author.Tests.{leb-true}
use Rattle.std.proofs.lemmas.Nat.{or_shifted, or_block}
use lib.Bits.{bit_or}
use lib.Count.{count_leading_zeros, leading_top}
use lib.Dec.{leb, lit<}
use lib.ListN.{length}
use Rattle.digits.specs.Digits.{digits}
use Rattle.digits.proofs.Digits.{digits-some, digits-length-le, digits-length-gt}
use Rattle.digits.proofs.Length.{below_length, length-mono}

ten : 1 < 10
ten = lit< tt

-- a test that holds below n
holds : ℕ → (ℕ → Bool) → Bool
holds zero p = true
holds (suc n) p = cond (p n) (holds n p) false

holds_at : (n : ℕ) (p : ℕ → Bool) (k : ℕ) → holds n p ≡ true → k < n → p k ≡ true
unfolding holds
holds_at zero p k h l = absurd (not-suc-le-zero l)
holds_at (suc n) p k h l = go (p n) refl h (λ r m. holds_at n p k r m)
  where
    go : (t : Bool) → p n ≡ t → cond t (holds n p) false ≡ true → (holds n p ≡ true → k < n → p k ≡ true) → p k ≡ true
    go false e f below = cc
    go true e f below = at (dec_le (suc k) n)
      where
        at : Dec (suc k ≤ n) → p k ≡ true
        at (yes m) = below f m
        at (no m) = let i : k ≡ n = omega arith in ap p i ∙ e

-- the digits that bits are worth, but for one
abbrev pub worth : ℕ → ℕ
worth m = m * 1233 / 4096

-- of 64 bits antt computes each
low : (j : ℕ) → j < 64 → 10 ^ (worth (suc j) - 1) ≤ 2 ^ j
unfolding holds
low j h = leb-true (10 ^ (worth (suc j) - 1)) (2 ^ j) (holds_at 64 (λ (i : ℕ). leb (10 ^ (worth (suc i) - 1)) (2 ^ i)) j refl h)

high : (j : ℕ) → j < 64 → 2 ^ suc j ≤ 10 ^ suc (worth (suc j))
unfolding holds
high j h = leb-true (2 ^ suc j) (10 ^ suc (worth (suc j))) (holds_at 64 (λ (i : ℕ). leb (2 ^ suc i) (10 ^ suc (worth (suc i)))) j refl h)

-- the number with its lowest bit set
nothing : (x : ℕ) → bit_or x 0 ≡ x
nothing x = ap (λ (y : ℕ). bit_or y 0) (sym (mul-one x)) ∙ or_shifted x 0 0 (lit< tt) ∙ omega arith

lowest : (r : ℕ) → r < 2 → bit_or r 1 ≡ 1
lowest zero h = refl
lowest (suc zero) h = refl
lowest (suc (suc r)) h = absurd (omega arith)

or-one : (n : ℕ) → bit_or n 1 ≡ n / 2 * 2 + 1
or-one n =
    let e : n ≡ n / 2 * 2 + n % 2 = omega arith in
    let h : n % 2 < 2 = omega arith in
    ap (λ (x : ℕ). bit_or x 1) e ∙ or_block 1 (n / 2) 0 (n % 2) 1 h (lit< tt) ∙ rw (nothing (n / 2), lowest (n % 2) h)

-- an odd number is no power of an even base but 1: where n is even, n + 1 has as many digits
odd_alike : (c : ℕ) → 1 < c * 2 → (n : ℕ) → length (digits (c * 2) (n / 2 * 2 + 1)) ≡ length (digits (c * 2) n)
odd_alike c big n = le_antisymm (go (length (digits (c * 2) n)) refl) (length-mono (c * 2) big (omega arith))
  where
    go : (k : ℕ) → length (digits (c * 2) n) ≡ k → length (digits (c * 2) (n / 2 * 2 + 1)) ≤ length (digits (c * 2) n)
    go zero e = absurd (let s = digits-some (c * 2) big n in omega arith)
    go (suc k) e =
        let b : n < (c * 2) ^ suc k = rw (← e) (below_length (c * 2) big n) in
        let p = pow-suc (c * 2) k in
        rw e (digits-length-le (c * 2) big (suc k) (n / 2 * 2 + 1) (zero-lt-suc k) (omega arith))

pub odd-length : (c : ℕ) → 1 < c * 2 → (n : ℕ) → length (digits (c * 2) (bit_or n 1)) ≡ length (digits (c * 2) n)
odd-length c big n = rw (or-one n) (odd_alike c big n)

pub odd-some : (n : ℕ) → 0 < bit_or n 1
odd-some n = omega (arith, or-one n)

pub odd-fits : (n : ℕ) → n < 2 ^ 64 → bit_or n 1 < 2 ^ 64
odd-fits n h = omega (arith, or-one n)

-- the highest of at most 64 bits of x is bit j
module _ (x j : ℕ) (h : j < 64) (l : 2 ^ j ≤ x) (u : x < 2 ^ suc j) where
  top-less : x < 10 ^ worth (suc j) → worth (suc j) ≡ length (digits 10 x)
  top-less m = go (worth (suc j)) m (digits-length-gt 10 ten (worth (suc j) - 1) x (le_trans (low j h) l))
    where
      go : (t : ℕ) → x < 10 ^ t → t - 1 < length (digits 10 x) → t ≡ length (digits 10 x)
      go zero m g = absurd (omega (arith, pow-zero 10, one-le-pow j 2 (lit< tt)))
      go (suc t) m g = omega (arith, digits-length-le 10 ten (suc t) x (zero-lt-suc t) m)

  top-more : 10 ^ worth (suc j) ≤ x → worth (suc j) + 1 ≡ length (digits 10 x)
  top-more m =
      omega
      (arith, digits-length-gt 10 ten (worth (suc j)) x m, digits-length-le 10 ten (suc (worth (suc j))) x (zero-lt-suc (worth (suc j))) (lt_of_lt_of_le u (high j h)))

-- the same by the zeros above it
module _ (x : ℕ) (p : 0 < x) (f : x < 2 ^ 64) where
  bits-top : (m : ℕ) → 64 - count_leading_zeros 64 x ≡ m → (j : ℕ) × (m ≡ suc j) × (j < 64) × (2 ^ j ≤ x) × (x < 2 ^ suc j)
  bits-top m e = let t = leading_top 64 x p f in (t.0, omega (arith, t.1), omega (arith, t.1), t.2, t.3)

  pub count_less : (m : ℕ) → 64 - count_leading_zeros 64 x ≡ m → x < 10 ^ worth m → worth m ≡ length (digits 10 x)
  count_less m e l = let t = bits-top m e in rw t.1 (top-less x t.0 t.2 t.3 t.4 (rw (← t.1) l))

  pub count-more : (m : ℕ) → 64 - count_leading_zeros 64 x ≡ m → 10 ^ worth m ≤ x → worth m + 1 ≡ length (digits 10 x)
  count-more m e l = let t = bits-top m e in rw t.1 (top-more x t.0 t.2 t.3 t.4 (rw (← t.1) l))
