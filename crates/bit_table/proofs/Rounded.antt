-- How many digits a natural has in base 2 ^ s: the bits that it needs over s, rounded up. Over all naturals and every s above 0.
-- Assumes nothing.
use mathlib.Core.Bool.{Bool, true, false}
use mathlib.Core.Path.{◌≡◌, refl, sym, ap, ◌∙◌, subst}
use mathlib.Core.Logic.{⊎_elim}
use Prim.Native.Nat.{ℕ, suc, ◌+◌, ◌*◌, ◌-◌, ◌/◌, ◌%◌, ◌≤◌, ◌<◌, ◌^◌}
use native.Mathlib.Nat.{div-add-mod', mod-lt, mul-pos, mul_comm, eq-zero-or-pos, pos_of_ne-zero}
use native.Mathlib.Omega.{arith}
use borrow.Author.Tests.{eqb-true, eqb-false}
use lib.Arith.{digits_div}
use lib.Dec.{eqb, lit<}
use lib.ListN.{length}
use Rattle.digits.specs.Digits.{digits}
use Rattle.digits.proofs.Digits.{digits-small, digits-some, digits-length-le, digits-length-gt}
use Rattle.digits.proofs.Length.{below_length, from-length}
use Rattle.bit_table.specs.Bits.{rounded_up}
use Rattle.digits.proofs.Powers.{pow-pow, above-one}

two : 1 < 2
two = lit< tt

module _ (s : ℕ) (p : 0 < s) where
  -- where k times s reaches b, and one time less does not
  sum_is : (b k : ℕ) → b ≤ k * s → k * s < b + s → (b + (s - 1)) / s ≡ k
  sum_is b k l h =
      let r : ℕ = b + s - suc (k * s) in
      let e : b + (s - 1) ≡ k * s + r = omega arith in
      rw e (digits_div k (omega arith))

  -- which is so of b over s, rounded up
  reaches : (b : ℕ) → (b ≤ rounded_up b s * s) × (rounded_up b s * s < b + s)
  unfolding rounded_up
  reaches b = go (eqb (b % s) 0) refl
    where
      m : b / s * s + b % s ≡ b
      m = div-add-mod' b s

      go : (t : Bool) → eqb (b % s) 0 ≡ t → (b ≤ rounded_up b s * s) × (rounded_up b s * s < b + s)
      go true e = rw e (omega (arith, m, eqb-true (b % s) 0 e), omega (arith, m, eqb-true (b % s) 0 e))
      go false e =
          let q : 0 < b % s = pos_of_ne-zero (eqb-false (b % s) 0 e) in
          rw e (omega (arith, m, mod-lt b p), omega (arith, m))

  -- as the code computes it
  pub rounded-sum : (b : ℕ) → (b + (s - 1)) / s ≡ rounded_up b s
  rounded-sum b = sum_is b (rounded_up b s) (reaches b).0 (reaches b).1

  -- the digits in base 2 ^ s are the bits over s, rounded up
  pub length-rounded : (n : ℕ) → length (digits (2 ^ s) n) ≡ rounded_up (length (digits 2 n)) s
  length-rounded n = sym (sum_is (length (digits 2 n)) (length (digits (2 ^ s) n)) at_most (⊎_elim none some (eq-zero-or-pos n))) ∙ rounded-sum (length (digits 2 n))
    where
      big : 1 < 2 ^ s
      big = above-one p

      k : ℕ
      k = length (digits (2 ^ s) n)

      at_most : length (digits 2 n) ≤ k * s
      at_most =
          digits-length-le 2 two (k * s) n (mul-pos (digits-some (2 ^ s) big n) p)
          (subst (λ (x : ℕ). n < x) (pow-pow s k ∙ ap (λ (x : ℕ). 2 ^ x) (mul_comm s k)) (below_length (2 ^ s) big n))

      some : 0 < n → k * s < length (digits 2 n) + s
      some q =
          let h : s * (k - 1) < length (digits 2 n) = digits-length-gt 2 two (s * (k - 1)) n (rw pow-pow at (from-length (2 ^ s) big n q)) in
          let d : k ≡ suc (k - 1) = omega (arith, digits-some (2 ^ s) big n) in
          omega (arith, ap (λ (x : ℕ). x * s) d)

      none : n ≡ 0 → k * s < length (digits 2 n) + s
      none e =
          let d : k ≡ 1 = ap (λ (x : ℕ). length (digits (2 ^ s) x)) e ∙ ap length (digits-small (2 ^ s) big 0 (omega (arith, big))) in
          omega (arith, ap (λ (x : ℕ). x * s) d, digits-some 2 two n)
