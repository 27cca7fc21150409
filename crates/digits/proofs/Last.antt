-- Laws of the last k digits of a natural, for any base above 1, and the laws between them and all its digits.
-- Assumes nothing.
use mathlib.Core.Path.{◌≡◌, refl, sym, ap, ap₂, ◌∙◌}
use mathlib.Core.List.{List, [], ◌∷◌, ◌++◌, append_assoc, append-nil}
use mathlib.Core.Logic.{⊎_elim}
use Prim.Native.Nat.{ℕ, zero, suc, ◌+◌, ◌*◌, ◌/◌, ◌%◌, ◌≤◌, ◌<◌, ◌^◌}
use native.Mathlib.Nat.{zero-add, suc-add, zero-mul, mul_comm, pow-zero, pow-suc, pow-succ', div-one, div-div-eq-div-mul, mod-lt, mod-one, one-le-pow, eq-zero-or-pos, zero-div, zero-mod, mul-mod_left, mul-div_cancel, le-div_iff_mul-le}
use native.Mathlib.Omega.{arith}
use lib.Arith.{digits_lt, digits_div, digits_mod, mod-mul}
use lib.ListN.{length, replicate}
use lib.Pow.{pow-add}
use Rattle.digits.specs.Digits.{bare, digits, last, value_from, value, Below}
use Rattle.digits.proofs.Digits.{bare-zero, bare_step, bare-length, bare-length-gt, digits-pos, digits_value, digits-below, value-snoc}

pub length_last : (b k n : ℕ) → length (last b k n) ≡ k
unfolding last
length_last b zero n = refl
length_last b (suc k) n = ap suc (length_last b k n)

-- the last j + k digits are the last j of what stands in front of the last k, and those
pub last-split : (b j k n : ℕ) → last b (j + k) n ≡ last b j (n / b ^ k) ++ last b k n
unfolding last
last-split b zero k n = rw zero-add
last-split b (suc j) k n =
    let q : n / b ^ (j + k) ≡ n / b ^ k / b ^ j = ap (λ (x : ℕ). n / x) (pow-add b j k ∙ mul_comm (b ^ j) (b ^ k)) ∙ sym (div-div-eq-div-mul n (b ^ k) (b ^ j)) in
    rw suc-add (ap₂ (λ (x : ℕ) (l : List ℕ). x % b ∷ l) q (last-split b j k n))

-- one digit more is written last
pub last_snoc : (b k n : ℕ) → last b (suc k) n ≡ last b k (n / b) ++ (n % b ∷ [])
unfolding last
last_snoc b zero n = rw (pow-zero, div-one)
last_snoc b (suc k) n =
    let q : n / b ^ suc k ≡ n / b / b ^ k = ap (λ (x : ℕ). n / x) (pow-succ' b k) ∙ sym (div-div-eq-div-mul n b (b ^ k)) in
    ap₂ (λ (x : ℕ) (l : List ℕ). x % b ∷ l) q (last_snoc b k n)

module _ (b : ℕ) (big : 1 < b) where
  pos : 0 < b
  pos = omega arith

  powers : (k : ℕ) → 0 < b ^ k
  powers k = one-le-pow k b pos

  -- ---- what a list of digits stands for, by its places

  pub value_from-is : (acc : ℕ) (ds : List ℕ) → value_from b acc ds ≡ acc * b ^ length ds + value b ds
  unfolding value_from value
  value_from-is acc [] = rw pow-zero (omega arith)
  value_from-is acc (d ∷ ds) =
      let e₁ = value_from-is (acc * b + d) ds in
      let e₂ = value_from-is (0 * b + d) ds in
      let p : b ^ suc (length ds) ≡ b ^ length ds * b = pow-suc b (length ds) in
      e₁ ∙ rw (p, e₂) (omega arith)

  -- the first digit, at its place, and the others
  pub value-cons : (d : ℕ) (ds : List ℕ) → value b (d ∷ ds) ≡ d * b ^ length ds + value b ds
  unfolding value_from value
  value-cons d ds = value_from-is (0 * b + d) ds ∙ rw (zero-mul, zero-add)

  pub value-lt : (ds : List ℕ) → Below b ds → value b ds < b ^ length ds
  unfolding value value_from Below
  value-lt [] h = rw pow-zero (omega arith)
  value-lt (d ∷ ds) h =
      let z : 0 * b + d ≡ d = rw (zero-mul, zero-add) in
      rw (z, value_from-is d ds, pow-succ' b (length ds)) (digits_lt h.0 (value-lt ds h.1))

  -- ---- the last k digits: each is a digit, they stand for n modulo b ^ k, and nothing else of length k does

  pub last-below : (k n : ℕ) → Below b (last b k n)
  unfolding last Below
  last-below zero n = tt
  last-below (suc k) n = (mod-lt (n / b ^ k) pos, last-below k n)

  pub last-value : (k n : ℕ) → value b (last b k n) ≡ n % b ^ k
  unfolding last value value_from
  last-value zero n = rw (pow-zero, mod-one)
  last-value (suc k) n =
      ap (value b) (last_snoc b k n)
      ∙ value-snoc b big (last b k (n / b)) (n % b)
      ∙ ap (λ (x : ℕ). x * b + n % b) (last-value k (n / b))
      ∙ sym (ap (λ (x : ℕ). n % x) (pow-suc b k) ∙ mod-mul n (powers k) pos)

  last-from : (acc : ℕ) (ds : List ℕ) → Below b ds → last b (length ds) (value_from b acc ds) ≡ ds
  unfolding last value_from Below
  last-from acc [] h = refl
  last-from acc (d ∷ ds) h =
      let q : value_from b (acc * b + d) ds / b ^ length ds ≡ acc * b + d = rw (value_from-is (acc * b + d) ds) (digits_div (acc * b + d) (value-lt ds h.1)) in
      ap₂ (λ (x : ℕ) (l : List ℕ). x ∷ l) (ap (λ (x : ℕ). x % b) q ∙ digits_mod acc h.0) (last-from (acc * b + d) ds h.1)

  pub last-unique : (ds : List ℕ) → Below b ds → last b (length ds) (value b ds) ≡ ds
  unfolding value
  last-unique ds h = last-from 0 ds h

  -- what stands in front does not matter
  pub last_cons : (d : ℕ) (ds : List ℕ) → Below b ds → last b (length ds) (value b (d ∷ ds)) ≡ ds
  unfolding value_from value
  last_cons d ds h = last-from (0 * b + d) ds h

  pub last-mod : (k n : ℕ) → last b k (n % b ^ k) ≡ last b k n
  last-mod k n =
      let u = last-unique (last b k n) (last-below k n) in
      rw (length_last b k n, last-value k n) at u

  zeros : (k : ℕ) → last b k 0 ≡ replicate k 0
  unfolding last
  zeros zero = refl
  zeros (suc k) = ap₂ (λ (x : ℕ) (l : List ℕ). x ∷ l) (ap (λ (x : ℕ). x % b) (zero-div (b ^ k)) ∙ zero-mod b) (zeros k)

  -- zeros behind the digits of n
  pub last-zeros : (k z n : ℕ) → last b (k + z) (n * b ^ z) ≡ last b k n ++ replicate z 0
  last-zeros k z n =
      let m : n * b ^ z % b ^ z ≡ 0 = mul-mod_left n (b ^ z) in
      let e : last b z (n * b ^ z) ≡ replicate z 0 = sym (last-mod z (n * b ^ z)) ∙ ap (last b z) m ∙ zeros z in
      rw (last-split b k z (n * b ^ z), mul-div_cancel n (powers z), e)

  -- ---- all digits, and the last k of them

  -- of a number with at least k digits, the last k stand behind those of what is in front
  pub bare-split : (k n : ℕ) → k ≤ length (bare b n) → bare b n ≡ bare b (n / b ^ k) ++ last b k n
  unfolding last
  bare-split zero n h = rw (pow-zero, div-one, append-nil)
  bare-split (suc k) n h = ⊎_elim none (λ (p : 0 < n). some p (λ l. bare-split k (n / b) l)) (eq-zero-or-pos n)
    where
      none : n ≡ 0 → bare b n ≡ bare b (n / b ^ suc k) ++ last b (suc k) n
      none e = absurd (let l : length (bare b n) ≡ 0 = ap (λ (x : ℕ). length (bare b x)) e ∙ ap length (bare-zero b big) in omega arith)

      some : 0 < n → (k ≤ length (bare b (n / b)) → bare b (n / b) ≡ bare b (n / b / b ^ k) ++ last b k (n / b)) → bare b n ≡ bare b (n / b ^ suc k) ++ last b (suc k) n
      some p shorter =
          let l = bare-length b big n p in
          let i = shorter (omega arith) in
          let q : n / b / b ^ k ≡ n / b ^ suc k = div-div-eq-div-mul n b (b ^ k) ∙ ap (λ (x : ℕ). n / x) (sym (pow-succ' b k)) in
          bare_step b big n p ∙ rw (i, q, append_assoc) (ap (λ (l : List ℕ). bare b (n / b ^ suc k) ++ l) (sym (last_snoc b k n)))

  -- all of them are the last so many
  pub digits_last : (n : ℕ) → digits b n ≡ last b (length (digits b n)) n
  digits_last n =
      let u = last-unique (digits b n) (digits-below b big n) in
      sym (rw (digits_value b big n) at u)

  pub digits-split : (k n : ℕ) → b ^ k ≤ n → digits b n ≡ digits b (n / b ^ k) ++ last b k n
  digits-split k n h =
      let p : 0 < n = omega (arith, powers k) in
      let q : 0 < n / b ^ k = (le-div_iff_mul-le {k = b ^ k} {x = 1} {y = n} (powers k)).1 (omega arith) in
      rw (digits-pos b big n p, digits-pos b big (n / b ^ k) q) (bare-split k n (omega (arith, bare-length-gt b big k n h)))
