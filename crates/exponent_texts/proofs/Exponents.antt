-- Of an exponent text: the exponent's one or two digits, the rules of writing by the code's tests, and the product with a power of ten.
-- Assumes nothing.
use Rattle.std.specs.Prelude.{Some, None}
use mathlib.Core.Bool.{false, false≢true}
use mathlib.Core.List.{List}
use mathlib.Core.Path.{◌≡◌, sym, ap, ◌∙◌}
use Prim.Native.Nat.{ℕ, ◌+◌, ◌-◌, ◌*◌, ◌^◌, ◌≤◌, ◌<◌}
use native.Mathlib.Nat.{zero-mul, le_trans, mul-le-mul}
use native.Mathlib.Omega.{arith}
use borrow.Author.Tests.{leb-true, leb-false}
use lib.Dec.{leb, lit≤}
use lib.ListN.{length, get_or}
use Rattle.digits.specs.Digits.{value}
use Rattle.digits.proofs.Last.{value-lt}
use Rattle.radix.specs.Radix.{lower}
use Rattle.scientific.proofs.Tens as T
use Rattle.coefficients.proofs.Places.{digits-length}
use Rattle.digit_runs.specs.Runs.{Held}
use Rattle.exponent_texts.specs.Exponents.{DigitAt, AtMostTwo, Rules, Tells}
use Rattle.exponent_texts.specs.declared.Short.{Short}
use Rattle.digit_runs.proofs.Runs.{Sofar}

-- ---- the exponent's digits

pub two_at : {t : List ℕ} {from i v w : ℕ} → Sofar lower 10 0 t from i w → v ≡ w → from ≤ length t → i ≤ from + 2 → (i < from + 2 → DigitAt t i None)
    → AtMostTwo t from (record { end = i; value = v })
unfolding value
two_at S e h n f =
    let l = digits-length S.run h in
    record { run = S.run; few = omega arith; stop = λ k. f (omega arith); is = e ∙ S.is }

pub two-small : {t : List ℕ} {from : ℕ} {s : Short} → AtMostTwo t from s → s.value < 100
two-small A =
    let h = value-lt 10 T.ten A.run.digits A.run.each in
    let k : 10 ^ length A.run.digits ≤ 10 ^ 2 = T.powers A.few in
    omega (arith, A.is)

-- ---- the rules of writing

pub told : (t : List ℕ) (lead size end k : ℕ) → (lead ≡ 0 → (length t ≡ 3) × (k ≡ 0)) → (0 < size → get_or t (end - 1) 0 ≡ 48 → ⊥) → (end + 2 < length t → get_or t (end + 1) 0 ≡ 48 → ⊥)
    → Tells (Rules t lead size end k) (leb size (k + 1))
told t lead size end k z s w = record {
  yes = λ e. record { zero = z; spare = s; two = w; enough = leb-true size (k + 1) e };
  no = λ e R. let h = R.enough in omega (arith, leb-false size (k + 1) e);
}

-- one of them is broken
pub not-told : {P : Type 0} → (P → ⊥) → Tells P false
not-told f = record { yes = λ e. absurd (false≢true e); no = λ e. f }

-- ---- digits with zeros behind them

pub product-zero : (n k : ℕ) → n ≡ 0 → Held (Some 0) (n * 10 ^ k)
product-zero n k e = let z : 0 ≡ n * 10 ^ k = sym (ap (λ (x : ℕ). x * 10 ^ k) e ∙ zero-mul (10 ^ k)) in (omega arith, z)

pub product-held : (n k v : ℕ) → v < 2 ^ 64 → v ≡ n * 10 ^ k → Held (Some v) (n * 10 ^ k)
product-held n k v f e = (omega (arith, f, e), e)

pub product-over : (n k : ℕ) → 2 ^ 64 ≤ n * 10 ^ k → Held None (n * 10 ^ k)
product-over n k h = λ f. omega (arith, f, h)

-- 10 ^ 20 is over 64 bits
pub large : (n k : ℕ) → 0 < n → 19 < k → 2 ^ 64 ≤ n * 10 ^ k
large n k p h = le_trans (le_trans (lit≤ tt) (T.powers {i = 20} {j = k} h)) (let q = mul-le-mul {n₁ = 1} {m₁ = 10 ^ k} {n₂ = n} {m₂ = 10 ^ k} p (omega arith) in omega arith)
