-- What is left of a decimal text that is written right to left, so many digits at a time.
-- Assumes nothing.
use mathlib.Core.Path.{◌≡◌, refl, sym, ap, ◌∙◌}
use mathlib.Core.List.{List, [], ◌∷◌, ◌++◌, map, map-append}
use Prim.Native.Nat.{ℕ, zero, suc, ◌+◌, ◌/◌, ◌%◌, ◌^◌, ◌≤◌, ◌<◌}
use native.Mathlib.Nat.{zero-lt-suc, one-le-pow, le_trans, div-le_self}
use native.Mathlib.Omega.{arith}
use lib.Dec.{lit<}
use lib.ListN.{length}
use lib.Seq.{sets}
use Rattle.buffer.proofs.Left.{Left, left-room, left-store}
use Rattle.digits.specs.Digits.{bare, digits, last}
use Rattle.digits.specs.Text.{ascii, text, last_text, decimal}
use Rattle.digits.proofs.Digits.{bare-zero, bare-length-gt, digits-pos, digits-small}
use Rattle.digits.proofs.Last.{bare-split}
use Rattle.digits.proofs.Text.{length-last_text, last_text-mod}

ten : 1 < 10
ten = lit< tt

-- what is left to write where remain is left of n: no zero in front, but the one digit of 0
pub pending : ℕ → ℕ → List ℕ
pending zero remain = 48 ∷ []
pending (suc n) remain = map ascii (bare 10 remain)

pub pending-all : (n : ℕ) → pending n n ≡ decimal n
unfolding pending text digits
pending-all zero = refl
pending-all (suc n) = refl

-- where more than k digits are left, the last k + 1 are written next
pub pending-split : (k n remain : ℕ) → remain ≤ n → 10 ^ k ≤ remain → pending n remain ≡ pending n (remain / 10 ^ suc k) ++ last_text ascii 10 (suc k) remain
unfolding pending last_text
pending-split k zero remain l h = absurd (let p : 0 < 10 ^ k = one-le-pow k 10 (zero-lt-suc 9) in omega arith)
pending-split k (suc n) remain l h =
    ap (map ascii) (bare-split 10 ten (suc k) remain (bare-length-gt 10 ten k remain h))
    ∙ map-append ascii (bare 10 (remain / 10 ^ suc k)) (last 10 (suc k) remain)

-- a last digit, or none
pub pending-one : (n remain : ℕ) → remain ≤ n → remain < 10 → (remain ≡ 0 → n ≡ 0) → pending n remain ≡ (48 + remain) ∷ []
unfolding pending
pending-one zero remain l h z = let e : remain ≡ 0 = omega arith in rw e
pending-one (suc n) zero l h z = absurd (let e : suc n ≡ 0 = z refl in omega arith)
pending-one (suc n) (suc r) l h z = ap (map ascii) (sym (digits-pos 10 ten (suc r) (zero-lt-suc r)) ∙ digits-small 10 ten (suc r) h)

pub pending-none : (n : ℕ) → (n ≡ 0 → ⊥) → pending n 0 ≡ []
unfolding pending
pending-none zero h = absurd (h refl)
pending-none (suc n) h = ap (map ascii) (bare-zero 10 ten)

-- ---- what the writer keeps from turn to turn

-- remain is left of n, and its text completes the buffer
pub record Rest (n end : ℕ) (buf₀ : List ℕ) (remain offset : ℕ) (buf : List ℕ) : Type 0 where
  pub less : remain ≤ n
  pub left : Left buf₀ end (decimal n) (pending n remain) offset buf

module _ {n end : ℕ} {buf₀ : List ℕ} {remain offset : ℕ} {buf : List ℕ} (R : Rest n end buf₀ remain offset buf) (k : ℕ) (more : 10 ^ k ≤ remain) where
  -- where more than k digits are left, k + 1 of them stand before the offset
  pub rest-room : suc k ≤ offset
  rest-room =
      let r = left-room R.left (pending n (remain / 10 ^ suc k)) (last_text ascii 10 (suc k) remain) (pending-split k n remain R.less more) in
      rw (length-last_text ascii 10 (suc k) remain) at r

  -- and are stored there
  pub rest-store : (o : ℕ) → o + suc k ≡ offset → Rest n end buf₀ (remain / 10 ^ suc k) o (sets buf o (last_text ascii 10 (suc k) (remain % 10 ^ suc k)))
  rest-store o e =
      let i : o + length (last_text ascii 10 (suc k) remain) ≡ offset = rw (length-last_text ascii 10 (suc k) remain) e in
      record {
        less = le_trans (div-le_self remain (10 ^ suc k)) R.less;
        left = rw (last_text-mod ascii 10 ten (suc k) remain) (left-store R.left (pending n (remain / 10 ^ suc k)) (last_text ascii 10 (suc k) remain) o (pending-split k n remain R.less more) i);
      }
