-- Words of digits, and the text that they make: all digits of a number without the zeros in front, or its last ones.
-- Assumes nothing.
use mathlib.Core.Path.{◌≡◌, sym, ap, ◌∙◌}
use mathlib.Core.List.{List, ◌++◌, map}
use Prim.Native.Nat.{ℕ, ◌+◌, ◌-◌, ◌/◌, ◌%◌, ◌^◌, ◌≤◌, ◌<◌}
use native.Mathlib.Nat.{le-div_iff_mul-le, one-le-pow}
use native.Mathlib.Omega.{arith}
use lib.Dec.{lit<}
use lib.ListN.{length, drop}
use lib.Seq.{sets}
use Rattle.buffer.specs.AtEnd.{ended}
use Rattle.buffer.proofs.AtEnd.{ended-sets}
use Rattle.digits.specs.Digits.{last, Below}
use Rattle.digits.specs.Text.{ascii, last_text, decimal}
use Rattle.digits.proofs.Digits.{digits-length-gt}
use Rattle.digits.proofs.Last.{last-below}
use Rattle.digits.proofs.Text.{length-text, last_text-mod, text-split}
use Rattle.words.specs.Bytes.{bytes_of, zeros_front}
use Rattle.words.proofs.Stores.{sets-append}
use Rattle.eights.proofs.Lead.{text-front, front_length}

pub ten : 1 < 10
ten = lit< tt

-- the word x holds the last k digits of n
module _ (k n x : ℕ) (digits : bytes_of k x ≡ last 10 k n) where
  pub each-digit : Below 10 (bytes_of k x)
  each-digit = rw digits (last-below 10 ten k n)

  -- and w their text
  pub last-text : (w : ℕ) → bytes_of k w ≡ map ascii (bytes_of k x) → bytes_of k w ≡ last_text ascii 10 k n
  unfolding last_text
  last-text w e = e ∙ ap (map ascii) digits

  -- where n has no more digits, all but the zeros in front are its text
  module _ (z : ℕ) (zeros : z ≡ zeros_front (bytes_of k x)) (p : 0 < n) (h : n < 10 ^ k) where
    pub head-length : z + length (decimal n) ≡ k
    head-length = rw (zeros, digits) (front_length ascii 10 ten k n p h)

    pub head-text : (w : ℕ) → bytes_of k w ≡ map ascii (bytes_of k x) → drop z (bytes_of k w) ≡ decimal n
    head-text w e = rw (last-text w e, zeros, digits) (text-front ascii 10 ten k n p h)

-- a text that is stored where it is to stand
pub stands : (l m t u : List ℕ) (r end : ℕ) → m ≡ sets l r u → u ≡ t → r + length t ≡ end → end ≤ length l → (r ≡ end - length t) × (m ≡ ended l end t)
stands l m t u r end stored e i k = (omega arith, stored ∙ ap (sets l r) e ∙ ended-sets l r end t i k)

pub longer : (k n : ℕ) → 10 ^ k ≤ n → k < length (decimal n)
longer k n h = rw (length-text ascii 10 ten n) (digits-length-gt 10 ten k n h)

-- the digits in front of the last k, and those
module _ (k n : ℕ) (h : 10 ^ k ≤ n) where
  pub front-some : 0 < n / 10 ^ k
  front-some = (le-div_iff_mul-le {k = 10 ^ k} {x = 1} {y = n} (one-le-pow k 10 (lit< tt))).1 (omega arith)

  pub joined : decimal (n / 10 ^ k) ++ last_text ascii 10 k (n % 10 ^ k) ≡ decimal n
  joined = ap (λ (t : List ℕ). decimal (n / 10 ^ k) ++ t) (last_text-mod ascii 10 ten k n) ∙ sym (text-split ascii 10 ten k n h)

-- a store behind a text
pub stored_on : (l m m' u v t : List ℕ) (r e : ℕ) → m ≡ sets l r u → u ≡ t → m' ≡ sets m e v → r + length t ≡ e → m' ≡ sets l r (t ++ v)
stored_on l m m' u v t r e f g h i = h ∙ rw (f, g, ← i) (sym (sets-append l r t v))
