-- The last so many digits, without the zeros in front, are the text, and stored so that they end at an index they stand just before it.
-- Over any base above 1, any alphabet and any count. Assumes nothing.
use mathlib.Core.Path.{◌≡◌, sym, ap, ◌∙◌}
use mathlib.Core.List.{List, ◌++◌, map}
use Prim.Native.Nat.{ℕ, ◌+◌, ◌-◌, ◌/◌, ◌%◌, ◌^◌, ◌≤◌, ◌<◌}
use native.Mathlib.Omega.{arith}
use lib.ListN.{length, drop}
use lib.Seq.{sets, drop_at, drop-append-le}
use Rattle.buffer.specs.AtEnd.{ended}
use Rattle.buffer.proofs.AtEnd.{ended-sets}
use Rattle.digits.specs.Digits.{last}
use Rattle.digits.specs.Text.{text, last_text}
use Rattle.digits.proofs.Digits.{digits-length-gt}
use Rattle.digits.proofs.Last.{digits_last}
use Rattle.digits.proofs.Text.{length-text, length-last_text, last_text-split, last_text-mod}

module _ (α : ℕ → ℕ) (b : ℕ) (big : 1 < b) where
  -- all digits are the last so many
  text-whole : (n : ℕ) → last_text α b (length (text α b n)) n ≡ text α b n
  unfolding text last_text
  text-whole n = ap (map α) (ap (λ (k : ℕ). last b k n) (length-text α b big n) ∙ sym (digits_last b big n))

  last-drop : (z k n : ℕ) → drop z (last_text α b (z + k) n) ≡ last_text α b k n
  last-drop z k n = rw (last_text-split α b z k n) (drop_at (last_text α b z (n / b ^ k)) (last_text α b k n) z (length-last_text α b z (n / b ^ k)))

  -- from a power that n reaches
  pub text-more : (k n : ℕ) → b ^ k ≤ n → k < length (text α b n)
  text-more k n h = rw (length-text α b big n) (digits-length-gt b big k n h)

  -- of two runs of digits, one behind the other
  pub drop-joined : (z j k n : ℕ) → z ≤ j → drop z (last_text α b j (n / b ^ k)) ++ last_text α b k (n % b ^ k) ≡ drop z (last_text α b (j + k) n)
  drop-joined z j k n h =
      rw (last_text-mod α b big k n, last_text-split α b j k n)
      (sym (drop-append-le z (last_text α b j (n / b ^ k)) (last_text α b k n) (rw length-last_text h)))

  -- k digits of which z are zeros in front
  module _ (l : List ℕ) (end n k z : ℕ) (e : z + length (text α b n) ≡ k) where
    pub dropped : drop z (last_text α b k n) ≡ text α b n
    dropped = rw (← e) (last-drop z (length (text α b n)) n ∙ text-whole n)

    pub tail-ended : {m : List ℕ} {r : ℕ} → length (text α b n) ≤ end → end ≤ length l → r ≡ end + z - k → m ≡ sets l r (drop z (last_text α b k n)) →
        (r ≡ end - length (text α b n)) × (m ≡ ended l end (text α b n))
    tail-ended {m} {r} h i j s = (omega arith, s ∙ rw dropped (ended-sets l r end (text α b n) (omega arith) i))
