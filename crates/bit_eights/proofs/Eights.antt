-- Bases that are a power of two, 2 ^ s: what stands in front of the last eight digits is n shifted by 8 * s. Over all naturals, every s above 0 and any alphabet.
-- Assumes nothing.
use mathlib.Core.Path.{◌≡◌, refl, sym, ap, ◌∙◌}
use mathlib.Core.List.{List, ◌++◌}
use Prim.Native.Nat.{ℕ, ◌+◌, ◌*◌, ◌-◌, ◌/◌, ◌≤◌, ◌<◌, ◌^◌}
use native.Mathlib.Decide.{dec_le}
use native.Mathlib.Omega.{arith}
use lib.Dec.{lit<}
use lib.ListN.{length, drop}
use lib.Seq.{sets}
use Rattle.buffer.specs.AtEnd.{ended}
use Rattle.buffer.proofs.Left.{Left, left-store, left-last}
use Rattle.digits.specs.Text.{text, last_text}
use Rattle.digits.proofs.Powers.{pow-pow, above-one}
use Rattle.digits.proofs.Text.{length-last_text, last_text-mod, text-longer, text-most, text-split}
use Rattle.lanes.proofs.Tails.{drop-joined, dropped}

module _ (α : ℕ → ℕ) (s : ℕ) (p : 0 < s) where
  big : 1 < 2 ^ s
  big = above-one p

  in-front : (n : ℕ) → n / 2 ^ (s * 8) ≡ n / (2 ^ s) ^ 8
  in-front n = ap (λ (x : ℕ). n / x) (sym (pow-pow s 8))

  module _ (n : ℕ) (h : 8 < length (text α (2 ^ s) n)) where
    reached : (2 ^ s) ^ 8 ≤ n
    reached = go (dec_le ((2 ^ s) ^ 8) n)
      where
        go : Dec ((2 ^ s) ^ 8 ≤ n) → (2 ^ s) ^ 8 ≤ n
        go (yes l) = l
        go (no l) = absurd (omega (arith, text-most α (2 ^ s) big 8 n (lit< tt) (omega arith)))

    eight-more : text α (2 ^ s) n ≡ text α (2 ^ s) (n / 2 ^ (s * 8)) ++ last_text α (2 ^ s) 8 n
    eight-more = rw (in-front n) (text-split α (2 ^ s) big 8 n reached)

    pub eight-less : length (text α (2 ^ s) n) ≡ length (text α (2 ^ s) (n / 2 ^ (s * 8))) + 8
    eight-less = rw (in-front n) (text-longer α (2 ^ s) big 8 n reached)

  -- the last eight of what is left are stored before the index at
  pub eight-store : {buf₀ : List ℕ} {end : ℕ} {t : List ℕ} {at : ℕ} {buf : List ℕ} (n o : ℕ) → Left buf₀ end t (text α (2 ^ s) n) at buf → 8 < length (text α (2 ^ s) n) → o + 8 ≡ at →
      Left buf₀ end t (text α (2 ^ s) (n / 2 ^ (s * 8))) o (sets buf o (last_text α (2 ^ s) 8 n))
  eight-store n o L h e = left-store L (text α (2 ^ s) (n / 2 ^ (s * 8))) (last_text α (2 ^ s) 8 n) o (eight-more n h) (omega (arith, length-last_text α (2 ^ s) 8 n))

  -- up to sixteen: eight and eight, without the zeros in front
  sixteen : (z n : ℕ) → z ≤ 8 → drop z (last_text α (2 ^ s) 8 (n / 2 ^ (s * 8))) ++ last_text α (2 ^ s) 8 n ≡ drop z (last_text α (2 ^ s) 16 n)
  sixteen z n h =
      rw (in-front n)
      (ap (λ (l : List ℕ). drop z (last_text α (2 ^ s) 8 (n / (2 ^ s) ^ 8)) ++ l) (sym (last_text-mod α (2 ^ s) big 8 n)) ∙ drop-joined α (2 ^ s) big z 8 8 n h)

  -- all that is left, where a writer has come to the index at
  pub last-sixteen : {buf₀ : List ℕ} {end : ℕ} {t : List ℕ} {at : ℕ} {buf m : List ℕ} {r : ℕ} (n k : ℕ) → Left buf₀ end t (text α (2 ^ s) n) at buf →
      k ≡ length (text α (2 ^ s) n) → 8 < k → k ≤ 16 → r ≡ at + (16 - k) - 16 →
      m ≡ sets buf r (drop (16 - k) (last_text α (2 ^ s) 8 (n / 2 ^ (s * 8))) ++ last_text α (2 ^ s) 8 n) → (r ≡ end - length t) × (m ≡ ended buf₀ end t)
  last-sixteen {at = at} {buf = buf} {r = r} n k L e low high i j =
      let whole = left-last L (text α (2 ^ s) n) r refl (omega (arith, L.room)) in
      (whole.0, j ∙ ap (sets buf r) (sixteen (16 - k) n (omega arith) ∙ dropped α (2 ^ s) big buf at n 16 (16 - k) (omega arith)) ∙ whole.1)
