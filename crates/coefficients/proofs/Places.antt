-- The places of a text: how far digits reach, and what does not stand at one.
-- Assumes nothing.
use mathlib.Core.List.{List, ◌++◌, map}
use mathlib.Core.Path.{◌≡◌, sym, ap, ◌∙◌, subst}
use Prim.Native.Nat.{ℕ, suc, ◌+◌, ◌≤◌, ◌<◌}
use native.Mathlib.Decide.{dec_le}
use native.Mathlib.Omega.{arith}
use lib.Dec.{lit<}
use lib.ListN.{length, get_or, drop, length-append, length-drop, length-map, drop_of_length-le}
use lib.Seq.{drop-cons}
use Rattle.formats.specs.declared.Case.{Case}
use Rattle.formats.specs.declared.Case.TheVariants.{Lower, Upper}
use Rattle.formats.specs.Formats.{letter_from}
use Rattle.radix.specs.Radix.{lower}
use Rattle.reading.proofs.Place.{Misses}
use Rattle.reading.proofs.Exponent.{Figure}
use Rattle.digit_runs.specs.Runs.{Digits}
use Rattle.digit_runs.proofs.Runs.{figure}

-- the letter in front of the exponent stands behind the figures
pub e_apart : (case : Case) → 57 < letter_from case 101
e_apart Lower = lit< tt
e_apart Upper = lit< tt

-- digits are as many as their places
pub digits-length : {α : ℕ → ℕ} {b : ℕ} {t : List ℕ} {from to : ℕ} (D : Digits α b t from to) → from ≤ length t → from + length D.digits ≡ to
digits-length {α} {b} {t} {from} {to} D h =
    let e : length (drop from t) ≡ length (map α D.digits) + length (drop to t) = ap length D.text ∙ length-append (map α D.digits) (drop to t) in
    omega (arith, length-drop from t, length-drop to t, length-map D.digits α, D.inside)

-- no digit stands at i
pub no-figure : (t : List ℕ) (i : ℕ) → ((d : ℕ) → d < 10 → lower d ≡ get_or t i 0 → ⊥) → Figure (get_or t i 0) → ⊥
no-figure t i f g = f g.0 g.1 (figure g.0 g.1 ∙ g.2)

-- what is not followed by what may follow
pub misses : (P : ℕ → Type 0) (t : List ℕ) (i : ℕ) → (i < length t → P (get_or t i 0) → ⊥) → Misses P (drop i t)
misses P t i f = go (dec_le (suc i) (length t))
  where
    go : Dec (i < length t) → Misses P (drop i t)
    go (yes h) = subst (Misses P) (sym (drop-cons t i 0 h)) (f h)
    go (no h) = subst (Misses P) (sym (drop_of_length-le t {i = i} (omega arith))) tt

-- where a text is known up to i, so long is what is known
pub ends_at : (a t : List ℕ) (i : ℕ) → i ≤ length t → t ≡ a ++ drop i t → length a ≡ i
ends_at a t i h e = let n : length t ≡ length a + length (drop i t) = ap length e ∙ length-append a (drop i t) in omega (arith, length-drop i t)
