-- The text of a coefficient and of an exponent, by the bytes that the code writes.
-- Assumes nothing.
use mathlib.Core.List.{List, [], ◌∷◌, ◌++◌, map}
use mathlib.Core.Path.{◌≡◌, refl, sym, ap, ◌∙◌}
use Prim.Native.Nat.{ℕ, zero, suc, ◌+◌, ◌-◌, ◌/◌, ◌%◌, ◌^◌, ◌≤◌, ◌<◌}
use native.Mathlib.Nat.{div-lt_iff_lt-mul, mod-eq_of_lt, pow-zero, div-one}
use native.Mathlib.Numerals.{add-one}
use native.Mathlib.Decide.{dec_lt}
use native.Mathlib.Omega.{arith}
use lib.ListN.{length, get_or, set}
use lib.Seq.{get_or-set_same, set-set}
use Rattle.buffer.specs.AtEnd.{ended}
use Rattle.buffer.proofs.AtEnd.{ended-sets, ended-front, length-ended}
use Rattle.digits.specs.Digits.{last}
use Rattle.digits.specs.Text.{ascii, text, last_text, decimal}
use Rattle.digits.proofs.Last.{digits_last}
use Rattle.digits.proofs.Text.{length-last_text, text-small, text-last, text-some}
use Rattle.scientific.specs.Sci.{exponent_of}
use Rattle.scientific.specs.Layout.{point}
use Rattle.scientific.proofs.Tens as T
use Rattle.encoding.specs.Coefficient.{coef_text}

-- the digits of m: the one that leads, and the f others
lead-first : (m f : ℕ) → exponent_of m ≡ f → decimal m ≡ ascii (m / 10 ^ f) ∷ last_text ascii 10 f m
unfolding text last_text last
lead-first m f e =
    let l : m / 10 ^ f % 10 ≡ m / 10 ^ f = mod-eq_of_lt ((div-lt_iff_lt-mul (T.pos f)).1 (omega (arith, rw e at (T.hi m)))) in
    ap (map ascii) (digits_last 10 T.ten m ∙ ap (λ (j : ℕ). last 10 j m) (T.digits_are m ∙ ap suc e))
    ∙ ap (λ (d : ℕ). ascii d ∷ map ascii (last 10 f m)) l

-- ---- the coefficient

-- a single digit has no point
single : (m f z : ℕ) → f + z ≡ 0 → coef_text m f z ≡ (48 + m) ∷ []
unfolding coef_text point last_text last
single m (suc f) z e = absurd (omega arith)
single m zero (suc z) e = absurd (omega arith)
single m zero zero e = rw (pow-zero, div-one) refl

pub one-length : (m f z : ℕ) → f + z ≡ 0 → 1 ≡ length (coef_text m f z)
one-length m f z e = rw (single m f z e) refl

pub one-digit : (l : List ℕ) (at m f z : ℕ) → f + z ≡ 0 → at + 1 ≤ length l → (1 ≡ length (coef_text m f z)) × (set l at (48 + m) ≡ ended l (at + 1) (coef_text m f z))
one-digit l at m f z e h = rw (single m f z e) (refl, ended-sets l at (at + 1) ((48 + m) ∷ []) refl h)

pointed : (m f z : ℕ) → (f + z ≡ 0 → ⊥) → coef_text m f z ≡ ascii (m / 10 ^ f) ∷ 46 ∷ last_text ascii 10 f m
unfolding coef_text point
pointed m f z h = ap (λ (l : List ℕ). ascii (m / 10 ^ f) ∷ l ++ last_text ascii 10 f m) (some (f + z) h)
  where
    some : (k : ℕ) → (k ≡ 0 → ⊥) → point k ≡ 46 ∷ []
    some zero n = absurd (n refl)
    some (suc k) n = refl

pub fraction-length : (m f z : ℕ) → (f + z ≡ 0 → ⊥) → f + 2 ≡ length (coef_text m f z)
fraction-length m f z n = rw (pointed m f z n) (omega (arith, length-last_text ascii 10 f m))

-- digits that stand one place to the right: the point is put in the place of the lead, and the lead in front of it
lead-moved : (l : List ℕ) (at e d : ℕ) (t : List ℕ) → at + (length t + 2) ≡ e → e ≤ length l
    → set (set (ended l e (d ∷ t)) (at + 1) 46) at (get_or (ended l e (d ∷ t)) (at + 1) 0) ≡ ended l e (d ∷ 46 ∷ t)
lead-moved l at e d t i h =
    let m = ended l e t in
    let n : length m ≡ length l = length-ended l e t (omega arith) h in
    let f : ended l e (d ∷ t) ≡ set m (at + 1) d = sym (ended-front l (at + 1) e d t (omega arith) h) in
    let g : get_or (ended l e (d ∷ t)) (at + 1) 0 ≡ d = rw f (get_or-set_same m (at + 1) d 0 (omega arith)) in
    let k : set (ended l e (d ∷ t)) (at + 1) 46 ≡ ended l e (46 ∷ t) = rw f (set-set m (at + 1) d 46 ∙ ended-front l (at + 1) e 46 t (omega arith) h) in
    rw (g, k) (ended-front l at e d (46 ∷ t) (omega arith) h)

pub fraction : (l : List ℕ) (at m f z : ℕ) → exponent_of m ≡ f → (f + z ≡ 0 → ⊥) → at + (f + 2) ≤ length l
    → (f + 2 ≡ length (coef_text m f z)) × (set (set (ended l (at + (f + 2)) (decimal m)) (at + 1) 46) at (get_or (ended l (at + (f + 2)) (decimal m)) (at + 1) 0) ≡ ended l (at + (f + 2)) (coef_text m f z))
fraction l at m f z e n h =
    let k : length (last_text ascii 10 f m) ≡ f = length-last_text ascii 10 f m in
    (fraction-length m f z n, rw (pointed m f z n, lead-first m f e) (lead-moved l at (at + (f + 2)) (ascii (m / 10 ^ f)) (last_text ascii 10 f m) (omega arith) h))

-- ---- the exponent

-- the letter, and a digit at least
pub exp-least : (letter k : ℕ) → 2 ≤ length (letter ∷ decimal k)
exp-least letter k = let l = text-some ascii 10 T.ten k in omega arith

pub one-exp : (letter e : ℕ) → e < 10 → 2 ≡ length (letter ∷ decimal e)
one-exp letter e h = rw (text-small ascii 10 T.ten e h) refl

pub two-exp : (letter e : ℕ) → 10 ≤ e → e < 100 → 3 ≡ length (letter ∷ decimal e)
unfolding last_text last
two-exp letter e h b = rw (text-last ascii 10 T.ten 1 e h b) refl

-- the letter, the tens and the units: where there is one digit, it is written over the tens
pub exp-digits : (l : List ℕ) (at letter e len : ℕ) → e < 100 → len ≡ length (letter ∷ decimal e) → at + len ≤ length l
    → set (set (set l at letter) (at + 1) (48 + e / 10)) (at + len - 1) (48 + e % 10) ≡ ended l (at + len) (letter ∷ decimal e)
unfolding last_text last
exp-digits l at letter e len b n h = go (dec_lt e 10)
  where
    go : Dec (e < 10) → set (set (set l at letter) (at + 1) (48 + e / 10)) (at + len - 1) (48 + e % 10) ≡ ended l (at + len) (letter ∷ decimal e)
    go (yes y) =
        let two : len ≡ 2 = omega (arith, one-exp letter e y) in
        let i : at + 2 - 1 ≡ at + 1 = omega arith in
        let u : e % 10 ≡ e = omega arith in
        rw (two, i, u, set-set (set l at letter) (at + 1) (48 + e / 10) (48 + e), text-small ascii 10 T.ten e y, add-one at)
        (ended-sets l at (at + 2) (letter ∷ (48 + e) ∷ []) refl (omega arith))
    go (no y) =
        let k : 10 ≤ e = omega arith in
        let three : len ≡ 3 = omega (arith, two-exp letter e k b) in
        let i : at + 3 - 1 ≡ suc (suc at) = omega arith in
        let d : e / 10 ^ 1 % 10 ≡ e / 10 = omega arith in
        let u : e / 10 ^ 0 % 10 ≡ e % 10 = omega arith in
        let t : decimal e ≡ (48 + e / 10) ∷ (48 + e % 10) ∷ [] = text-last ascii 10 T.ten 1 e k b ∙ rw (d, u) in
        rw (three, i, t, add-one at) (ended-sets l at (at + 3) (letter ∷ (48 + e / 10) ∷ (48 + e % 10) ∷ []) refl (omega arith))
