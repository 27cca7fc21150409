-- The canonical exponent texts are exactly the texts without precision, behind a minus where the number is not 0.
-- Assumes nothing.
use mathlib.Core.Bool.{Bool, true}
use mathlib.Core.List.{List, [], ◌∷◌, ◌++◌}
use Rattle.std.specs.Prelude.{None}
use mathlib.Core.Path.{◌≡◌, refl, sym, ap, ◌∙◌, subst}
use Prim.Native.Nat.{ℕ, zero, suc, ◌-◌, ◌*◌, ◌/◌, ◌%◌, ◌^◌, ◌≤◌, ◌<◌}
use native.Mathlib.Nat.{mul-le-mul_right, mul-lt-mul_of_pos_right, mul-pos, pow-suc}
use native.Mathlib.Decide.{dec_le}
use native.Mathlib.Omega.{arith}
use lib.Arith.{digits_div}
use lib.ListN.{length, get_or}
use Rattle.digits.specs.Digits.{up_to, bare, digits, last, value_from, value, Below, Canonical}
use Rattle.digits.proofs.Digits.{canonical, unique}
use Rattle.digits.proofs.Last.{last_snoc, last_cons, value-cons, value-lt}
use Rattle.scientific.specs.Sci.{Sci, exponent_of, trimmed, short, sci}
use Rattle.scientific.specs.Layout.{layout, exp_text}
use Rattle.scientific.specs.Shape.{Parts, sign, written, Shaped, Reads, number, Denotes}
use Rattle.scientific.specs.Canonical.{CanonicalParts, magnitude, Plain}
use Rattle.scientific.proofs.Tens as T
use Rattle.scientific.proofs.Short as S
use Rattle.scientific.proofs.Text.{parts, layout-written, reads, number-parts}
use Rattle.scientific.proofs.Demand.{one_value, lead-pos, ends-zero}

-- ---- a canonical text is the text of its magnitude

-- an exponent of one digit, or of two that do not start with 0, is written again
expo-again : (ds : List ℕ) → Below 10 ds → 1 ≤ length ds → length ds ≤ 2 → ((d : ℕ) → ds ≡ 0 ∷ d ∷ [] → ⊥) → digits 10 (value 10 ds) ≡ ds
expo-again ds h l k f = sym (unique 10 T.ten (value 10 ds) ds (record { stands = refl; each = h; some = l; lead = lead ds k f }))
  where
    lead : (ds : List ℕ) → length ds ≤ 2 → ((d : ℕ) → ds ≡ 0 ∷ d ∷ [] → ⊥) → 1 < length ds → 0 < get_or ds 0 0
    lead [] k f h = absurd (omega arith)
    lead (c ∷ []) k f h = absurd (omega arith)
    lead (zero ∷ d ∷ []) k f h = absurd (f d refl)
    lead (suc c ∷ d ∷ []) k f h = omega arith
    lead (c ∷ d ∷ g ∷ ds) k f h = absurd (omega arith)

-- digits M, the lead not 0, f of them behind the point, the last not 0, and an exponent k: what is written of M times 10^(k-f)
is-short : (M f k : ℕ) → 10 ^ f ≤ M → M < 10 ^ suc f → f ≤ k → (0 < f → M % 10 ≡ 0 → ⊥) → short (M * 10 ^ (k - f)) ≡ record { coef = M; frac = f; expo = k }
is-short M f k lo hi l h =
    let n = M * 10 ^ (k - f) in
    let hi' : M < 10 ^ f * 10 = rw pow-suc at hi in
    let a : 10 ^ k ≤ n = omega (arith, T.split l, mul-le-mul_right (10 ^ (k - f)) lo) in
    let b : n < 10 ^ suc k = omega (arith, T.split l, mul-lt-mul_of_pos_right hi' (T.pos (k - f))) in
    let e : exponent_of n ≡ k = T.is k a b in
    let w : exponent_of n - (k - f) ≡ f = omega arith in
    S.short-is n M (k - f) (omega arith) refl (λ g. h (omega arith)) ∙ λ i. record { coef = M; frac = w i; expo = e i }

zero-short : short (value 10 (0 ∷ []) * 10 ^ (value 10 (0 ∷ []) - 0)) ≡ record { coef = value 10 (0 ∷ []); frac = 0; expo = value 10 (0 ∷ []) }
unfolding short trimmed exponent_of digits bare up_to value value_from
zero-short = refl

module _ (x : Parts) (signed : Bool) (Sh : Shaped signed x) (K : CanonicalParts x) where
  -- the last digit of the fraction is not 0
  last-pos : (k : ℕ) → length x.frac ≡ k → 0 < k → (number x).coef % 10 ≡ 0 → ⊥
  last-pos zero e h z = omega arith
  last-pos (suc k) e h z =
      let M = (number x).coef in
      let f : x.frac ≡ last 10 (suc k) M = sym (last_cons 10 T.ten x.lead x.frac Sh.frac) ∙ ap (λ (j : ℕ). last 10 j M) e in
      K.spare (last 10 k (M / 10)) (f ∙ last_snoc 10 k M ∙ ap (λ (d : ℕ). last 10 k (M / 10) ++ (d ∷ [])) z)

  parts-number : parts x.minus (number x) ≡ x
  unfolding parts
  parts-number = λ i. record {
    minus = x.minus;
    lead = l i;
    frac = last_cons 10 T.ten x.lead x.frac Sh.frac i;
    expo = expo-again x.expo Sh.expo Sh.one Sh.two K.expo i;
  }
    where
      l : value 10 (x.lead ∷ x.frac) / 10 ^ length x.frac ≡ x.lead
      l = rw (value-cons 10 T.ten x.lead x.frac) (digits_div x.lead (value-lt 10 T.ten x.frac Sh.frac))

  number_short : short (magnitude x) ≡ number x
  unfolding Below
  number_short = go (dec_le 1 x.lead)
    where
      go : Dec (0 < x.lead) → short (magnitude x) ≡ number x
      go (yes h) =
          is-short (number x).coef (number x).frac (number x).expo
          (omega (arith, value-cons 10 T.ten x.lead x.frac, mul-le-mul_right (10 ^ length x.frac) h))
          (value-lt 10 T.ten (x.lead ∷ x.frac) (Sh.lead, Sh.frac))
          K.enough
          (last-pos (length x.frac) refl)
      go (no h) = let z : x.lead ≡ 0 = omega arith in rw (z, (K.lead z).0, (K.lead z).1) zero-short

  magnitude-expo : exponent_of (magnitude x) ≤ 99
  magnitude-expo =
      let e : exponent_of (magnitude x) ≡ value 10 x.expo = sym (S.shown (magnitude x)).expo ∙ ap (λ (s : Sci). s.expo) number_short in
      let a : value 10 x.expo < 10 ^ length x.expo = value-lt 10 T.ten x.expo Sh.expo in
      let b : 10 ^ length x.expo ≤ 10 ^ 2 = T.powers Sh.two in
      omega arith

  written-again : (letter : ℕ) → written letter x ≡ sign x.minus ++ exp_text letter None (magnitude x)
  unfolding exp_text sci
  written-again letter =
      sym (ap (λ (s : Sci). sign x.minus ++ layout letter s) number_short
      ∙ layout-written x.minus letter (number x)
      ∙ ap (written letter) parts-number)

  magnitude-pos : x.minus ≡ true → 0 < magnitude x
  magnitude-pos m = let c : ((number x).coef ≡ 0 → ⊥) = K.minus m in mul-pos (omega arith) (T.pos ((number x).expo - (number x).frac))

pub canonical-plain : {signed : Bool} {letter : ℕ} {t : List ℕ} {x : Parts} → Reads signed letter t x → CanonicalParts x → Plain signed letter t x.minus (magnitude x)
canonical-plain {signed} {letter} {t} {x} R K = record {
  text = R.text ∙ written-again x signed R.shaped K letter;
  signs = R.shaped.minus;
  pos = magnitude-pos x signed R.shaped K;
  expo = magnitude-expo x signed R.shaped K;
}

-- and denotes it
pub denotes-magnitude : (x : Parts) → CanonicalParts x → Denotes (number x) (magnitude x)
denotes-magnitude x K = rw (T.split K.enough) (omega arith)

-- ---- a text without precision is canonical

lead_zero : (n : ℕ) → (short n).coef / 10 ^ (short n).frac ≡ 0 → (last 10 (short n).frac (short n).coef ≡ []) × (digits 10 (short n).expo ≡ 0 ∷ [])
unfolding short trimmed exponent_of digits bare up_to last
lead_zero zero e = (refl, refl)
lead_zero (suc n) e = absurd (omega (arith, lead-pos (short (suc n)).frac (short (suc n)).coef ((S.shown (suc n)).low (omega arith))))

no_zero : (k d : ℕ) → digits 10 k ≡ 0 ∷ d ∷ [] → ⊥
no_zero k d e =
    let c = subst (λ (ds : List ℕ). Canonical 10 k ds) e (canonical 10 T.ten k) in
    omega (arith, c.lead (omega arith))

text-canonical : (minus : Bool) (n : ℕ) → (minus ≡ true → 0 < n) → CanonicalParts (parts minus (short n))
unfolding parts
text-canonical minus n pos =
    let s = short n in
    let x = parts minus s in
    let K : S.Shown n (number x) = subst (λ (z : Sci). S.Shown n z) (sym (number-parts minus s)) (S.shown n) in
    record {
      minus = λ m z. omega (arith, K.low (pos m), T.pos (number x).frac);
      lead = lead_zero n;
      spare = λ ds e. let z = ends-zero x ds e in K.spare z.0 z.1;
      expo = no_zero s.expo;
      enough = K.enough;
    }

pub plain-canonical : {signed : Bool} {letter : ℕ} {t : List ℕ} {minus : Bool} {n : ℕ} → Plain signed letter t minus n
    → (x : Parts) × Reads signed letter t x × CanonicalParts x × (x.minus ≡ minus) × (magnitude x ≡ n)
unfolding exp_text sci parts
plain-canonical {signed} {letter} {t} {minus} {n} P =
    let s = short n in
    let x = parts minus s in
    let K = text-canonical minus n P.pos in
    let R = reads signed minus letter s P.signs (S.shown n).high (rw (S.shown n).expo P.expo) in
    let d : Denotes (number x) n = subst (λ (z : Sci). Denotes z n) (sym (number-parts minus s)) (S.shown n).denotes in
    (x, record { shaped = R.shaped; text = P.text ∙ R.text }, K, refl, one_value (number x) (magnitude x) n (denotes-magnitude x K) d)
