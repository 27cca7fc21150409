-- Mission demand 3 holds of the exponent text, for every magnitude whose exponent has at most two digits; and what is asked without precision.
-- Assumes nothing.
use mathlib.Core.Bool.{false}
use mathlib.Core.List.{List, [], ◌∷◌, ◌++◌}
use Rattle.std.specs.Prelude.{None, Some}
use mathlib.Core.Path.{◌≡◌, refl, sym, ap, ◌∙◌, subst}
use Prim.Native.Nat.{ℕ, suc, ◌+◌, ◌-◌, ◌*◌, ◌/◌, ◌%◌, ◌^◌, ◌≤◌, ◌<◌}
use native.Mathlib.Nat.{eq_of_mul-eq-mul_right, le-div_iff_mul-le}
use native.Mathlib.Omega.{arith}
use lib.ListN.{length, length-append}
use Rattle.digits.specs.Digits.{Below, value}
use Rattle.digits.proofs.Digits.{value-snoc}
use Rattle.digits.proofs.Last.{value-lt}
use Rattle.scientific.specs.Sci.{Sci, exponent_of, rounded, short, fixed, sci}
use Rattle.scientific.specs.Layout.{layout, exp_text}
use Rattle.scientific.specs.Shape.{Parts, number, Denotes}
use Rattle.scientific.specs.Demand.{Rounds, Demand3, Shortest, Only}
use Rattle.scientific.proofs.Tens as T
use Rattle.scientific.proofs.Fixed as F
use Rattle.scientific.proofs.Short as S
use Rattle.scientific.proofs.Text.{parts, reads, number-parts, one-reading}

-- a number denotes one whole number at most
pub one_value : (s : Sci) (a b : ℕ) → Denotes s a → Denotes s b → a ≡ b
one_value s a b x y = eq_of_mul-eq-mul_right (10 ^ s.frac) (T.pos s.frac) a b (sym x ∙ y)

-- the first of f + 1 digits is not 0
pub lead-pos : (f c : ℕ) → 10 ^ f ≤ c → 0 < c / 10 ^ f
lead-pos f c h = (le-div_iff_mul-le (T.pos f)).1 (omega arith)

-- the text of s is an exponent text with the parts of s, and no others
only : (letter : ℕ) (s : Sci) (P : Parts → Type 0) → 57 < letter → s.coef < 10 ^ suc s.frac → s.expo ≤ 99 → P (parts false s) → Only letter (layout letter s) P
only letter s P l h k p =
    let R = reads false false letter s (λ e. e) h k in
    record {
      parts = parts false s;
      reads = R;
      holds = p;
      other = λ signed y r. one-reading signed false letter (layout letter s) y (parts false s) l r R;
    }

-- ---- with precision p

facts : (n p : ℕ) → Demand3 n p (parts false (fixed p n))
unfolding parts Below
facts n p =
    let s = fixed p n in
    let N = number-parts false s in
    let K : F.Shown n p (number (parts false s)) = subst (λ (z : Sci). F.Shown n p z) (sym N) (F.shown n p) in
    record {
      plus = refl;
      lead = λ h. rw (F.shown n p).places (lead-pos p s.coef ((F.shown n p).low h));
      places = K.places;
      exact = λ l. rw K.places (K.exact l);
      rounds = λ l. (_, subst (λ (z : Sci). Rounds (10 ^ (exponent_of n - p)) n z (rounded (10 ^ (exponent_of n - p)) n * 10 ^ (exponent_of n - p))) (sym N) (F.rounds n p l));
      nearest = λ signed letter t y r e.
          K.nearest y.minus (number y).coef (number y).expo
          (subst (λ (k : ℕ). (number y).coef < 10 ^ suc k) e (value-lt 10 T.ten (y.lead ∷ y.frac) (r.shaped.lead, r.shaped.frac)));
    }

pub demand3 : (letter n p : ℕ) → 57 < letter → (fixed p n).expo ≤ 99 → Only letter (exp_text letter (Some p) n) (Demand3 n p)
unfolding exp_text sci
demand3 letter n p l h = only letter (fixed p n) (Demand3 n p) l (rw (F.shown n p).places (F.shown n p).high) h (facts n p)

-- zero's text, `zero-text` of Steps, denotes 0
pub zero-denotes : (letter p : ℕ) → 57 < letter → Only letter (exp_text letter (Some p) 0) (λ x. Denotes (number x) 0)
zero-denotes letter p l =
    let z = T.small 0 (omega arith) in
    let O = demand3 letter 0 p l (omega (arith, (F.shown 0 p).most)) in
    record { parts = O.parts; reads = O.reads; holds = O.holds.exact (omega arith); other = O.other }

-- ---- without precision

-- a fraction that ends in 0 has a digit, and with the lead it is a number that ends in 0
pub ends-zero : (x : Parts) (ds : List ℕ) → x.frac ≡ ds ++ (0 ∷ []) → (0 < length x.frac) × ((number x).coef % 10 ≡ 0)
ends-zero x ds e =
    let c : value 10 (x.lead ∷ x.frac) ≡ value 10 (x.lead ∷ ds) * 10 + 0 = ap (λ (l : List ℕ). value 10 (x.lead ∷ l)) e ∙ value-snoc 10 T.ten (x.lead ∷ ds) 0 in
    (omega (arith, ap length e ∙ length-append ds (0 ∷ [])), omega arith)

short-facts : (n : ℕ) → Shortest n (parts false (short n))
unfolding parts
short-facts n =
    let s = short n in
    let K : S.Shown n (number (parts false s)) = subst (λ (z : Sci). S.Shown n z) (sym (number-parts false s)) (S.shown n) in
    record {
      plus = refl;
      lead = λ h. lead-pos s.frac s.coef ((S.shown n).low h);
      denotes = K.denotes;
      spare = λ ds e. let z = ends-zero (parts false s) ds e in K.spare z.0 z.1;
      enough = K.enough;
    }

pub shortest : (letter n : ℕ) → 57 < letter → exponent_of n ≤ 99 → Only letter (exp_text letter None n) (Shortest n)
unfolding exp_text sci
shortest letter n l h = only letter (short n) (Shortest n) l (S.shown n).high (rw (S.shown n).expo h) (short-facts n)
