-- In each format a text is read in one way, its parts stand for one value of the type, and the canonical texts of values are the plain ones.
-- Over the bits, the base and the alphabet. Assumes nothing.
use mathlib.Core.Bool.{Bool, true, false, false≢true}
use mathlib.Core.List.{List, ◌∷◌, ◌++◌, map}
use Rattle.std.specs.Prelude.{None}
use mathlib.Core.Path.{◌≡◌, refl, sym, ap, ap₂, ◌∙◌}
use Prim.Native.Nat.{ℕ, zero, suc, ◌+◌, ◌-◌, ◌^◌, ◌≤◌, ◌<◌}
use native.Mathlib.Nat.{lt_trans}
use native.Mathlib.Omega.{arith}
use borrow.Author.Tests.{ltb-true, ltb-false}
use lib.Dec.{ltb, lit<, lit≤}
use lib.IntN.{ℤ, pos, negsuc, nat_abs}
use lib.ListN.{length, length-append}
use lib.Pow.{pow-lt}
use Rattle.digits.specs.Digits.{digits, value}
use Rattle.digits.specs.Text.{ascii, text, decimal, signed}
use Rattle.digits.proofs.Digits.{digits-below, digits-some, digits_value}
use Rattle.digits.proofs.Text.{text-some}
use Rattle.kinds.specs.Kinds.{is_in_type, pattern, reading, negative}
use Rattle.kinds.proofs.Patterns.{reading-pattern}
use Rattle.radix.specs.Radix.{digit_byte, lower, upper}
use Rattle.bit_table.proofs.Table.{table-text}
use Rattle.scientific.specs.Layout.{layout, exp_text}
use Rattle.scientific.specs.Shape.{Parts, Shaped, written, sign, number, Denotes}
use Rattle.scientific.specs.Canonical.{CanonicalParts, magnitude, Plain}
use Rattle.scientific.proofs.Canonical.{canonical-plain, plain-canonical, denotes-magnitude}
use Rattle.scientific.proofs.Demand.{one_value}
use Rattle.scientific.proofs.Tens as T
use Rattle.scientific.proofs.Text as E
use Rattle.reading.specs.Form.{Form}
use Rattle.reading.specs.Whole.{Whole, ShapedWhole, CanonicalWhole, written_whole}
use Rattle.reading.specs.Formats.{whole, decimal_form, radix_form, exponent_form, exponent_text, form, plain}
use Rattle.reading.proofs.Whole.{Alphabet, one-reading, canonical-digits, digits-canonical}

-- F is faithful to the plain texts of the type's values.
pub record Faithful (F : Form) (sgn : Bool) (bits : ℕ) (texts : ℤ → List ℕ) : Type 0 where
  pub once : (x y : F.shape.Parts) → F.shape.Shaped x → F.shape.Shaped y → F.shape.written x ≡ F.shape.written y → x ≡ y
  pub alone : (x : F.shape.Parts) (z w : ℤ) → is_in_type sgn bits z ≡ true → is_in_type sgn bits w ≡ true → F.Stands x z → F.Stands x w → z ≡ w
  pub to : (x : F.shape.Parts) (z : ℤ) → is_in_type sgn bits z ≡ true → F.shape.Shaped x → F.Canonical x → F.Stands x z → F.shape.written x ≡ texts z
  pub from : (z : ℤ) → is_in_type sgn bits z ≡ true → (x : F.shape.Parts) × F.shape.Shaped x × F.Canonical x × F.Stands x z × (texts z ≡ F.shape.written x)

-- ---- the alphabets

pub letters-alphabet : (letter b : ℕ) → 57 < letter → 1 < b → Alphabet (digit_byte letter) b
letters-alphabet letter b l big = record { big = big; own = λ d e p q. own d e (ltb d 10) (ltb e 10) refl refl; digit = λ d p. digit d (ltb d 10) refl }
  where
    own : (d e : ℕ) (s t : Bool) → ltb d 10 ≡ s → ltb e 10 ≡ t → digit_byte letter d ≡ digit_byte letter e → d ≡ e
    own d e true true p q h = let h' : 48 + d ≡ 48 + e = rw (p, q) at h in omega arith
    own d e true false p q h = let h' : 48 + d ≡ letter + (e - 10) = rw (p, q) at h in absurd (omega (arith, ltb-true d 10 p))
    own d e false true p q h = let h' : letter + (d - 10) ≡ 48 + e = rw (p, q) at h in absurd (omega (arith, ltb-true e 10 q))
    own d e false false p q h = let h' : letter + (d - 10) ≡ letter + (e - 10) = rw (p, q) at h in omega (arith, ltb-false d 10 p, ltb-false e 10 q)

    digit : (d : ℕ) (s : Bool) → ltb d 10 ≡ s → digit_byte letter d ≡ 45 → ⊥
    digit d true p h = let h' : 48 + d ≡ 45 = rw p at h in omega arith
    digit d false p h = let h' : letter + (d - 10) ≡ 45 = rw p at h in omega arith

-- ---- values of a type

-- they are known by their patterns
pattern-own : (sgn : Bool) (bits : ℕ) → 1 ≤ bits → (z w : ℤ) → is_in_type sgn bits z ≡ true → is_in_type sgn bits w ≡ true → pattern bits z ≡ pattern bits w → z ≡ w
pattern-own true bits one z w p q e = sym (reading-pattern bits bits z one (omega arith) p) ∙ ap (reading bits) e ∙ reading-pattern bits bits w one (omega arith) q
pattern-own false bits one (pos n) (pos k) p q e = ap pos e
pattern-own false bits one (pos n) (negsuc k) p q e = absurd (false≢true q)
pattern-own false bits one (negsuc k) w p q e = absurd (false≢true p)

-- a minus stands before values of signed types only, and before none of zero
negative-signed : (sgn : Bool) (bits : ℕ) (z : ℤ) → is_in_type sgn bits z ≡ true → negative z ≡ true → sgn ≡ true
negative-signed true bits z p e = refl
negative-signed false bits (pos n) p e = absurd (false≢true e)
negative-signed false bits (negsuc k) p e = absurd (false≢true p)

negative-pos : (z : ℤ) → negative z ≡ true → 0 < nat_abs z
negative-pos (pos n) e = absurd (false≢true e)
negative-pos (negsuc k) e = omega arith

whole_split : (z : ℤ) → whole (negative z) (nat_abs z) ≡ z
whole_split (pos n) = refl
whole_split (negsuc k) = refl

pub nat_abs-lt : (sgn : Bool) (bits : ℕ) (z : ℤ) → 1 ≤ bits → is_in_type sgn bits z ≡ true → nat_abs z < 2 ^ bits
nat_abs-lt false bits (pos n) one p = ltb-true n (2 ^ bits) p
nat_abs-lt false bits (negsuc k) one p = absurd (false≢true p)
nat_abs-lt true bits (pos n) one p = omega (arith, ltb-true n (2 ^ (bits - 1)) p, pow-lt {i = bits - 1} {j = bits} (omega arith))
nat_abs-lt true bits (negsuc k) one p = omega (arith, ltb-true k (2 ^ (bits - 1)) p, pow-lt {i = bits - 1} {j = bits} (omega arith))

pub pattern_lt : (sgn : Bool) (bits : ℕ) (z : ℤ) → 1 ≤ bits → is_in_type sgn bits z ≡ true → pattern bits z < 2 ^ bits
pattern_lt sgn bits (pos n) one p = nat_abs-lt sgn bits (pos n) one p
pattern_lt sgn bits (negsuc k) one p = let l = nat_abs-lt sgn bits (negsuc k) one p in omega arith

-- ---- texts of digits

module _ (α : ℕ → ℕ) (b : ℕ) (A : Alphabet α b) where
  -- canonical digits are the text of what they stand for
  written-text : (may : Bool) (x : Whole) → ShapedWhole may b x → CanonicalWhole b x → written_whole α x ≡ sign x.minus ++ text α b (value b x.digits)
  unfolding text
  written-text may x h K = ap (λ (ds : List ℕ). sign x.minus ++ map α ds) (canonical-digits α b A x h.each h.some K)

  whole-shaped : (may m : Bool) (n : ℕ) → (m ≡ true → may ≡ true) → ShapedWhole may b (record { minus = m; digits = digits b n })
  whole-shaped may m n h = record { minus = h; each = digits-below b A.big n; some = digits-some b A.big n }

  pub radix-faithful : (sgn : Bool) (bits : ℕ) → 1 ≤ bits → Faithful (radix_form α b bits) sgn bits (λ (z : ℤ). text α b (pattern bits z))
  unfolding text
  radix-faithful sgn bits one = record {
    once = one-reading α b A false;
    alone = λ x z w p q e f. pattern-own sgn bits one z w p q (sym e ∙ f);
    to = λ x z t h K S. written-text false x h K ∙ ap₂ (λ (m : Bool) (n : ℕ). sign m ++ text α b n) (no_minus x.minus h.minus) S;
    from = λ z t. (
      record { minus = false; digits = digits b (pattern bits z) },
      whole-shaped false false (pattern bits z) (λ e. e),
      digits-canonical α b A false (pattern bits z) (λ e. absurd (false≢true e)),
      digits_value b A.big (pattern bits z),
      refl,
    );
  }
    where
      no_minus : (m : Bool) → (m ≡ true → false ≡ true) → m ≡ false
      no_minus true f = absurd (false≢true (f refl))
      no_minus false f = refl

tens : Alphabet lower 10
tens = letters-alphabet 97 10 (lit< tt) (lit< tt)

-- decimal digits need no letters
decimal-is : (n : ℕ) → decimal n ≡ text lower 10 n
decimal-is n = sym (table-text 10 ascii 10 n (lit< tt) (lit≤ tt)) ∙ table-text 10 lower 10 n (lit< tt) (lit≤ tt)

signed_is : (z : ℤ) → signed z ≡ sign (negative z) ++ text lower 10 (nat_abs z)
unfolding signed
signed_is (pos n) = decimal-is n
signed_is (negsuc k) = ap (λ (l : List ℕ). 45 ∷ l) (decimal-is (suc k))

-- a magnitude that is not 0 behind a minus
pub sign_of : (m : Bool) (n : ℕ) → (m ≡ true → n ≡ 0 → ⊥) → (negative (whole m n) ≡ m) × (nat_abs (whole m n) ≡ n)
sign_of false n h = (refl, refl)
sign_of true zero h = absurd (h refl refl)
sign_of true (suc k) h = (refl, refl)

pub decimal-faithful : (sgn : Bool) (bits : ℕ) → Faithful (decimal_form sgn) sgn bits signed
unfolding text
decimal-faithful sgn bits = record {
  once = one-reading lower 10 tens sgn;
  alone = λ x z w p q e f. e ∙ sym f;
  to = λ x z t h K S. to x z h K S;
  from = λ z t. (
    record { minus = negative z; digits = digits 10 (nat_abs z) },
    whole-shaped lower 10 tens sgn (negative z) (nat_abs z) (negative-signed sgn bits z t),
    digits-canonical lower 10 tens (negative z) (nat_abs z) (λ e n. omega (arith, negative-pos z e)),
    sym (ap (whole (negative z)) (digits_value 10 tens.big (nat_abs z)) ∙ whole_split z),
    signed_is z,
  );
}
  where
    to : (x : Whole) (z : ℤ) → ShapedWhole sgn 10 x → CanonicalWhole 10 x → z ≡ whole x.minus (value 10 x.digits) → written_whole lower x ≡ signed z
    to x z h K S =
        let s = sign_of x.minus (value 10 x.digits) K.minus in
        let w = ap₂ (λ (m : Bool) (n : ℕ). sign m ++ text lower 10 n) s.0 s.1 in
        written-text lower 10 tens sgn x h K ∙ sym w ∙ sym (signed_is (whole x.minus (value 10 x.digits))) ∙ ap signed (sym S)

-- ---- exponent texts

-- every number of so many bits has an exponent of at most two digits
module _ (sgn : Bool) (bits letter : ℕ) (one : 1 ≤ bits) (small : 2 ^ bits < 10 ^ 100) (l : 57 < letter) where
  plain-text : (z : ℤ) → is_in_type sgn bits z ≡ true → Plain sgn letter (exponent_text letter z) (negative z) (nat_abs z)
  plain-text z t = record { text = refl; signs = negative-signed sgn bits z t; pos = negative-pos z; expo = T.le 99 (nat_abs z) (lt_trans (nat_abs-lt sgn bits z one t) small) }

  pub exponent-faithful : Faithful (exponent_form sgn letter) sgn bits (exponent_text letter)
  exponent-faithful = record {
    once = λ x y p q e. E.one-reading sgn sgn letter (written letter x) x y l (record { shaped = p; text = refl }) (record { shaped = q; text = e });
    alone = λ x z w p q e f. e.2 ∙ ap (whole x.minus) (one_value (number x) e.0 f.0 e.1 f.1) ∙ sym f.2;
    to = λ x z t h K S. to x z h K S.0 S.1 S.2;
    from = λ z t. from z t;
  }
    where
      to : (x : Parts) (z : ℤ) → Shaped sgn x → CanonicalParts x → (n : ℕ) → Denotes (number x) n → z ≡ whole x.minus n → written letter x ≡ exponent_text letter z
      to x z h K n d e =
          let P = canonical-plain {signed = sgn} {letter = letter} {t = written letter x} {x = x} (record { shaped = h; text = refl }) K in
          let m : magnitude x ≡ n = one_value (number x) (magnitude x) n (denotes-magnitude x K) d in
          let s = sign_of x.minus (magnitude x) (λ p q. omega (arith, P.pos p)) in
          let w = ap₂ (λ (m : Bool) (n : ℕ). sign m ++ exp_text letter None n) s.0 s.1 in
          P.text ∙ sym w ∙ ap (λ (n : ℕ). exponent_text letter (whole x.minus n)) m ∙ ap (exponent_text letter) (sym e)

      from : (z : ℤ) → is_in_type sgn bits z ≡ true → (x : Parts) × Shaped sgn x × CanonicalParts x × ((n : ℕ) × Denotes (number x) n × (z ≡ whole x.minus n)) × (exponent_text letter z ≡ written letter x)
      from z t =
          let Q = plain-canonical (plain-text z t) in
          let e : z ≡ whole Q.0.minus (magnitude Q.0) = sym (ap₂ whole Q.3 Q.4 ∙ whole_split z) in
          (Q.0, Q.1.shaped, Q.2, (magnitude Q.0, denotes-magnitude Q.0 Q.2, e), Q.1.text)

-- ---- every format

pub faithful : (sgn : Bool) (bits format : ℕ) → 1 ≤ bits → 2 ^ bits < 10 ^ 100 → Faithful (form sgn bits format) sgn bits (plain bits format)
unfolding form plain
faithful sgn bits zero one small = decimal-faithful sgn bits
faithful sgn bits (suc zero) one small = radix-faithful lower 2 (letters-alphabet 97 2 (lit< tt) (lit< tt)) sgn bits one
faithful sgn bits (suc (suc zero)) one small = radix-faithful lower 8 (letters-alphabet 97 8 (lit< tt) (lit< tt)) sgn bits one
faithful sgn bits (suc (suc (suc zero))) one small = radix-faithful lower 16 (letters-alphabet 97 16 (lit< tt) (lit< tt)) sgn bits one
faithful sgn bits (suc (suc (suc (suc zero)))) one small = radix-faithful upper 16 (letters-alphabet 65 16 (lit< tt) (lit< tt)) sgn bits one
faithful sgn bits (suc (suc (suc (suc (suc zero))))) one small = exponent-faithful sgn bits 101 one small (lit< tt)
faithful sgn bits (suc (suc (suc (suc (suc (suc k)))))) one small = exponent-faithful sgn bits 69 one small (lit< tt)

-- no plain text is empty
behind : (m : Bool) (u : List ℕ) → 0 < length u → 0 < length (sign m ++ u)
behind m u h = rw (length-append (sign m) u) (omega arith)

exponent-some : (letter : ℕ) (z : ℤ) → 0 < length (exponent_text letter z)
unfolding exp_text layout
exponent-some letter z = behind (negative z) (exp_text letter None (nat_abs z)) (omega arith)

pub plain-some : (bits format : ℕ) (z : ℤ) → 0 < length (plain bits format z)
unfolding plain
plain-some bits zero z = rw (signed_is z) (behind (negative z) (text lower 10 (nat_abs z)) (text-some lower 10 (lit< tt) (nat_abs z)))
plain-some bits (suc zero) z = text-some lower 2 (lit< tt) (pattern bits z)
plain-some bits (suc (suc zero)) z = text-some lower 8 (lit< tt) (pattern bits z)
plain-some bits (suc (suc (suc zero))) z = text-some lower 16 (lit< tt) (pattern bits z)
plain-some bits (suc (suc (suc (suc zero)))) z = text-some upper 16 (lit< tt) (pattern bits z)
plain-some bits (suc (suc (suc (suc (suc zero))))) z = exponent-some 101 z
plain-some bits (suc (suc (suc (suc (suc (suc k)))))) z = exponent-some 69 z
