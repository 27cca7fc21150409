-- Digits and runs of digits: how the code comes by them, a byte at a time.
-- Assumes nothing.
use Rattle.std.proofs.Common.{◌≡◌, ℕ, ◌+◌, ◌-◌, ◌*◌, ◌/◌, ◌%◌, ◌^◌, ◌<◌, ◌≤◌, Bool, true, false, Option, Some, None, SomeIff, ltb, List, [], ◌∷◌, ◌++◌, map, length, get_or, drop, sym, refl, ap, ◌∙◌, true≢false, append_assoc, le_trans, le-add_right, mul-le-mul_right, mod-lt, mod-eq_of_lt, div-add-mod', le-mul_of_pos_right, add-one, arith, subst, drop-cons, ltb-false, ltb-true, lt-ltb}
use mathlib.Core.Bool.{false≢true}
use mathlib.Core.List.{map-append}
use Rattle.digits.specs.Digits.{value_from, Below}
use Rattle.digits.specs.Text.{ascii}
use Rattle.digits.proofs.Digits.{Below-snoc, Below-append, value_from-append}
use Rattle.radix.specs.Radix.{digit_byte, lower}
use Rattle.lanes.proofs.Letters.{map_same}
use Rattle.scientific.specs.Shape.{sign}
use Rattle.digit_runs.specs.Runs.{IsDigit, Digits, DigitRun, Scanned, Front}

-- ---- decimal digits need no letters

pub figure : (d : ℕ) → d < 10 → lower d ≡ ascii d
figure d h = rw (lt-ltb d 10 h)

pub figures : (ds : List ℕ) → Below 10 ds → map lower ds ≡ map ascii ds
figures ds h = map_same lower ascii 10 figure ds h

-- ---- a digit

-- r is the hex digit that the byte is, if it is one
pub record IsHex (letter byte r : ℕ) : Type 0 where
  pub is : r < 16 → digit_byte letter r ≡ byte
  pub only : (d : ℕ) → d < 16 → digit_byte letter d ≡ byte → r ≡ d

-- a digit below 10 is known by its figure, one from 10 on by its letter
pub is_hex : (letter byte r : ℕ) → (r < 10 → 48 + r ≡ byte) → (10 ≤ r → r < 16 → letter + (r - 10) ≡ byte)
    → ((d : ℕ) → d < 10 → 48 + d ≡ byte → r ≡ d) → ((d : ℕ) → 10 ≤ d → d < 16 → letter + (d - 10) ≡ byte → r ≡ d) → IsHex letter byte r
is_hex letter byte r low high only-low only_high = record { is = is (ltb r 10) refl; only = λ d. only d (ltb d 10) refl }
  where
    is : (t : Bool) → ltb r 10 ≡ t → r < 16 → digit_byte letter r ≡ byte
    is true e h = rw e (low (ltb-true r 10 e))
    is false e h = rw e (high (ltb-false r 10 e) h)

    only : (d : ℕ) (t : Bool) → ltb d 10 ≡ t → d < 16 → digit_byte letter d ≡ byte → r ≡ d
    only d true e h g = only-low d (ltb-true d 10 e) (rw e at g)
    only d false e h g = only_high d (ltb-false d 10 e) h (rw e at g)

-- a hex digit is a digit of the base, if it is below it
pub is_digit : {letter byte r b : ℕ} (s : Option ℕ) → IsHex letter byte r → r < 16 → b ≤ 16 → SomeIff s (r < b) r → IsDigit (digit_byte letter) b byte s
is_digit (Some d) I h few e = rw e.1 (e.0, I.is h)
is_digit {b = b} None I h few e = λ d l g. e (subst (λ (n : ℕ). n < b) (sym (I.only d (omega arith) g)) l)

-- and none of the base otherwise, nor is a byte that is no hex digit
pub no_digit : {letter byte r b : ℕ} → IsHex letter byte r → b ≤ r → b ≤ 16 → IsDigit (digit_byte letter) b byte None
no_digit I h few = λ d l g. let e = I.only d (omega arith) g in omega arith

pub not-digit : {letter byte r b : ℕ} → IsHex letter byte r → 16 ≤ r → b ≤ 16 → IsDigit (digit_byte letter) b byte None
not-digit I h few = no_digit I (omega arith) few

-- a byte less another, wrapped: a small difference is the true one
pub less : (x a byte : ℕ) → x + a < 256 → (x + a) % 2 ^ 8 ≡ byte → x + a ≡ byte
less x a byte h e = sym (mod-eq_of_lt h) ∙ e

-- and a true one that is small is no larger
pub not-less : (x a byte k d : ℕ) → x < 256 → (x + a) % 2 ^ 8 ≡ byte → k ≤ x → d < k → a + d ≡ byte → ⊥
not-less x a byte k d h e l g f = omega (arith, div-add-mod' (x + a) 256)

module _ (α : ℕ → ℕ) (b : ℕ) (t : List ℕ) (from : ℕ) where
  pub no-digits : from ≤ length t → Digits α b t from from
  unfolding Below
  no-digits h = record { digits = []; each = tt; inside = h; text = refl }

  -- one digit more
  pub one-digit : (big : 1 < b) (i d : ℕ) (D : Digits α b t from i) → i < length t → d < b → α d ≡ get_or t i 0 → Digits α b t from (i + 1)
  one-digit big i d D h l e = record {
    digits = D.digits ++ (d ∷ []);
    each = Below-snoc b big D.digits d D.each l;
    inside = omega arith;
    text = text;
  }
    where
      next : drop i t ≡ α d ∷ drop (i + 1) t
      next = rw (add-one i, e) (drop-cons t i 0 h)

      text : drop from t ≡ map α (D.digits ++ (d ∷ [])) ++ drop (i + 1) t
      text = rw (map-append α D.digits (d ∷ []), append_assoc (map α D.digits) (α d ∷ []) (drop (i + 1) t), ← next) D.text

-- digits behind digits
followed : {α : ℕ → ℕ} {b : ℕ} {t : List ℕ} {from i j : ℕ} → Digits α b t from i → Digits α b t i j → Digits α b t from j
followed {α} {b} {t} {from} {i} {j} D E = record {
  digits = D.digits ++ E.digits;
  each = Below-append b D.digits E.digits D.each E.each;
  inside = E.inside;
  text = rw (map-append α D.digits E.digits, append_assoc (map α D.digits) (map α E.digits) (drop j t), ← E.text) D.text;
}

-- ---- what the next byte is

module _ (α : ℕ → ℕ) (b : ℕ) (t : List ℕ) (from i : ℕ) (D : Digits α b t from i) where
  pub run_more : (big : 1 < b) (d : ℕ) → i < length t → IsDigit α b (get_or t i 0) (Some d) → Digits α b t from (i + 1)
  run_more big d h I = one-digit α b t from big i d D h I.0 I.1

  pub run-stops : IsDigit α b (get_or t i 0) None → DigitRun α b t from i
  run-stops I = record { run = D; stop = λ h. I }

pub run_ends : {α : ℕ → ℕ} {b : ℕ} {t : List ℕ} {from i : ℕ} → Digits α b t from i → i ≡ length t → DigitRun α b t from (length t)
run_ends {α} {b} {t} {from} D e = subst (DigitRun α b t from) e (record { run = D; stop = λ g. absurd (omega (arith, e)) })

-- ---- the number that the digits stand for

-- up to i there are digits, and v is read of them behind what was read before, in 64 bits
pub record Sofar (α : ℕ → ℕ) (b before : ℕ) (t : List ℕ) (from i v : ℕ) : Type 0 where
  pub run : Digits α b t from i
  pub is : v ≡ value_from b before run.digits
  pub fits : v < 2 ^ 64

pub sofar-none : (α : ℕ → ℕ) (b before : ℕ) (t : List ℕ) (from : ℕ) → from ≤ length t → before < 2 ^ 64 → Sofar α b before t from from before
unfolding value_from no-digits
sofar-none α b before t from h f = record { run = no-digits α b t from h; is = refl; fits = f }

pub scanned : {α : ℕ → ℕ} {b before : ℕ} {t : List ℕ} {from i v : ℕ} (S : Sofar α b before t from i v) → (i < length t → IsDigit α b (get_or t i 0) None)
    → Scanned α b before t from (record { end = i; value = Some v })
scanned S f = record { stops = record { run = S.run; stop = f }; number = (omega (arith, S.is, S.fits), S.is) }

pub scanned-all : {α : ℕ → ℕ} {b before : ℕ} {t : List ℕ} {from i v : ℕ} (S : Sofar α b before t from i v) → i ≡ length t → Scanned α b before t from (record { end = length t; value = Some v })
scanned-all {α} {b} {before} {t} {from} {i} {v} S e = subst (λ (n : ℕ). Scanned α b before t from (record { end = n; value = Some v })) e (scanned S (λ h. absurd (omega (arith, e))))

-- what follows makes the number no smaller
pub value_from-le : (b acc : ℕ) (ds : List ℕ) → 1 < b → acc ≤ value_from b acc ds
unfolding value_from
value_from-le b acc [] big = omega arith
value_from-le b acc (d ∷ ds) big = le_trans (le_trans (le-mul_of_pos_right acc (omega arith)) (le-add_right (acc * b) d)) (value_from-le b (acc * b + d) ds big)

module _ (α : ℕ → ℕ) (b before : ℕ) (t : List ℕ) (from i v r : ℕ) (big : 1 < b) (S : Sofar α b before t from i v) (inside : i < length t) (I : IsDigit α b (get_or t i 0) (Some r)) where
  -- a digit more, and what is read then
  more : (D : Digits α b t from (i + 1)) × (v * b + r ≡ value_from b before D.digits)
  unfolding value_from run_more one-digit
  more = (run_more α b t from i S.run big r inside I, ap (λ (x : ℕ). x * b + r) S.is ∙ sym (value_from-append b big before S.run.digits (r ∷ [])))

  pub sofar-more : v * b + r < 2 ^ 64 → Sofar α b before t from (i + 1) (v * b + r)
  sofar-more f = let D = more in record { run = D.0; is = D.1; fits = f }

  pub scanned-over : (end : ℕ) → 2 ^ 64 ≤ v * b + r → DigitRun α b t (i + 1) end → Scanned α b before t from (record { end = end; value = None })
  unfolding followed
  scanned-over end o R =
      let D = more in
      record {
        stops = record { run = followed D.0 R.run; stop = R.stop };
        number = λ h.
            let e = value_from-append b big before D.0.digits R.run.digits in
            omega (arith, o, value_from-le b (v * b + r) R.run.digits big, rw (e, ← D.1) at h);
      }

-- ---- 64 bits, in a base b

module _ (b v d : ℕ) (pos : 0 < b) {top : ℕ} (is : top ≡ (2 ^ 64 - 1) / b) where
  most : (2 ^ 64 - 1) / b * b + (2 ^ 64 - 1) % b ≡ 2 ^ 64 - 1
  most = div-add-mod' (2 ^ 64 - 1) b

  -- a number above the greatest over b has no room for a digit more
  pub over-top : top < v → 2 ^ 64 ≤ v * b + d
  over-top h = omega (arith, most, mod-lt (2 ^ 64 - 1) pos, mul-le-mul_right b (rw is at h))

  pub below_top : v ≤ top → v * b ≤ 2 ^ 64 - 1
  below_top h = omega (arith, most, mul-le-mul_right b (rw is at h))

-- ---- a minus in front

pub front-minus : (may : Bool) (t : List ℕ) → 0 < length t → may ≡ true → get_or t 0 0 ≡ 45 → Front may t 1
front-minus may [] h m e = absurd (omega arith)
front-minus may (c ∷ t) h m e = record { minus = true; allowed = λ o. m; size = refl; text = ap (λ (x : ℕ). x ∷ t) e; none = λ o. absurd (true≢false o) }

pub front-none : (may : Bool) (t : List ℕ) → (may ≡ true → get_or t 0 0 ≡ 45 → ⊥) → Front may t 0
front-none may t f = record { minus = false; allowed = λ o. absurd (false≢true o); size = refl; text = refl; none = λ o. f }

pub front-inside : {may : Bool} {t : List ℕ} {r : ℕ} → Front may t r → 0 < length t → r ≤ length t
front-inside {may} {t} {r} F h = go F.minus F.size
  where
    go : (m : Bool) → r ≡ length (sign m) → r ≤ length t
    go true e = omega arith
    go false e = omega arith

pub front-allowed : {may : Bool} {t : List ℕ} {r : ℕ} → Front may t r → ltb 0 r ≡ true → may ≡ true
front-allowed {may} {t} {r} F h = go F.minus F.size F.allowed
  where
    go : (m : Bool) → r ≡ length (sign m) → (m ≡ true → may ≡ true) → may ≡ true
    go true e f = f refl
    go false e f = absurd (omega (arith, ltb-true 0 r h))
