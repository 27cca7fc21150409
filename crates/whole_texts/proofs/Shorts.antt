-- A text that is a minus or none and the text of a number, which is not 0 behind a minus: that number is found. Over the alphabet and the base.
-- Assumes nothing.
use mathlib.Core.Bool.{Bool, false, false≢true}
use mathlib.Core.List.{List, [], ◌∷◌, ◌++◌, map, append-nil}
use mathlib.Core.Path.{◌≡◌, refl, sym, ap, ◌∙◌}
use Prim.Native.Nat.{ℕ, zero, suc, ◌+◌, ◌-◌, ◌≤◌, ◌<◌}
use native.Mathlib.Omega.{arith}
use lib.Dec.{lit<, lit≤, ltb}
use lib.ListN.{length, get_or, take, drop, length-drop, length-map}
use lib.Seq.{take_all, drop-length}
use Rattle.formats.specs.declared.Case.{Case}
use Rattle.formats.specs.declared.Case.TheVariants.{Lower, Upper}
use Rattle.formats.specs.Formats.{letter_from}
use Rattle.digits.specs.Digits.{value_from, value, digits, Below}
use Rattle.digits.specs.Text.{text, decimal}
use Rattle.digits.proofs.Digits.{digits-below, digits-some, digits_value, digits-pos, bare-lead}
use Rattle.radix.specs.Radix.{digit_byte, lower}
use Rattle.reading.proofs.Faithful.{letters-alphabet}
use Rattle.reading.proofs.Whole.{Alphabet}
use Rattle.digit_runs.specs.Runs.{DigitRun, Front}
use Rattle.digit_runs.proofs.Runs.{figures}
use Rattle.outcomes.specs.Found.{IsNumber}
use Rattle.whole_texts.specs.Wholes.{wholes}
use Rattle.whole_texts.proofs.Texts.{first, found_number}

-- the letters of a hex text stand behind the figures
pub a_apart : (case : Case) → (57 < letter_from case 97) × (letter_from case 97 ≤ 97)
a_apart Lower = (lit< tt, lit≤ tt)
a_apart Upper = (lit< tt, lit≤ tt)

module _ (α : ℕ → ℕ) (b : ℕ) (A : Alphabet α b) (figure : α 0 ≡ 48) where
  -- a first byte `0` is the digit 0
  leading : (ds : List ℕ) → Below b ds → 0 < length ds → get_or (map α ds) 0 0 ≡ 48 → get_or ds 0 0 ≡ 0
  unfolding Below
  leading [] B h z = refl
  leading (d ∷ ds) B h z = A.own d 0 B.0 (omega (arith, A.big)) (z ∙ sym figure)

  -- it is a zero in `0` alone
  zero-alone : (n : ℕ) → get_or (map α (digits b n)) 0 0 ≡ 48 → n ≡ 0
  zero-alone zero z = refl
  zero-alone (suc n) z =
      let p : 0 < get_or (digits b (suc n)) 0 0 = rw (digits-pos b A.big (suc n) (omega arith)) (bare-lead b A.big (suc n) (omega arith)) in
      absurd (omega (arith, leading (digits b (suc n)) (digits-below b A.big (suc n)) (digits-some b A.big (suc n)) z))

  module _ (t : List ℕ) (from v : ℕ) (inside : from ≤ length t) (e : take (length t - from) (drop from t) ≡ text α b v) where
    behind : drop from t ≡ map α (digits b v)
    unfolding text
    behind = sym (take_all (length t - from) (drop from t) (omega (arith, length-drop from t))) ∙ e

    size : length t ≡ from + length (digits b v)
    size = let h : length t - from ≡ length (digits b v) = sym (length-drop from t) ∙ ap length behind ∙ length-map (digits b v) α in omega arith

    run : DigitRun α b t from (length t)
    run = record {
      run = record {
        digits = digits b v;
        each = digits-below b A.big v;
        inside = omega arith;
        text = behind ∙ sym (append-nil (map α (digits b v))) ∙ ap (λ (l : List ℕ). map α (digits b v) ++ l) (sym (drop-length t));
      };
      stop = λ h. absurd (omega arith);
    }

    held : v ≡ value_from b 0 run.run.digits
    unfolding run value
    held = sym (digits_value b A.big v)

    -- a leading zero is the whole text
    alone : (0 < from → v ≡ 0 → ⊥) → get_or t from 0 ≡ 48 → length t ≤ 1
    unfolding digits
    alone f z =
        let n : v ≡ 0 = zero-alone v (ap (λ (l : List ℕ). get_or l 0 0) (sym behind) ∙ sym (first t from) ∙ z) in
        let one : length (digits b v) ≡ 1 = ap (λ (k : ℕ). length (digits b k)) n in
        let g : (0 < from → ⊥) = λ h. f h n in
        omega (arith, size)

    short-number : (may : Bool) → Front may t from → (0 < from → v ≡ 0 → ⊥) → IsNumber (wholes may α b) t (record { negative = ltb 0 from; magnitude = v })
    short-number may F f =
        found_number α b A figure may t from (length t) F run (omega arith) (omega (arith, size, digits-some b A.big v)) v (alone f) held

pub short-decimal : (t : List ℕ) (from v : ℕ) → from ≤ length t → take (length t - from) (drop from t) ≡ decimal v → (may : Bool) → Front may t from → (0 < from → v ≡ 0 → ⊥)
    → IsNumber (wholes may lower 10) t (record { negative = ltb 0 from; magnitude = v })
unfolding text
short-decimal t from v inside e =
    short-number lower 10 (letters-alphabet 97 10 (lit< tt) (lit< tt)) refl t from v inside (e ∙ sym (figures (digits 10 v) (digits-below 10 (lit< tt) v)))

pub short-hex : (letter : ℕ) → 57 < letter → (t : List ℕ) (v : ℕ) → t ≡ text (digit_byte letter) 16 v → IsNumber (wholes false (digit_byte letter) 16) t (record { negative = false; magnitude = v })
short-hex letter l t v e =
    short-number (digit_byte letter) 16 (letters-alphabet letter 16 l (lit< tt)) refl t 0 v (omega arith) (take_all (length t - 0) t (omega arith) ∙ e) false
    (record { minus = false; allowed = λ o. absurd (false≢true o); size = refl; text = refl; none = λ o y. absurd (false≢true y) }) (λ h. absurd (omega arith))
