-- Document 01's trials of reading, of the definition: what `read` is to answer to each text.
-- Assumes nothing.
use Rattle.std.specs.Prelude.{Ok, Err}
use mathlib.Core.Bool.{Bool, true, false, false≢true}
use mathlib.Core.List.{[], ◌∷◌, ◌++◌, map}
use Rattle.std.specs.Prelude.{None}
use mathlib.Core.Path.{◌≡◌, refl, sym}
use Prim.Native.Nat.{ℕ, ◌-◌, ◌^◌, ◌≤◌, ◌<◌}
use native.Mathlib.Omega.{arith}
use lib.Dec.{lit<, lit≤}
use lib.IntN.{pos, negsuc}
use Rattle.digits.specs.Digits.{up_to, bare, digits, last, value, value_from, Below}
use Rattle.digits.specs.Text.{text, last_text, signed}
use Rattle.digits.proofs.Digits.{digits-below, digits-some, digits_value}
use Rattle.radix.specs.Radix.{lower}
use Rattle.scientific.specs.Sci.{exponent_of, trimmed, short, sci}
use Rattle.scientific.specs.Layout.{point, layout, exp_text}
use Rattle.scientific.specs.Shape.{sign, fraction}
use Rattle.scientific.proofs.Canonical.{plain-canonical}
use Rattle.reading.specs.Formats.{form, plain}
use Rattle.reading.proofs.Exponent as E
use Rattle.reading.proofs.Faithful.{letters-alphabet}
use Rattle.reading.proofs.Whole.{Alphabet, place-stop, place_none, digits-canonical}
use Rattle.reader.specs.Answers.{Answers}
use Rattle.outcomes.specs.Found.{IsNumber}
use Rattle.whole_texts.specs.Wholes.{wholes}
use Rattle.exponent_texts.specs.Exponents.{exponents}
use Rattle.outcomes.specs.declared.Fault.TheVariants as fault
use Rattle.reader.proofs.Answers.{decimals, scientific, held}
use Rattle.digit_runs.proofs.Runs.{figure}
use Rattle.reader.proofs.Outcomes.{read_plain}

pub record Trials : Type 0 where
  -- u8 `255`, `256`, `007`
  pub greatest : Answers false 8 0 (50 ∷ 53 ∷ 53 ∷ []) (Ok 255)
  pub one_more : Answers false 8 0 (50 ∷ 53 ∷ 54 ∷ []) (Err fault.Range)
  pub zeros-lead : Answers false 8 0 (48 ∷ 48 ∷ 55 ∷ []) (Err fault.NotCanonical)
  -- i8 `-128`, `-129`, `-0`, `-`
  pub least : Answers true 8 0 (45 ∷ 49 ∷ 50 ∷ 56 ∷ []) (Ok (2 ^ 64 - 128))
  pub one_less : Answers true 8 0 (45 ∷ 49 ∷ 50 ∷ 57 ∷ []) (Err fault.Range)
  pub minus-zero : Answers true 8 0 (45 ∷ 48 ∷ []) (Err fault.NotCanonical)
  pub minus-alone : Answers true 8 0 (45 ∷ []) (Err (fault.Shape 1))
  -- u8 `-1`, `12a`, nothing
  pub no_minus : Answers false 8 0 (45 ∷ 49 ∷ []) (Err (fault.Shape 0))
  pub no-letter : Answers false 8 0 (49 ∷ 50 ∷ 97 ∷ []) (Err (fault.Shape 2))
  pub nothing : Answers false 8 0 [] (Err fault.Empty)
  -- u64 exponent `1e19`, `1e20`, `1.5e`
  pub high : Answers false 64 5 (49 ∷ 101 ∷ 49 ∷ 57 ∷ []) (Ok (10 ^ 19))
  pub too-high : Answers false 64 5 (49 ∷ 101 ∷ 50 ∷ 48 ∷ []) (Err fault.Range)
  pub stops : Answers false 64 5 (49 ∷ 46 ∷ 53 ∷ 101 ∷ []) (Err (fault.Shape 4))

tens : Alphabet lower 10
tens = letters-alphabet 97 10 (lit< tt) (lit< tt)

-- the digits of n, behind a minus or not
number : (sgn m : Bool) (n : ℕ) → (m ≡ true → sgn ≡ true) → (m ≡ true → n ≡ 0 → ⊥) → IsNumber (wholes sgn lower 10) (sign m ++ map lower (digits 10 n)) (record { negative = m; magnitude = n })
number sgn m n a z = record {
  parts = record { minus = m; digits = digits 10 n };
  reads = record { shaped = record { minus = a; each = digits-below 10 (lit< tt) n; some = digits-some 10 (lit< tt) n }; text = refl };
  canonical = digits-canonical lower 10 tens m n z;
  sign = refl;
  held = sym (digits_value 10 (lit< tt) n);
}

-- the exponent text of n
exponent : (n : ℕ) → exponent_of n ≤ 99 → IsNumber (exponents false 101) (exp_text 101 None n) (record { negative = false; magnitude = n })
exponent n h =
    let P = plain-canonical {signed = false} {letter = 101} {t = exp_text 101 None n} {minus = false} {n = n} (record { text = refl; signs = λ e. absurd (false≢true e); pos = λ e. absurd (false≢true e); expo = h }) in
    record {
      parts = P.0;
      reads = record { shaped = P.1.shaped; text = P.1.text };
      canonical = P.2;
      sign = P.3;
      held = sym P.4;
    }

-- `a` is no decimal digit
no-a : (d : ℕ) → d < 10 → lower d ≡ 97 → ⊥
no-a d h e = let f = figure d h in omega arith

pub trials : Trials
unfolding form plain signed text last_text last digits bare up_to value value_from Below exp_text layout point fraction sci short trimmed exponent_of
trials = record {
  greatest = read_plain false 8 0 refl (lit≤ tt) (pos 255) refl;
  one_more = record { type = refl; format = lit≤ tt; some = lit< tt; judges = held false 8 (50 ∷ 53 ∷ 54 ∷ []) (lit≤ tt) (lit≤ tt) (decimals false) (number false false 256 (λ e. e) (λ e. absurd (false≢true e))) {r = Err fault.Range} refl };
  zeros-lead = record {
    type = refl;
    format = lit≤ tt;
    some = lit< tt;
    judges = record {
      parts = record { minus = false; digits = 0 ∷ 0 ∷ 7 ∷ [] };
      reads = record { shaped = record { minus = λ e. e; each = (lit< tt, (lit< tt, (lit< tt, tt))); some = lit< tt }; text = refl };
      broken = λ K. K.lead 0 (7 ∷ []) refl;
    };
  };
  least = read_plain true 8 0 refl (lit≤ tt) (negsuc 127) refl;
  one_less = record { type = refl; format = lit≤ tt; some = lit< tt; judges = held true 8 (45 ∷ 49 ∷ 50 ∷ 57 ∷ []) (lit≤ tt) (lit≤ tt) (decimals true) (number true true 129 (λ e. e) (λ e z. omega arith)) {r = Err fault.Range} refl };
  minus-zero = record {
    type = refl;
    format = lit≤ tt;
    some = lit< tt;
    judges = record {
      parts = record { minus = true; digits = 0 ∷ [] };
      reads = record { shaped = record { minus = λ e. refl; each = (lit< tt, tt); some = lit< tt }; text = refl };
      broken = λ K. K.minus refl refl;
    };
  };
  minus-alone = record { type = refl; format = lit≤ tt; some = lit< tt; judges = place_none lower 10 tens true true [] (λ e. refl) tt refl };
  no_minus = record { type = refl; format = lit≤ tt; some = lit< tt; judges = place-stop lower 10 tens false false [] (λ e. e) tt 45 (49 ∷ []) tens.digit (λ o z y. absurd (false≢true y)) };
  no-letter = record { type = refl; format = lit≤ tt; some = lit< tt; judges = place-stop lower 10 tens false false (1 ∷ 2 ∷ []) (λ e. e) (lit< tt, (lit< tt, tt)) 97 [] no-a (λ o z y. absurd (false≢true y)) };
  nothing = (refl, lit≤ tt, refl);
  high = read_plain false 64 5 refl (lit≤ tt) (pos (10 ^ 19)) refl;
  too-high = record { type = refl; format = lit≤ tt; some = lit< tt; judges = held false 64 (49 ∷ 101 ∷ 50 ∷ 48 ∷ []) (lit≤ tt) (lit≤ tt) (scientific false 101) (exponent (10 ^ 20) (lit≤ tt)) {r = Err fault.Range} refl };
  stops = record { type = refl; format = lit≤ tt; some = lit< tt; judges = E.place_none false 101 (lit< tt) false (λ e. e) 1 (5 ∷ []) (lit< tt) (lit< tt, tt) };
}
