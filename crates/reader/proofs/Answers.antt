-- The answer for a text, from what it was found to be: of any form whose texts have a sign and a magnitude, and of the patterns of a base.
-- Assumes nothing.
use Rattle.std.specs.Prelude.{Ok, Err}
use mathlib.Core.Bool.{Bool, true, false, cond, true≢false}
use mathlib.Core.List.{List}
use mathlib.Core.Path.{◌≡◌, refl, sym, ap, ap₂, ◌∙◌}
use Prim.Native.Nat.{ℕ, ◌-◌, ◌^◌, ◌≤◌, ◌<◌}
use native.Mathlib.Decide.{dec_le}
use native.Mathlib.Nat.{mul-pos}
use native.Mathlib.Omega.{arith}
use borrow.Author.Tests.{ltb-true, ltb-false, lt-ltb}
use lib.Dec.{ltb}
use lib.IntN.{ℤ, nat_abs}
use lib.Pow.{pow_mono}
use Rattle.kinds.specs.Kinds.{is_in_type, pattern, meaning, reading}
use Rattle.kinds.proofs.Patterns.{halves, pattern-reading, in-low, in-high}
use Rattle.radix.specs.Radix.{lower}
use Rattle.scientific.specs.Shape.{number}
use Rattle.scientific.specs.Canonical.{CanonicalParts, magnitude}
use Rattle.scientific.proofs.Canonical.{denotes-magnitude}
use Rattle.scientific.proofs.Demand.{one_value}
use Rattle.scientific.proofs.Tens as T
use Rattle.reading.specs.Form.{Form, Reads}
use Rattle.reading.specs.Formats.{whole, decimal_form, radix_form, exponent_form}
use Rattle.reading.proofs.Faithful.{sign_of, nat_abs-lt, pattern_lt}
use Rattle.reader.specs.Answers.{Judges}
use Rattle.outcomes.specs.Outcomes.{Outcome, value_outcome, pattern_outcome}
use Rattle.kinds.specs.declared.Split.{Split}
use Rattle.outcomes.specs.declared.WideSplit.{WideSplit}
use Rattle.outcomes.specs.Found.{Numbered, IsNumber, IsBeyond, IsFound, Found, SplitOf}
use Rattle.outcomes.proofs.Found.{held-number, over-beyond}
use Rattle.outcomes.specs.declared.Fault.{Fault}
use Rattle.outcomes.specs.declared.Fault.TheVariants as fault
use Rattle.scientific.specs.Shape.{Parts}
use Rattle.whole_texts.specs.Wholes.{wholes}
use Rattle.exponent_texts.specs.Exponents.{exponents}

-- The texts of a form stand for their sign and magnitude, and for no other number.
pub record Counts (sgn : Bool) (N : Numbered) (Stands : N.shape.Parts → ℤ → Type 0) : Type 0 where
  pub signed : {t : List ℕ} (x : N.shape.Parts) → Reads N.shape t x → N.minus x ≡ true → sgn ≡ true
  pub some : (x : N.shape.Parts) → N.Canonical x → N.minus x ≡ true → N.magnitude x ≡ 0 → ⊥
  pub stands : (x : N.shape.Parts) → N.Canonical x → Stands x (whole (N.minus x) (N.magnitude x))
  pub only : (x : N.shape.Parts) → N.Canonical x → (z : ℤ) → Stands x z → z ≡ whole (N.minus x) (N.magnitude x)

pub decimals : (sgn : Bool) → Counts sgn (wholes sgn lower 10) (decimal_form sgn).Stands
decimals sgn = record { signed = λ x R. R.shaped.minus; some = λ x K. K.minus; stands = λ x K. refl; only = λ x K z S. S }

pub scientific : (sgn : Bool) (letter : ℕ) → Counts sgn (exponents sgn letter) (exponent_form sgn letter).Stands
scientific sgn letter = record {
  signed = λ x R. R.shaped.minus;
  some = λ x K. nonzero x K;
  stands = λ x K. (magnitude x, denotes-magnitude x K, refl);
  only = λ x K z S. S.2 ∙ ap (whole x.minus) (one_value (number x) S.0 (magnitude x) S.1 (denotes-magnitude x K));
}
  where
    nonzero : (x : Parts) → CanonicalParts x → x.minus ≡ true → magnitude x ≡ 0 → ⊥
    nonzero x K e z = let c : ((number x).coef ≡ 0 → ⊥) = K.minus e in let p = mul-pos {m = (number x).coef} {n = 10 ^ ((number x).expo - (number x).frac)} (omega arith) (T.pos _) in omega arith

module _ (sgn : Bool) (bits : ℕ) (t : List ℕ) (one : 1 ≤ bits) where
  module _ (N : Numbered) (Stands : N.shape.Parts → ℤ → Type 0) where
    abbrev F : Form
    F = record { shape = N.shape; Canonical = N.Canonical; Stands = Stands }

    -- no number was found
    pub refused : (e : Fault) → Found N t (Err e) → Judges F sgn bits t (Err e)
    refused (fault.Shape k) p = p
    refused fault.NotCanonical p = record { parts = p.0; reads = p.1; broken = p.2 }
    refused fault.Range p = absurd p
    refused fault.Empty p = absurd p
    refused fault.Type p = absurd p
    refused fault.Options p = absurd p

  -- ---- a magnitude behind a minus or none

  module _ (few : bits ≤ 64) {N : Numbered} {Stands : N.shape.Parts → ℤ → Type 0} (C : Counts sgn N Stands) where
    abbrev form : Form
    form = record { shape = N.shape; Canonical = N.Canonical; Stands = Stands }

    pub signs : {n : Split} → IsNumber N t n → n.negative ≡ true → sgn ≡ true
    signs P e = C.signed P.parts P.reads (P.sign ∙ e)

    pub some : {n : Split} → IsNumber N t n → n.negative ≡ true → 0 < n.magnitude
    some {n} P e = let h : (n.magnitude ≡ 0 → ⊥) = λ z. C.some P.parts P.canonical (P.sign ∙ e) (sym P.held ∙ z) in omega arith

    pub over : IsBeyond N t → Judges form sgn bits t (Err fault.Range)
    over B = record { parts = B.parts; reads = B.reads; canonical = B.canonical; outside = λ z p S. out z p (C.only B.parts B.canonical z S) }
      where
        out : (z : ℤ) → is_in_type sgn bits z ≡ true → z ≡ whole (N.minus B.parts) (N.magnitude B.parts) → ⊥
        out z p e =
            let l : nat_abs z ≡ N.magnitude B.parts = ap nat_abs e ∙ (sign_of (N.minus B.parts) (N.magnitude B.parts) (C.some B.parts B.canonical)).1 in
            omega (arith, nat_abs-lt sgn bits z one p, pow_mono few, B.beyond)

    pub held : {n : Split} → IsNumber N t n → {r : Outcome} → r ≡ value_outcome sgn bits (whole n.negative n.magnitude) → Judges form sgn bits t r
    held {n} P {r} e = go (is_in_type sgn bits z) refl (e ∙ ap₂ (λ (m : Bool) (k : ℕ). value_outcome sgn bits (whole m k)) (sym P.sign) P.held)
      where
        z : ℤ
        z = whole (N.minus P.parts) (N.magnitude P.parts)

        go : (k : Bool) → is_in_type sgn bits z ≡ k → r ≡ cond k (Ok (pattern 64 z)) (Err fault.Range) → Judges form sgn bits t r
        go true p e = rw e (record { parts = P.parts; reads = P.reads; canonical = P.canonical; number = z; inside = p; stands = C.stands P.parts P.canonical; pattern = refl })
        go false p e = rw e (record { parts = P.parts; reads = P.reads; canonical = P.canonical; outside = λ y q S. true≢false (sym q ∙ ap (is_in_type sgn bits) (C.only P.parts P.canonical y S) ∙ p) })

  -- ---- decimal, as it was found

  module _ (few : bits ≤ 64) {n : WideSplit} (W : IsFound (wholes sgn lower 10) t n) where
    pub minus-signed : n.negative ≡ true → sgn ≡ true
    minus-signed e = (decimals sgn).signed W.parts W.reads (W.sign ∙ e)

    pub minus-some : {s : Split} → SplitOf n (Ok s) → s.negative ≡ true → 0 < s.magnitude
    minus-some p = some few (decimals sgn) (held-number W p)

    pub decimal-over : {e : Fault} → SplitOf n (Err e) → Judges (decimal_form sgn) sgn bits t (Err e)
    decimal-over p = rw p.1 (over few (decimals sgn) (over-beyond W p))

    pub decimal-held : {s : Split} {r : Outcome} → SplitOf n (Ok s) → r ≡ value_outcome sgn bits (whole s.negative s.magnitude) → Judges (decimal_form sgn) sgn bits t r
    decimal-held p e = held few (decimals sgn) (held-number W p) e

  -- ---- exponent form

  module _ (few : bits ≤ 64) (letter : ℕ) {n : WideSplit} (W : IsFound (exponents sgn letter) t n) where
    pub exponent-signed : n.negative ≡ true → sgn ≡ true
    exponent-signed e = (scientific sgn letter).signed W.parts W.reads (W.sign ∙ e)

    pub exponent-some : {s : Split} → SplitOf n (Ok s) → s.negative ≡ true → 0 < s.magnitude
    exponent-some p = some few (scientific sgn letter) (held-number W p)

    pub exponent-over : {e : Fault} → SplitOf n (Err e) → Judges (exponent_form sgn letter) sgn bits t (Err e)
    exponent-over p = rw p.1 (over few (scientific sgn letter) (over-beyond W p))

    pub exponent-held : {s : Split} {r : Outcome} → SplitOf n (Ok s) → r ≡ value_outcome sgn bits (whole s.negative s.magnitude) → Judges (exponent_form sgn letter) sgn bits t r
    exponent-held p e = held few (scientific sgn letter) (held-number W p) e

  -- ---- the pattern of the type's bits

  module _ (α : ℕ → ℕ) (b : ℕ) where
    pub radix-over : bits ≤ 64 → IsBeyond (wholes false α b) t → Judges (radix_form α b bits) sgn bits t (Err fault.Range)
    radix-over few B = record { parts = B.parts; reads = B.reads; canonical = B.canonical; outside = λ z p e. omega (arith, pattern_lt sgn bits z one p, pow_mono few, B.beyond) }

    pub radix-held : {n : Split} → IsNumber (wholes false α b) t n → {r : Outcome} → r ≡ pattern_outcome sgn bits n.magnitude → Judges (radix_form α b bits) sgn bits t r
    radix-held {n} N {r} e = go (ltb v (2 ^ bits)) refl e
      where
        v : ℕ
        v = n.magnitude

        inside : (s : Bool) → v < 2 ^ bits → is_in_type s bits (meaning bits s v) ≡ true
        inside false h = lt-ltb v (2 ^ bits) h
        inside true h = half (dec_le (2 ^ (bits - 1)) v)
          where
            half : Dec (2 ^ (bits - 1) ≤ v) → is_in_type true bits (reading bits v) ≡ true
            half (yes g) = in-high bits bits v one (omega arith) h g ∙ lt-ltb ((2 ^ bits - 1) - v) (2 ^ (bits - 1)) (omega (arith, halves bits one))
            half (no g) = in-low bits bits v one (omega arith) h (omega arith)

        back : (s : Bool) → v < 2 ^ bits → v ≡ pattern bits (meaning bits s v)
        back false h = refl
        back true h = sym (pattern-reading bits v h)

        go : (k : Bool) → ltb v (2 ^ bits) ≡ k → r ≡ cond k (Ok (pattern 64 (meaning bits sgn v))) (Err fault.Range) → Judges (radix_form α b bits) sgn bits t r
        go true p e =
            let h = ltb-true v (2 ^ bits) p in
            rw e
            (record {
              parts = N.parts;
              reads = N.reads;
              canonical = N.canonical;
              number = meaning bits sgn v;
              inside = inside sgn h;
              stands = sym N.held ∙ back sgn h;
              pattern = refl;
            })
        go false p e = rw e (record { parts = N.parts; reads = N.reads; canonical = N.canonical; outside = λ z q f. omega (arith, pattern_lt sgn bits z one q, N.held, ltb-false v (2 ^ bits) p) })
