-- Demand 2: the rules of the text, and the round trip from the reader's laws. Assumes nothing.
use Rattle.std.proofs.Common.{Ok, Err, ◌≡◌, ℕ, zero, suc, ◌+◌, ◌-◌, ◌^◌, ◌<◌, ◌≤◌, max, Bool, true, false, cond, eqb, leb, ◌⊎◌, List, [], ◌∷◌, ◌++◌, length, replicate, ℤ, pos, negsuc, sym, refl, ap, ◌∙◌, subst, ap₂, inl, inr, append_assoc, append-nil, add_assoc, arith, lit≤, length-append, ne_eqb, le-leb}
use mathlib.Core.Bool.{false≢true}
use Rattle.std.specs.Prelude.{Option, None}
use borrow.Author.Tests.{lt-leb}
use lib.Count.{count_leading_zeros}
use Rattle.digits.specs.Digits.{up_to, bare, digits, last}
use Rattle.digits.specs.Text.{text, last_text, signed}
use Rattle.digits.proofs.Digits.{canonical, unique}
use Rattle.digits.proofs.Length.{bits-leading}
use Rattle.kinds.specs.Kinds.{known, is_in_type, pattern}
use Rattle.kinds.proofs.Patterns.{one-pattern}
use Rattle.kinds.proofs.Sizes.{known-range, greatest-unsigned, greatest-signed}
use Rattle.padding.specs.Padding.{sign_of, prefix_of, before_of, zeros_of, behind_of, Planned, padded}
use Rattle.padding.proofs.Padding.{plan-none, plan-zeros, plan-left, plan-centre, plan-right, no-prefix-low, no-prefix-high, padded-is, padded-length}
use Rattle.outcomes.specs.Outcomes.{Outcome, number_of, value_of}
use Rattle.outcomes.specs.declared.Fault.TheVariants as fault
use Rattle.radix.specs.Radix.{radix}
use Rattle.radix.proofs.Lengths.{radix-length}
use Rattle.reader.specs.Answers.{Judges, Passes, Answers}
use Rattle.reader.proofs.Outcomes.{passed, one_answer, read_plain, read_back, read_only, read-refused}
use Rattle.reading.specs.Formats.{form, plain}
use Rattle.scientific.specs.Layout.{point, layout, exp_text}
use Rattle.scientific.specs.Sci.{exponent_of, trimmed, short, sci}
use Rattle.scientific.proofs.Steps.{long-text, zero-text}
use Rattle.writing.specs.Text.{minus, body, framed, text_of}
use Rattle.writing.specs.Promise.{house, Unframed}
use Rattle.writing.specs.declared.Options.{Options}
use Rattle.writing.proofs.Cases.{unframes, house-unframed}
use Rattle.claims.specs.Demand2.{OfDigits, OfText, lacking, Padded, OfOptions, OfLengths, OfSizes, RoundTrip, Asked, Refuses, OfReading}

pub of-digits : OfDigits
of-digits = record { are = λ b n h. canonical b h n; only = λ b n ds h C. unique b h n ds C }

-- ---- the text at the house default

-- nothing stands around it but a minus
unframed-text : (bits : ℕ) (z : ℤ) (format : ℕ) (o : Options) (p : Option ℕ) → Unframed o p → text_of bits z format o ≡ sign_of (minus format z) false ++ body format bits p z
unfolding text_of
unframed-text bits z format o p U =
    unframes o (minus format z) format (body format bits o.precision z) U
    ∙ ap (λ (q : Option ℕ). sign_of (minus format z) false ++ body format bits q z) U.precision

bare-text : (bits : ℕ) (z : ℤ) (format : ℕ) → text_of bits z format house ≡ sign_of (minus format z) false ++ body format bits None z
bare-text bits z format = unframed-text bits z format house None house-unframed

-- it is the plain text that the reader's definitions speak of
pub plain-text : (bits format : ℕ) (z : ℤ) → format ≤ 6 → text_of bits z format house ≡ plain bits format z
unfolding plain signed
plain-text bits zero (pos n) h = bare-text bits (pos n) 0
plain-text bits zero (negsuc k) h = bare-text bits (negsuc k) 0
plain-text bits (suc zero) z h = bare-text bits z 1
plain-text bits (suc (suc zero)) z h = bare-text bits z 2
plain-text bits (suc (suc (suc zero))) z h = bare-text bits z 3
plain-text bits (suc (suc (suc (suc zero)))) z h = bare-text bits z 4
plain-text bits (suc (suc (suc (suc (suc zero))))) (pos n) h = bare-text bits (pos n) 5
plain-text bits (suc (suc (suc (suc (suc zero))))) (negsuc k) h = bare-text bits (negsuc k) 5
plain-text bits (suc (suc (suc (suc (suc (suc zero)))))) (pos n) h = bare-text bits (pos n) 6
plain-text bits (suc (suc (suc (suc (suc (suc zero)))))) (negsuc k) h = bare-text bits (negsuc k) 6
plain-text bits (suc (suc (suc (suc (suc (suc (suc m))))))) z h = absurd (omega arith)

pub of-text : OfText
unfolding exp_text layout point sci short trimmed exponent_of text last_text last digits
of-text = record {
  zero = λ bits. bare-text bits (pos 0) 0;
  decimal-is = λ bits n. bare-text bits (pos n) 0;
  negative-is = λ bits k. bare-text bits (negsuc k) 0;
  radix-is = radix-is;
  exponent-is = λ bits z o p U. (unframed-text bits z 5 o p U, unframed-text bits z 6 o p U);
  exponent-long = λ letter n p h. long-text letter n p h;
  exponent-zero = λ letter p. zero-text letter p;
  exponent-none = λ letter. refl;
}
  where
    radix-is : (bits format : ℕ) (z : ℤ) → 1 ≤ format → format ≤ 4 → text_of bits z format house ≡ radix format (pattern bits z)
    radix-is bits zero z h k = absurd (omega arith)
    radix-is bits (suc zero) z h k = bare-text bits z 1
    radix-is bits (suc (suc zero)) z h k = bare-text bits z 2
    radix-is bits (suc (suc (suc zero))) z h k = bare-text bits z 3
    radix-is bits (suc (suc (suc (suc zero)))) z h k = bare-text bits z 4
    radix-is bits (suc (suc (suc (suc (suc m))))) z h k = absurd (omega arith)

-- ---- the text with options

-- by the plan of the padding
module _ (o : Options) (sign prefix digits : List ℕ) where
  abbrev whole : List ℕ
  whole = padded o.zero o.fill o.align o.width sign prefix digits

  -- what is lacking, to the sum of the lengths and to the length of the whole
  lacks : o.width - (length sign + (length prefix + length digits)) ≡ lacking o ((sign ++ prefix) ++ digits)
  lacks = ap (λ (n : ℕ). o.width - n) (sym (simp (length-append, add_assoc)))

  pub padded-so : {before zeros behind : ℕ} → Planned o.zero o.align (lacking o ((sign ++ prefix) ++ digits)) before zeros behind
      → whole ≡ (replicate before o.fill ++ (sign ++ (prefix ++ replicate zeros 48))) ++ (digits ++ replicate behind o.fill)
  padded-so {before} {zeros} {behind} P =
      padded-is o.zero o.fill o.align o.width sign prefix digits (subst (λ (k : ℕ). Planned o.zero o.align k before zeros behind) (sym lacks) P)

  pub padded-clauses : Padded o (sign ++ prefix) digits whole
  padded-clauses =
      let k = lacking o ((sign ++ prefix) ++ digits) in
      record {
        wide = λ h. padded-so (plan-none o.zero o.align k (omega arith)) ∙ simp (append_assoc, append-nil);
        zeros = λ e. padded-so (plan-zeros o.zero o.align k e) ∙ simp (append_assoc, append-nil);
        left = λ e a. padded-so (plan-left o.zero o.align k e a) ∙ simp (append_assoc, append-nil);
        right = λ e a. padded-so (plan-right o.zero o.align k e (λ b. omega arith) (λ b. omega arith)) ∙ simp (append_assoc, append-nil);
        unset = λ e a. padded-so (plan-right o.zero o.align k e (λ b. omega arith) (λ b. omega arith)) ∙ simp (append_assoc, append-nil);
        centre = λ e a. padded-so (plan-centre o.zero o.align k e a) ∙ simp (append_assoc, append-nil);
      }

-- whether a minus is shown, by the form
no_minus : (format : ℕ) (z : ℤ) → 1 ≤ format → format ≤ 4 → minus format z ≡ false
no_minus format z h k = rw (ne_eqb format 0 (λ e. omega arith), le-leb format 4 k)

pub of-options : OfOptions
unfolding text_of
of-options = record {
  padding = λ bits z format o. padded-clauses o (sign_of (minus format z) o.plus) (prefix_of o.alternate format) (body format bits o.precision z);
  minus-sign = minus-sign;
  plus-sign = λ format n. let e = positive format n in (rw e refl, rw e refl);
  pattern-sign = λ format z h k. let e = no_minus format z h k in (rw e refl, rw e refl);
  binary = refl;
  octal = refl;
  hex = (refl, refl);
  no-prefix = no-prefix;
  no-precision = λ bits z format o p h. ap (framed o (minus format z) format) (body-any format bits p o.precision z h);
}
  where
    minus-sign : (format k : ℕ) (plus : Bool) → (format ≡ 0) ⊎ (4 < format) → sign_of (minus format (negsuc k)) plus ≡ 45 ∷ []
    minus-sign format k plus (inl e) = rw e refl
    minus-sign format k plus (inr h) = rw (ne_eqb format 0 (λ e. omega arith), lt-leb format 4 h) refl

    positive : (format n : ℕ) → minus format (pos n) ≡ false
    positive format n = go (eqb format 0) (leb format 4) refl refl
      where
        go : (a b : Bool) → eqb format 0 ≡ a → leb format 4 ≡ b → minus format (pos n) ≡ false
        go true b e f = rw e refl
        go false true e f = rw (e, f) refl
        go false false e f = rw (e, f) refl

    no-prefix : (alternate : Bool) (format : ℕ) → (alternate ≡ false) ⊎ ((format ≡ 0) ⊎ (4 < format)) → prefix_of alternate format ≡ []
    no-prefix false format h = refl
    no-prefix true format (inl e) = absurd (false≢true (sym e))
    no-prefix true format (inr (inl e)) = no-prefix-low format (omega arith)
    no-prefix true format (inr (inr h)) = no-prefix-high format h

    body-any : (format bits : ℕ) (p q : Option ℕ) (z : ℤ) → format ≤ 4 → body format bits p z ≡ body format bits q z
    body-any format bits p q z h = rw (le-leb format 4 h) refl

-- ---- lengths

-- what is lacking to the width stands in one place or two
lacking-whole : (pad : Bool) (align k : ℕ) → before_of pad align k + (zeros_of pad k + behind_of pad align k) ≡ k
lacking-whole true align k = omega arith
lacking-whole false align k = go (eqb align 1) (eqb align 2) refl refl
  where
    go : (a b : Bool) → eqb align 1 ≡ a → eqb align 2 ≡ b → before_of false align k + (zeros_of false k + behind_of false align k) ≡ k
    go true b e f = rw e (omega arith)
    go false true e f = rw (e, f) (omega arith)
    go false false e f = rw (e, f) (omega arith)

bits-needed : (word n : ℕ) → n < 2 ^ word → length (digits 2 n) ≡ cond (eqb n 0) 1 (word - count_leading_zeros word n)
unfolding digits
bits-needed word zero h = refl
bits-needed word (suc n) h = rw (ne_eqb (suc n) 0 (λ e. omega arith)) (sym (bits-leading word (suc n) (omega arith) h))

pub of-lengths : OfLengths
unfolding text_of
of-lengths = record {
  bits = bits-needed;
  lengths = λ format n. radix-length format n;
  padded = λ bits z format o.
      let sign = sign_of (minus format z) o.plus in
      let prefix = prefix_of o.alternate format in
      let digits = body format bits o.precision z in
      let k = o.width - (length sign + (length prefix + length digits)) in
      let n = padded-length o.zero o.fill o.align o.width sign prefix digits {before = before_of o.zero o.align k} {zeros = zeros_of o.zero k} {behind = behind_of o.zero o.align k} (record { before-is = refl; zeros-is = refl; behind-is = refl }) in
      wide o.width (length sign + (length prefix + length digits)) _ (omega (arith, lacking-whole o.zero o.align k));
}
  where
    wide : (w m n : ℕ) → n ≡ (w - m) + m → n ≡ max w m
    wide w m n e = omega arith

pub of-sizes : OfSizes
unfolding text digits bare up_to
of-sizes = record {
  u8 = greatest-unsigned 8;
  i8 = greatest-signed 8;
  u16 = greatest-unsigned 16;
  i16 = greatest-signed 16;
  u32 = greatest-unsigned 32;
  i32 = greatest-signed 32;
  u64 = greatest-unsigned 64;
  i64 = greatest-signed 64;
}

-- ---- the round trip

trip : (sgn : Bool) (bits format : ℕ) → known bits ≡ true → format ≤ 6 → RoundTrip sgn bits format
trip sgn bits format k h = record {
  back = back;
  answered = answered;
  only = λ t v A. let z = read_only sgn bits format k h t v A in (z.0, z.1, z.2 ∙ sym (plain-text bits format z.0 h), z.3);
  refused = λ t r f A. read-refused sgn bits format k h t r (λ z i e. f z i (e ∙ sym (plain-text bits format z h))) A;
  apart = λ y z i j e. let b = known-range bits k in one-pattern 64 bits sgn y z (lit≤ tt) b.1 i j
      (done (sym (back y (Ok (pattern 64 z)) i (subst (λ (t : List ℕ). Answers sgn bits format t (Ok (pattern 64 z))) (sym e) (answered z j)))));
}
  where
    back : (z : ℤ) (r : Outcome) → is_in_type sgn bits z ≡ true → Answers sgn bits format (text_of bits z format house) r → r ≡ Ok (pattern 64 z)
    back z r i A = read_back sgn bits format k h z r i (subst (λ (t : List ℕ). Answers sgn bits format t r) (plain-text bits format z h) A)

    answered : (z : ℤ) → is_in_type sgn bits z ≡ true → Answers sgn bits format (text_of bits z format house) (Ok (pattern 64 z))
    answered z i = subst (λ (t : List ℕ). Answers sgn bits format t (Ok (pattern 64 z))) (sym (plain-text bits format z h)) (read_plain sgn bits format k h z i)

    done : {u v : ℕ} → ◌≡◌ {A = Outcome} (Ok u) (Ok v) → u ≡ v
    done e = ap value_of e

-- ---- the refusals

-- the outcome that has the number n and returns v
abbrev outcome_of : ℕ → ℕ → Outcome
outcome_of zero v = Ok v
outcome_of (suc zero) v = Err fault.Empty
outcome_of (suc (suc zero)) v = Err (fault.Shape v)
outcome_of (suc (suc (suc zero))) v = Err fault.NotCanonical
outcome_of (suc (suc (suc (suc zero)))) v = Err fault.Range
outcome_of (suc (suc (suc (suc (suc zero))))) v = Err fault.Type
outcome_of (suc (suc (suc (suc (suc (suc k)))))) v = Err fault.Options

numbered : (r : Outcome) → r ≡ outcome_of (number_of r) (value_of r)
numbered (Ok v) = refl
numbered (Err fault.Empty) = refl
numbered (Err (fault.Shape k)) = refl
numbered (Err fault.NotCanonical) = refl
numbered (Err fault.Range) = refl
numbered (Err fault.Type) = refl
numbered (Err fault.Options) = refl

nothing : (r : Outcome) → 1 ≤ number_of r → (number_of r ≡ 2 → ⊥) → value_of r ≡ 0
nothing (Ok v) h f = absurd (omega arith)
nothing (Err fault.Empty) h f = refl
nothing (Err (fault.Shape k)) h f = absurd (f refl)
nothing (Err fault.NotCanonical) h f = refl
nothing (Err fault.Range) h f = refl
nothing (Err fault.Type) h f = refl
nothing (Err fault.Options) h f = refl

numbers : (r : Outcome) → number_of r ≤ 6
numbers (Ok v) = lit≤ tt
numbers (Err fault.Empty) = lit≤ tt
numbers (Err (fault.Shape k)) = lit≤ tt
numbers (Err fault.NotCanonical) = lit≤ tt
numbers (Err fault.Range) = lit≤ tt
numbers (Err fault.Type) = lit≤ tt
numbers (Err fault.Options) = lit≤ tt

module _ (sgn : Bool) (bits format : ℕ) (t : List ℕ) (r : Outcome) (A : Answers sgn bits format t r) where
  -- by its number and value, the outcome is known; and whatever answers is the outcome
  told : (n v : ℕ) → number_of r ≡ n → value_of r ≡ v → Answers sgn bits format t (outcome_of n v)
  told n v e f = subst (λ (s : Outcome). Answers sgn bits format t s) (numbered r ∙ ap₂ outcome_of e f) A

  is : (s : Outcome) → Answers sgn bits format t s → r ≡ s
  is s B = one_answer sgn bits format t r s A B

  judged : (s : Outcome) → Asked bits format t → Judges (form sgn bits format) sgn bits t s → r ≡ s
  judged s a j = is s (passed sgn bits format t s a.type a.code a.some j)

  asked : (s : Outcome) → Passes sgn bits format t s → Asked bits format t
  asked s P = record { type = P.type; code = P.format; some = P.some }

  refuses : Refuses sgn bits format t (number_of r) (value_of r)
  refuses = record {
    type = ((λ e. told 5 (value_of r) e refl), (λ h. ap number_of (is (Err fault.Type) h)));
    options = ((λ e. told 6 (value_of r) e refl), (λ h. ap number_of (is (Err fault.Options) h)));
    empty = ((λ e. told 1 (value_of r) e refl), (λ h. ap number_of (is (Err fault.Empty) h)));
    shape = λ k. (
      (λ e. let P = told 2 k e.0 e.1 in (asked (Err (fault.Shape k)) P, P.judges)),
      (λ h. let e = judged (Err (fault.Shape k)) h.0 h.1 in (ap number_of e, ap value_of e)),
    );
    not-canonical = ((λ e. let P = told 3 (value_of r) e refl in (asked (Err fault.NotCanonical) P, P.judges)), (λ h. ap number_of (judged (Err fault.NotCanonical) h.0 h.1)));
    range = ((λ e. let P = told 4 (value_of r) e refl in (asked (Err fault.Range) P, P.judges)), (λ h. ap number_of (judged (Err fault.Range) h.0 h.1)));
    nothing = nothing r;
    numbers = numbers r;
  }

pub of-reading : OfReading
of-reading = record {
  round_trip = trip;
  refuses = refuses;
  edge-back = λ sgn bits format k h z n v i R. let e = (trip sgn bits format k h).back z R.outcome i R.is in (R.numbered ∙ ap number_of e, R.returns ∙ ap value_of e);
  edge-only = λ sgn bits format k h t v R. (trip sgn bits format k h).only t v (told sgn bits format t R.outcome R.is 0 v (sym R.numbered) (sym R.returns));
  edge-refuses = λ sgn bits format t n v R. rw (R.numbered, R.returns) (refuses sgn bits format t R.outcome R.is);
}
