-- A whole exponent text, from its front and its exponent: its place, its parts, the rules of writing, and its magnitude.
-- Assumes nothing.
use Rattle.std.specs.Prelude.{Option, None}
use mathlib.Core.Bool.{Bool, true, false}
use mathlib.Core.List.{List, [], ◌∷◌, ◌++◌, map, append_assoc, append-nil, map-append}
use mathlib.Core.Path.{◌≡◌, refl, sym, ap, ap₂, ◌∙◌, subst}
use Prim.Native.Nat.{ℕ, zero, suc, ◌+◌, ◌-◌, ◌*◌, ◌^◌, ◌≤◌, ◌<◌}
use native.Mathlib.Nat.{le_trans, le-mul_of_pos_right}
use native.Mathlib.Omega.{arith}
use lib.ListN.{length, get_or, drop, length-append, length-map, drop_of_length-le}
use lib.Seq.{drop-cons, get_or_at}
use Rattle.digits.specs.Digits.{value, value_from}
use Rattle.digits.specs.Text.{ascii}
use Rattle.scientific.specs.Shape.{Parts, sign, fraction, written, number}
use Rattle.scientific.specs.Canonical.{CanonicalParts, magnitude}
use Rattle.scientific.proofs.Tens as T
use Rattle.reading.specs.Form.{Reads, Place}
use Rattle.reading.specs.Formats.{exponent_shape}
use Rattle.reading.proofs.Exponent.{place_none, place-tail}
use Rattle.coefficients.specs.Coefficients.{IsCoefficient}
use Rattle.coefficients.specs.declared.Coefficient.{Coefficient}
use Rattle.digit_runs.specs.Runs.{Held}
use Rattle.outcomes.specs.Found.{IsFound}
use Rattle.exponent_texts.specs.Exponents.{AtMostTwo, Rules, exponents}
use Rattle.exponent_texts.specs.declared.Short.{Short}
use Rattle.whole_texts.proofs.Texts.{empty, first, value-lead}
use Rattle.digit_runs.proofs.Runs.{figures}
use Rattle.coefficients.proofs.Places.{digits-length, no-figure, ends_at}
use Rattle.exponent_texts.proofs.Exponents.{two-small}

fraction-some : (fs : List ℕ) → length (fraction fs) - 1 ≡ length fs
unfolding fraction
fraction-some [] = refl
fraction-some (f ∷ fs) = omega (arith, length-map (f ∷ fs) ascii)

fraction-none : (fs : List ℕ) → length (fraction fs) ≡ 0 → fs ≡ []
unfolding fraction
fraction-none [] e = refl
fraction-none (f ∷ fs) e = absurd (omega arith)

fraction-snoc : (ds : List ℕ) (f : ℕ) → fraction (ds ++ (f ∷ [])) ≡ (46 ∷ map ascii ds) ++ (ascii f ∷ [])
unfolding fraction
fraction-snoc [] f = refl
fraction-snoc (d ∷ ds) f = ap (λ (k : List ℕ). 46 ∷ ascii d ∷ k) (map-append ascii ds (f ∷ []))

-- one digit, of the value 0
one-zero : (es : List ℕ) → length es ≡ 1 → value 10 es ≡ 0 → es ≡ 0 ∷ []
unfolding value value_from
one-zero [] e z = absurd (omega arith)
one-zero (x ∷ []) e z = ap (λ (k : ℕ). k ∷ []) (omega arith)
one-zero (x ∷ y ∷ es) e z = absurd (omega arith)

-- a list that is not empty has a last element
snoc : (x : ℕ) (xs : List ℕ) → (ds : List ℕ) × (f : ℕ) × (x ∷ xs ≡ ds ++ (f ∷ []))
snoc x [] = ([], x, refl)
snoc x (y ∷ xs) = let r = snoc y xs in (x ∷ r.0, r.1, ap (λ (k : List ℕ). x ∷ k) r.2)

module _ (sgn : Bool) (letter : ℕ) (l : 57 < letter) (t : List ℕ) (c : Coefficient) (C : IsCoefficient sgn letter t c) (s : Short) (A : AtMostTwo t (c.end + 1) s) where
  abbrev es : List ℕ
  es = A.run.digits

  abbrev fs : List ℕ
  fs = C.frac

  tail-text : drop (c.end + 1) t ≡ map ascii es ++ drop s.end t
  tail-text = A.run.text ∙ ap (λ (k : List ℕ). k ++ drop s.end t) (figures es A.run.each)

  whole-text : t ≡ (sign c.minus ++ (ascii c.lead ∷ fraction fs ++ letter ∷ map ascii es)) ++ drop s.end t
  whole-text = C.text ∙ ap (λ (k : List ℕ). sign c.minus ++ (ascii c.lead ∷ fraction fs ++ letter ∷ k)) tail-text ∙ simp append_assoc

  whole-ends : length (sign c.minus ++ (ascii c.lead ∷ fraction fs ++ letter ∷ map ascii es)) ≡ s.end
  whole-ends = ends_at (sign c.minus ++ (ascii c.lead ∷ fraction fs ++ letter ∷ map ascii es)) t s.end A.run.inside whole-text

  tail-ends : c.end + 1 + length es ≡ s.end
  tail-ends = digits-length A.run (omega (arith, C.inside))

  -- a byte that is no digit, or a third one
  pub wrong-tail : s.end < length t → Place (exponent_shape sgn letter) t s.end
  wrong-tail h =
      let x = get_or t s.end 0 in
      let r = drop (suc s.end) t in
      let w = sign c.minus ++ (ascii c.lead ∷ fraction fs ++ letter ∷ map ascii es) in
      let e : w ++ x ∷ r ≡ t = sym (whole-text ∙ ap (λ (k : List ℕ). w ++ k) (drop-cons t s.end 0 h)) in
      let P = place-tail sgn letter l c.minus C.allowed c.lead fs es x r C.digit C.each A.run.each A.few (λ k. no-figure t s.end (A.stop k h)) in
      subst (λ (k : List ℕ). Place (exponent_shape sgn letter) k s.end) e (subst (Place (exponent_shape sgn letter) (w ++ x ∷ r)) whole-ends P)

  closed : length t ≤ s.end → t ≡ sign c.minus ++ (ascii c.lead ∷ fraction fs ++ letter ∷ map ascii es)
  closed h =
      let w = sign c.minus ++ (ascii c.lead ∷ fraction fs ++ letter ∷ map ascii es) in
      whole-text ∙ ap (λ (k : List ℕ). w ++ k) (drop_of_length-le t h) ∙ append-nil w

  -- no digit behind the letter
  pub wrong-none : length t ≤ s.end → s.end ≤ c.end + 1 → Place (exponent_shape sgn letter) t s.end
  wrong-none h k =
      let z : es ≡ [] = empty es (omega (arith, tail-ends)) in
      let w = sign c.minus ++ (ascii c.lead ∷ fraction fs ++ letter ∷ []) in
      let e : w ≡ t = sym (closed h ∙ ap (λ (k : List ℕ). sign c.minus ++ (ascii c.lead ∷ fraction fs ++ letter ∷ map ascii k)) z) in
      let n : length w ≡ s.end = ap (λ (k : List ℕ). length (sign c.minus ++ (ascii c.lead ∷ fraction fs ++ letter ∷ map ascii k))) (sym z) ∙ whole-ends in
      subst (λ (k : List ℕ). Place (exponent_shape sgn letter) k s.end) e (subst (Place (exponent_shape sgn letter) w) n (place_none sgn letter l c.minus C.allowed c.lead fs C.digit C.each))

  module _ (all : length t ≤ s.end) (some : c.end + 1 < s.end) where
    abbrev pub parts : Parts
    parts = record { minus = c.minus; lead = c.lead; frac = fs; expo = es }

    pub found-reads : Reads (exponent_shape sgn letter) t parts
    unfolding written
    found-reads = record {
      shaped = record { minus = C.allowed; lead = C.digit; frac = C.each; expo = A.run.each; one = omega (arith, tail-ends); two = A.few };
      text = closed all;
    }

    total : length t ≡ length (sign c.minus) + c.size + 2 + length es
    total = omega (arith, A.run.inside, tail-ends, C.front, length-append (sign c.minus) (ascii c.lead ∷ fraction fs), C.fits)

    -- what `is_canonical` asks
    pub size-inside : (c.size ≤ c.end) × (c.end + 1 < length t) × (s.value < 100)
    size-inside = (omega (arith, C.front, length-append (sign c.minus) (ascii c.lead ∷ fraction fs), C.fits), omega (arith, A.run.inside), two-small A)

    -- the byte in front of the letter, and that behind it
    last_byte : (ds : List ℕ) (f : ℕ) → fs ≡ ds ++ (f ∷ []) → get_or t (c.end - 1) 0 ≡ ascii f
    last_byte ds f e =
        let a = sign c.minus ++ (ascii c.lead ∷ 46 ∷ map ascii ds) in
        let r = letter ∷ drop (c.end + 1) t in
        let q : fraction fs ≡ (46 ∷ map ascii ds) ++ (ascii f ∷ []) = ap fraction e ∙ fraction-snoc ds f in
        let w : t ≡ a ++ ascii f ∷ r = C.text ∙ ap (λ (k : List ℕ). sign c.minus ++ (ascii c.lead ∷ k ++ r)) q ∙ simp append_assoc in
        let n : length a ≡ c.end - 1 = omega (arith, C.front, length-append (sign c.minus) (ascii c.lead ∷ fraction fs), length-append (sign c.minus) (ascii c.lead ∷ 46 ∷ map ascii ds), ap length q, length-append (46 ∷ map ascii ds) (ascii f ∷ [])) in
        ap (λ (k : List ℕ). get_or k (c.end - 1) 0) w ∙ get_or_at a (ascii f) r 0 (c.end - 1) n

    next-byte : (e : ℕ) (k : List ℕ) → es ≡ e ∷ k → get_or t (c.end + 1) 0 ≡ ascii e
    next-byte e k q = first t (c.end + 1) ∙ ap (λ (u : List ℕ). get_or u 0 0) tail-text ∙ ap (λ (u : List ℕ). get_or (map ascii u ++ drop s.end t) 0 0) q

    pub rules-canonical : Rules t c.lead c.size c.end s.value → CanonicalParts parts
    rules-canonical R = record {
      minus = λ o. minus c.lead refl o;
      lead = lead_zero;
      spare = λ ds e. R.spare (omega (arith, C.fits, fraction-some fs, ap length e, length-append ds (0 ∷ []))) (last_byte ds 0 e);
      expo = λ d e. R.two (omega (arith, tail-ends, A.run.inside, ap length e)) (next-byte 0 (d ∷ []) e);
      enough = omega (arith, R.enough, A.is, C.fits, fraction-some fs);
    }
      where
        minus : (d : ℕ) → c.lead ≡ d → c.minus ≡ true → value 10 (c.lead ∷ fs) ≡ 0 → ⊥
        minus zero e o z = let n : length (sign c.minus) ≡ 1 = ap (λ (k : Bool). length (sign k)) o in omega (arith, (R.zero e).0, total, tail-ends)
        minus (suc d) e o z = let w : value 10 (suc d ∷ fs) ≡ 0 = ap (λ (x : ℕ). value 10 (x ∷ fs)) (sym e) ∙ z in omega (arith, value-lead 10 d fs T.ten)

        lead_zero : c.lead ≡ 0 → (fs ≡ []) × (es ≡ 0 ∷ [])
        lead_zero z =
            let r = R.zero z in
            (fraction-none fs (omega (arith, r.0, total, tail-ends, C.fits)), one-zero es (omega (arith, r.0, total, tail-ends)) (sym A.is ∙ r.1))

    pub canonical-rules : CanonicalParts parts → Rules t c.lead c.size c.end s.value
    unfolding fraction value value_from
    canonical-rules K = record {
      zero = zeroed;
      spare = λ h. spare fs refl h;
      two = λ h. two es refl (omega (arith, tail-ends));
      enough = omega (arith, K.enough, A.is, C.fits, fraction-some fs);
    }
      where
        zeroed : c.lead ≡ 0 → (length t ≡ 3) × (s.value ≡ 0)
        zeroed z =
            let k = K.lead z in
            let f : length (fraction fs) ≡ 0 = ap (λ (u : List ℕ). length (fraction u)) k.0 in
            let n : length es ≡ 1 = ap length k.1 in
            let q : value 10 (c.lead ∷ fs) ≡ 0 = ap (λ (u : List ℕ). value 10 (c.lead ∷ u)) k.0 ∙ ap (λ (x : ℕ). value 10 (x ∷ [])) z in
            (omega (arith, total, C.fits, plain c.minus refl q), A.is ∙ ap (value 10) k.1)
          where
            plain : (o : Bool) → c.minus ≡ o → value 10 (c.lead ∷ fs) ≡ 0 → length (sign c.minus) ≡ 0
            plain true e q = absurd (K.minus e q)
            plain false e q = ap (λ (o : Bool). length (sign o)) e

        spare : (k : List ℕ) → fs ≡ k → 0 < c.size → get_or t (c.end - 1) 0 ≡ 48 → ⊥
        spare [] e h b = let f : length (fraction fs) ≡ 0 = ap (λ (u : List ℕ). length (fraction u)) e in omega (arith, C.fits)
        spare (x ∷ xs) e h b =
            let r = snoc x xs in
            let q : fs ≡ r.0 ++ (r.1 ∷ []) = e ∙ r.2 in
            let z : r.1 ≡ 0 = omega (arith, last_byte r.0 r.1 q) in
            K.spare r.0 (q ∙ ap (λ (y : ℕ). r.0 ++ (y ∷ [])) z)

        two : (k : List ℕ) → es ≡ k → 2 ≤ length k → get_or t (c.end + 1) 0 ≡ 48 → ⊥
        two [] e h b = omega arith
        two (x ∷ []) e h b = omega arith
        two (x ∷ y ∷ []) e h b = let z : x ≡ 0 = omega (arith, next-byte x (y ∷ []) e) in K.expo y (e ∙ ap (λ (w : ℕ). w ∷ y ∷ []) z)
        two (x ∷ y ∷ w ∷ k) e h b = omega (arith, A.few, ap length e)

    -- ---- the magnitude

    zeros-are : s.value - (c.size - 1) ≡ (number parts).expo - (number parts).frac
    zeros-are = omega (arith, A.is, C.fits, fraction-some fs)

    -- what stands for the magnitude, with its zeros
    is : (v : ℕ) → v ≡ value 10 (c.lead ∷ fs) → v * 10 ^ (s.value - (c.size - 1)) ≡ magnitude parts
    is v e = ap₂ (λ (x y : ℕ). x * 10 ^ y) e zeros-are

    pub found-wide : Rules t c.lead c.size c.end s.value → 2 ^ 64 ≤ value 10 (c.lead ∷ fs) → IsFound (exponents sgn letter) t (record { negative = c.minus; magnitude = None })
    found-wide R h = record {
      parts = parts;
      reads = found-reads;
      canonical = rules-canonical R;
      sign = refl;
      held = λ f. omega (arith, f, le_trans h (le-mul_of_pos_right (number parts).coef (T.pos ((number parts).expo - (number parts).frac))));
    }

    pub found-held : {r : Option ℕ} (v : ℕ) → v ≡ value 10 (c.lead ∷ fs) → Rules t c.lead c.size c.end s.value → Held r (v * 10 ^ (s.value - (c.size - 1))) → IsFound (exponents sgn letter) t (record { negative = c.minus; magnitude = r })
    found-held {r} v e R P = record {
      parts = parts;
      reads = found-reads;
      canonical = rules-canonical R;
      sign = refl;
      held = subst (Held r) (is v e) P;
    }

    -- the number is over 64 bits
    pub found-over : (v : ℕ) → v ≡ value 10 (c.lead ∷ fs) → Rules t c.lead c.size c.end s.value → Held None (v * 10 ^ (s.value - (c.size - 1))) → IsFound (exponents sgn letter) t (record { negative = c.minus; magnitude = None })
    found-over v e R P = found-held {r = None} v e R P
