-- Where an exponent text begins and stops: behind the minus, the lead digit, the point, the fraction, the letter and the exponent's digits.
-- Assumes nothing.
use mathlib.Core.Bool.{Bool, true, false}
use mathlib.Core.List.{List, [], ◌∷◌, ◌++◌, map, append_assoc}
use mathlib.Core.Logic.{◌⊎◌, inl, inr}
use mathlib.Core.Path.{◌≡◌, refl, sym, ap, ◌∙◌, subst}
use Prim.Native.Nat.{ℕ, ◌≤◌, ◌<◌}
use native.Mathlib.Omega.{arith}
use lib.ListN.{length, length-append, length-map}
use Rattle.digits.specs.Digits.{Below}
use Rattle.digits.specs.Text.{ascii}
use Rattle.scientific.specs.Shape.{Parts, Shaped, sign, fraction, written}
use Rattle.scientific.proofs.Text.{run-fraction}
use Rattle.reading.specs.Form.{Begins, Place}
use Rattle.reading.specs.Formats.{exponent_shape}
use Rattle.reading.proofs.Place.{Misses, front, place_at, place_end, place-misses, shape-begins}

-- c is a decimal digit's byte
abbrev pub Figure : ℕ → Type 0
Figure c = (d : ℕ) × (d < 10) × (ascii d ≡ c)

-- what may follow the lead digit and these fraction digits
abbrev pub After : ℕ → List ℕ → ℕ → Type 0
After letter [] c = (c ≡ letter) ⊎ (c ≡ 46)
After letter (f ∷ fs) c = (c ≡ letter) ⊎ Figure c

clash : {A : Type 0} (x : A) (l : List A) → [] ≡ x ∷ l → ⊥
clash x l e = let z : ◌≡◌ {A = ℕ} 0 1 = cc in omega arith

-- ---- what stops a run of digits, or the whole text there

stuck : (letter : ℕ) (fs gs v q : List ℕ) → 57 < letter → Below 10 fs → Below 10 gs → Misses (λ (c : ℕ). (c ≡ letter) ⊎ Figure c) v → map ascii fs ++ v ≡ map ascii gs ++ letter ∷ q → ⊥
unfolding Below
stuck letter [] [] [] q l p r h e = clash letter q e
stuck letter [] [] (c ∷ v) q l p r h e = h (inl (cc))
stuck letter [] (g ∷ gs) [] q l p r h e = clash (ascii g) (map ascii gs ++ letter ∷ q) e
stuck letter [] (g ∷ gs) (c ∷ v) q l p r h e = h (inr (g, r.0, (cc)))
stuck letter (x ∷ fs) [] v q l p r h e = let z : ascii x ≡ letter = cc in omega (arith, p.0)
stuck letter (x ∷ fs) (g ∷ gs) v q l p r h e =
    let t : map ascii fs ++ v ≡ map ascii gs ++ letter ∷ q = cc in
    stuck letter fs gs v q l p.1 r.1 h t

-- behind the lead digit
stuck-lead : (letter : ℕ) (fs gs v q : List ℕ) → 57 < letter → Below 10 fs → Below 10 gs → Misses (After letter fs) v → fraction fs ++ v ≡ fraction gs ++ letter ∷ q → ⊥
unfolding fraction
stuck-lead letter [] [] [] q l p r h e = clash letter q e
stuck-lead letter [] [] (c ∷ v) q l p r h e = h (inl (cc))
stuck-lead letter [] (g ∷ gs) [] q l p r h e = clash 46 (map ascii (g ∷ gs) ++ letter ∷ q) e
stuck-lead letter [] (g ∷ gs) (c ∷ v) q l p r h e = h (inr (cc))
stuck-lead letter (f ∷ fs) [] v q l p r h e = let z : 46 ≡ letter = cc in omega arith
stuck-lead letter (f ∷ fs) (g ∷ gs) v q l p r h e =
    let t : map ascii (f ∷ fs) ++ v ≡ map ascii (g ∷ gs) ++ letter ∷ q = cc in
    stuck letter (f ∷ fs) (g ∷ gs) v q l p r h t

-- behind the point
stuck-point : (letter : ℕ) (gs v q : List ℕ) → 57 < letter → Below 10 gs → Misses Figure v → 46 ∷ v ≡ fraction gs ++ letter ∷ q → ⊥
unfolding fraction Below
stuck-point letter [] v q l r h e = let z : 46 ≡ letter = cc in omega arith
stuck-point letter (g ∷ gs) [] q l r h e = let z : [] ≡ ascii g ∷ (map ascii gs ++ letter ∷ q) = cc in clash (ascii g) (map ascii gs ++ letter ∷ q) z
stuck-point letter (g ∷ gs) (c ∷ v) q l r h e = h (g, r.0, (cc))

-- behind the exponent's digits: a third byte, or one that is no digit
stuck-tail : (es gs : List ℕ) (c : ℕ) (v : List ℕ) → Below 10 gs → length gs ≤ 2 → (length es < 2 → Figure c → ⊥) → map ascii es ++ c ∷ v ≡ map ascii gs → ⊥
unfolding Below
stuck-tail [] [] c v r n h e = clash c v (sym e)
stuck-tail [] (g ∷ gs) c v r n h e = h (omega arith) (g, r.0, (cc))
stuck-tail (x ∷ es) [] c v r n h e = clash (ascii x) (map ascii es ++ c ∷ v) (sym e)
stuck-tail (x ∷ []) (g ∷ []) c v r n h e = let z : c ∷ v ≡ [] = cc in clash c v (sym z)
stuck-tail (x ∷ []) (g ∷ k ∷ gs) c v r n h e = h (omega arith) (k, r.1.0, (cc))
stuck-tail (x ∷ y ∷ es) (g ∷ gs) c v r n h e =
    let l : length (map ascii (x ∷ y ∷ es) ++ c ∷ v) ≡ length (map ascii (g ∷ gs)) = ap length e in
    omega (arith, length-append (map ascii (x ∷ y ∷ es)) (c ∷ v), length-map (x ∷ y ∷ es) ascii, length-map (g ∷ gs) ascii)

no-tail : (gs : List ℕ) → 1 ≤ length gs → [] ≡ map ascii gs → ⊥
no-tail [] h e = omega arith
no-tail (g ∷ gs) h e = clash (ascii g) (map ascii gs) e

-- ---- the minus and the lead digit, taken off

-- a text whose first byte behind the minus is a figure
headed : (m n : Bool) (d l : ℕ) (u v : List ℕ) → sign m ++ (ascii d ∷ u) ≡ sign n ++ (ascii l ∷ v) → u ≡ v
headed true true d l u v e = cc
headed true false d l u v e = absurd (let z : 45 ≡ ascii l = cc in omega arith)
headed false true d l u v e = absurd (let z : ascii d ≡ 45 = cc in omega arith)
headed false false d l u v e = cc

-- ---- the places

module _ (sgn : Bool) (letter : ℕ) (l : 57 < letter) where
  -- in front of the lead digit
  stuck-front : (m n : Bool) (d : ℕ) (v w : List ℕ) → d < 10 → (n ≡ true → sgn ≡ true) → Misses (λ (c : ℕ). Figure c ⊎ ((m ≡ false) × (sgn ≡ true) × (c ≡ 45))) v → sign m ++ v ≡ sign n ++ (ascii d ∷ w) → ⊥
  stuck-front true true d [] w p q h e = let z : [] ≡ ascii d ∷ w = cc in clash (ascii d) w z
  stuck-front true true d (c ∷ v) w p q h e = h (inl (d, p, (cc)))
  stuck-front true false d v w p q h e = let z : 45 ≡ ascii d = cc in omega arith
  stuck-front false true d [] w p q h e = clash 45 (ascii d ∷ w) e
  stuck-front false true d (c ∷ v) w p q h e = h (inr (refl, q refl, (cc)))
  stuck-front false false d [] w p q h e = clash (ascii d) w e
  stuck-front false false d (c ∷ v) w p q h e = h (inl (d, p, (cc)))

  module _ (m : Bool) (allowed : m ≡ true → sgn ≡ true) where
    abbrev pub coefficient : ℕ → List ℕ → List ℕ
    coefficient d fs = sign m ++ (ascii d ∷ fraction fs)

    abbrev pub whole : ℕ → List ℕ → List ℕ → List ℕ
    whole d fs es = sign m ++ (ascii d ∷ fraction fs ++ letter ∷ map ascii es)

    begins-whole : (d : ℕ) (fs es : List ℕ) → d < 10 → Below 10 fs → Below 10 es → length es ≤ 2 → Begins (exponent_shape sgn letter) (whole d fs es)
    unfolding Below written
    begins-whole d fs [] p q r n = (
      48 ∷ [],
      (
        record { minus = m; lead = d; frac = fs; expo = 0 ∷ [] },
        record { shaped = record { minus = allowed; lead = p; frac = q; expo = (omega arith, tt); one = omega arith; two = omega arith }; text = simp append_assoc },
      ),
    )
    begins-whole d fs (e ∷ es) p q r n =
        shape-begins (exponent_shape sgn letter) (whole d fs (e ∷ es)) (
          record { minus = m; lead = d; frac = fs; expo = e ∷ es },
          record { shaped = record { minus = allowed; lead = p; frac = q; expo = r; one = omega arith; two = n }; text = refl },
        )

    begins-coefficient : (d : ℕ) (fs : List ℕ) → d < 10 → Below 10 fs → Begins (exponent_shape sgn letter) (coefficient d fs)
    unfolding Below
    begins-coefficient d fs p q =
        front (exponent_shape sgn letter) (coefficient d fs) (letter ∷ [])
        (subst (Begins (exponent_shape sgn letter)) (sym (append_assoc (sign m) (ascii d ∷ fraction fs) (letter ∷ []))) (begins-whole d fs [] p q tt (omega arith)))

    -- no lead digit
    pub place-lead : (u : List ℕ) → Misses (λ (c : ℕ). Figure c ⊎ ((m ≡ false) × (sgn ≡ true) × (c ≡ 45))) u → Place (exponent_shape sgn letter) (sign m ++ u) (length (sign m))
    unfolding Below fraction written
    place-lead u h =
        place-misses (exponent_shape sgn letter) (sign m) u (λ (c : ℕ). Figure c ⊎ ((m ≡ false) × (sgn ≡ true) × (c ≡ 45)))
        (front (exponent_shape sgn letter) (sign m) (48 ∷ []) (begins-coefficient 0 [] (omega arith) tt)) h
        (λ v k H. stuck-front m H.0.minus H.0.lead v (fraction H.0.frac ++ letter ∷ map ascii H.0.expo) H.1.shaped.lead H.1.shaped.minus k H.1.text)

    -- a point and no digit
    pub place-point : (d : ℕ) (u : List ℕ) → d < 10 → Misses Figure u → Place (exponent_shape sgn letter) ((sign m ++ (ascii d ∷ 46 ∷ [])) ++ u) (length (sign m ++ (ascii d ∷ 46 ∷ [])))
    unfolding Below fraction written
    place-point d u p h =
        place-misses (exponent_shape sgn letter) (sign m ++ (ascii d ∷ 46 ∷ [])) u Figure
        (front (exponent_shape sgn letter) (sign m ++ (ascii d ∷ 46 ∷ [])) (48 ∷ [])
        (subst (Begins (exponent_shape sgn letter)) (sym (append_assoc (sign m) (ascii d ∷ 46 ∷ []) (48 ∷ []))) (begins-coefficient d (0 ∷ []) p (omega arith, tt)))) h
        (λ v k H. stuck-point letter H.0.frac v (map ascii H.0.expo) l H.1.shaped.frac k
        (headed m H.0.minus d H.0.lead (46 ∷ v) (fraction H.0.frac ++ letter ∷ map ascii H.0.expo) (sym (append_assoc (sign m) (ascii d ∷ 46 ∷ []) v) ∙ H.1.text)))

    -- no letter
    pub place-letter : (d : ℕ) (fs u : List ℕ) → d < 10 → Below 10 fs → Misses (After letter fs) u → Place (exponent_shape sgn letter) (coefficient d fs ++ u) (length (coefficient d fs))
    unfolding written
    place-letter d fs u p q h =
        place-misses (exponent_shape sgn letter) (coefficient d fs) u (After letter fs) (begins-coefficient d fs p q) h
        (λ v k H. stuck-lead letter fs H.0.frac v (map ascii H.0.expo) l q H.1.shaped.frac k
        (headed m H.0.minus d H.0.lead (fraction fs ++ v) (fraction H.0.frac ++ letter ∷ map ascii H.0.expo) (sym (append_assoc (sign m) (ascii d ∷ fraction fs) v) ∙ H.1.text)))

    -- what stands behind the letter, in a text of the shape that has this coefficient
    tail_of : (d : ℕ) (fs u : List ℕ) (x : Parts) → Below 10 fs → Shaped sgn x → sign m ++ (ascii d ∷ fraction fs ++ letter ∷ u) ≡ written letter x → u ≡ map ascii x.expo
    unfolding written
    tail_of d fs u x q h e =
        (run-fraction letter l fs x.frac u (map ascii x.expo) q h.frac
        (headed m x.minus d x.lead (fraction fs ++ letter ∷ u) (fraction x.frac ++ letter ∷ map ascii x.expo) e)).1

    -- no digit behind the letter, and no more
    pub place_none : (d : ℕ) (fs : List ℕ) → d < 10 → Below 10 fs → Place (exponent_shape sgn letter) (whole d fs []) (length (whole d fs []))
    unfolding Below
    place_none d fs p q =
        place_end (exponent_shape sgn letter) (whole d fs []) (begins-whole d fs [] p q tt (omega arith))
        (λ H. no-tail H.0.expo H.1.shaped.one (tail_of d fs [] H.0 q H.1.shaped H.1.text))

    -- a byte that is no digit, or a third one
    pub place-tail : (d : ℕ) (fs es : List ℕ) (c : ℕ) (r : List ℕ) → d < 10 → Below 10 fs → Below 10 es → length es ≤ 2 → (length es < 2 → Figure c → ⊥)
        → Place (exponent_shape sgn letter) (whole d fs es ++ c ∷ r) (length (whole d fs es))
    place-tail d fs es c r p q k n h =
        place_at (exponent_shape sgn letter) (whole d fs es) c r (begins-whole d fs es p q k n)
        (λ B. stuck-tail es B.1.0.expo c B.0 B.1.1.shaped.expo B.1.1.shaped.two h
        (tail_of d fs (map ascii es ++ c ∷ B.0) B.1.0 q B.1.1.shaped ((simp append_assoc) ∙ B.1.1.text)))
