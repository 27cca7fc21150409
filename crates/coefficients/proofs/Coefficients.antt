-- The front of an exponent text, up to its letter: what stands there, or the place where it leaves the shape.
-- Assumes nothing.
use mathlib.Core.Bool.{Bool, true, false}
use mathlib.Core.List.{List, [], ◌∷◌, ◌++◌, map, append_assoc}
use mathlib.Core.Logic.{◌⊎◌, inl, inr}
use mathlib.Core.Path.{◌≡◌, refl, sym, ap, ◌∙◌, subst}
use Prim.Native.Nat.{ℕ, ◌+◌, ◌-◌, ◌≤◌, ◌<◌}
use native.Mathlib.Numerals.{add-one}
use native.Mathlib.Omega.{arith}
use lib.Dec.{ltb}
use lib.ListN.{length, get_or, drop, length-append}
use lib.Seq.{drop-cons}
use Rattle.digits.specs.Digits.{value, value_from, Below}
use Rattle.digits.specs.Text.{ascii}
use Rattle.radix.specs.Radix.{lower}
use Rattle.scientific.specs.Shape.{sign, fraction}
use Rattle.reading.specs.Form.{Place}
use Rattle.reading.specs.Formats.{exponent_shape}
use Rattle.reading.proofs.Exponent.{Figure, After, place-lead, place-point, place-letter}
use Rattle.digit_runs.specs.Runs.{Digits, Front, Held}
use Rattle.coefficients.specs.Coefficients.{FractionOf, IsCoefficient}
use Rattle.digit_runs.specs.declared.Run.{Run}
use Rattle.whole_texts.proofs.Texts.{sized}
use Rattle.digit_runs.proofs.Runs.{figure, figures, IsHex, no_digit}
use Rattle.coefficients.proofs.Places.{digits-length, no-figure, misses, ends_at}

-- the lead digit is read first
lead-value : (d : ℕ) (ds : List ℕ) → value_from 10 d ds ≡ value 10 (d ∷ ds)
unfolding value value_from
lead-value d ds = ap (λ (x : ℕ). value_from 10 x ds) (omega arith)

-- a byte whose hex digit is 10 or more is no figure
pub no-digit-10 : {byte r : ℕ} → IsHex 97 byte r → 10 ≤ r → Figure byte → ⊥
no-digit-10 I h g = no_digit I h (omega arith) g.0 g.1 (figure g.0 g.1 ∙ g.2)

pub fraction-from : {t : List ℕ} {at lead : ℕ} {r : Run} → FractionOf t at lead r → at ≤ r.end
fraction-from (inl N) = omega (arith, ap (λ (x : Run). x.end) N.is)
fraction-from (inr Q) = omega (arith, digits-length Q.scanned.stops.run (omega (arith, Q.here)))

module _ (sgn : Bool) (letter : ℕ) (l : 57 < letter) (t : List ℕ) (start : ℕ) (F : Front sgn t start) where
  -- no lead digit stands there
  pub no_lead : (start < length t → Figure (get_or t start 0) → ⊥) → Place (exponent_shape sgn letter) t start
  no_lead f =
      let P = place-lead sgn letter l F.minus F.allowed (drop start t) (misses _ t start miss) in
      subst (λ (u : List ℕ). Place (exponent_shape sgn letter) u start) (sym F.text) (subst (Place (exponent_shape sgn letter) (sign F.minus ++ drop start t)) (sym F.size) P)
    where
      miss : start < length t → (Figure (get_or t start 0) ⊎ ((F.minus ≡ false) × (sgn ≡ true) × (get_or t start 0 ≡ 45))) → ⊥
      miss h (inl g) = f h g
      miss h (inr g) =
          let z : start ≡ 0 = F.size ∙ ap (λ (k : Bool). length (sign k)) g.0 in
          F.none g.0 g.1 (ap (λ (k : ℕ). get_or t k 0) (sym z) ∙ g.2)

  module _ (lead : ℕ) (inside : start < length t) (p : lead < 10) (I : lower lead ≡ get_or t start 0) (r : Run) where
    at : ℕ
    at = start + 1

    m : Bool
    m = F.minus

    front-text : t ≡ sign m ++ (ascii lead ∷ drop at t)
    unfolding at m
    front-text =
        let b : get_or t start 0 ≡ ascii lead = sym I ∙ figure lead p in
        let d : drop start t ≡ ascii lead ∷ drop (start + 1) t = rw (add-one start, ← b) (drop-cons t start 0 inside) in
        F.text ∙ ap (λ (u : List ℕ). sign m ++ u) d

    -- a point and no digit
    pub no_fraction : FractionOf t (start + 1) lead r → r.end ≡ start + 1 + 1 → Place (exponent_shape sgn letter) t r.end
    unfolding at m
    no_fraction (inl N) e = absurd (let z : r.end ≡ start + 1 = ap (λ (x : Run). x.end) N.is in omega arith)
    no_fraction (inr Q) e =
        let f = Q.scanned.stops.stop in
        let u = drop r.end t in
        let w : drop (start + 1) t ≡ 46 ∷ u = rw (e, add-one (start + 1), ← Q.point) (drop-cons t (start + 1) 0 Q.here) in
        let q : t ≡ (sign m ++ (ascii lead ∷ 46 ∷ [])) ++ u = front-text ∙ ap (λ (k : List ℕ). sign m ++ (ascii lead ∷ k)) w ∙ sym (append_assoc (sign m) (ascii lead ∷ 46 ∷ []) u) in
        let n : length (sign m ++ (ascii lead ∷ 46 ∷ [])) ≡ r.end = length-append (sign m) (ascii lead ∷ 46 ∷ []) ∙ omega (arith, F.size) in
        let P = place-point sgn letter l m F.allowed lead u p (misses Figure t r.end (λ h. no-figure t r.end (f h))) in
        subst (λ (k : List ℕ). Place (exponent_shape sgn letter) k r.end) (sym q) (subst (Place (exponent_shape sgn letter) ((sign m ++ (ascii lead ∷ 46 ∷ [])) ++ u)) n P)

    -- lead digit and fraction, and behind them nothing but the letter
    record Fronted (fs : List ℕ) : Type 0 where
      each : Below 10 fs
      text : t ≡ (sign m ++ (ascii lead ∷ fraction fs)) ++ drop r.end t
      within : r.end ≤ length t
      next : r.end < length t → After letter fs (get_or t r.end 0) → get_or t r.end 0 ≡ letter
      number : Held r.value (value 10 (lead ∷ fs))

    fronted : FractionOf t (start + 1) lead r → (r.end ≡ start + 1 + 1 → ⊥) → (fs : List ℕ) × Fronted fs
    unfolding at m fraction Below value value_from
    fronted (inl N) f = ([], none)
      where
        z : r.end ≡ start + 1
        z = ap (λ (x : Run). x.end) N.is

        none : Fronted []
        none = record {
          each = tt;
          text = front-text ∙ ap (λ (k : ℕ). sign m ++ (ascii lead ∷ drop k t)) (sym z) ∙ sym (append_assoc (sign m) (ascii lead ∷ []) (drop r.end t));
          within = omega (arith, z);
          next = λ h. next h;
          number = subst (λ (x : Run). Held x.value (value 10 (lead ∷ []))) (sym N.is) (omega (arith, p, lead-value lead []), lead-value lead []);
        }
          where
            next : r.end < length t → After letter [] (get_or t r.end 0) → get_or t r.end 0 ≡ letter
            next h (inl e) = e
            next h (inr e) = absurd (N.next (omega (arith, z)) (ap (λ (k : ℕ). get_or t k 0) (sym z) ∙ e))
    fronted (inr Q) f = go Q.scanned.stops.run.digits refl
      where
        D : Digits lower 10 t (start + 1 + 1) r.end
        D = Q.scanned.stops.run

        next : (c : ℕ) (g : ℕ) (gs : List ℕ) → (Figure c → ⊥) → After letter (g ∷ gs) c → c ≡ letter
        next c g gs k (inl e) = e
        next c g gs k (inr e) = absurd (k e)

        text : (g : ℕ) (gs : List ℕ) → D.digits ≡ g ∷ gs → t ≡ (sign m ++ (ascii lead ∷ fraction (g ∷ gs))) ++ drop r.end t
        text g gs e =
            let a : drop (start + 1) t ≡ 46 ∷ drop (start + 1 + 1) t = rw (add-one (start + 1), ← Q.point) (drop-cons t (start + 1) 0 Q.here) in
            let b : drop (start + 1 + 1) t ≡ map ascii (g ∷ gs) ++ drop r.end t = D.text ∙ ap (λ (k : List ℕ). k ++ drop r.end t) (figures D.digits D.each ∙ ap (map ascii) e) in
            front-text ∙ ap (λ (k : List ℕ). sign m ++ (ascii lead ∷ k)) (a ∙ ap (λ (k : List ℕ). 46 ∷ k) b) ∙ sym (append_assoc (sign m) (ascii lead ∷ fraction (g ∷ gs)) (drop r.end t))

        go : (ds : List ℕ) → D.digits ≡ ds → (fs : List ℕ) × Fronted fs
        go [] e = absurd (f (let n = digits-length D (omega (arith, Q.here)) in let z : length D.digits ≡ 0 = ap length e in omega arith))
        go (g ∷ gs) e = (
          g ∷ gs,
          record {
            each = subst (Below 10) e D.each;
            text = text g gs e;
            within = D.inside;
            next = λ h. next (get_or t r.end 0) g gs (no-figure t r.end (Q.scanned.stops.stop h));
            number = subst (Held r.value) (ap (value_from 10 lead) e ∙ lead-value lead (g ∷ gs)) Q.scanned.number;
          },
        )

    -- no letter
    pub no-letter : FractionOf t (start + 1) lead r → (r.end ≡ start + 1 + 1 → ⊥) → (r.end < length t → get_or t r.end 0 ≡ letter → ⊥) → Place (exponent_shape sgn letter) t r.end
    unfolding m
    no-letter Q f g =
        let W = fronted Q f in
        let fs = W.0 in
        let P = place-letter sgn letter l m F.allowed lead fs (drop r.end t) p W.1.each (misses (After letter fs) t r.end (λ h a. g h (W.1.next h a))) in
        let n = ends_at (sign m ++ (ascii lead ∷ fraction fs)) t r.end W.1.within W.1.text in
        subst (λ (k : List ℕ). Place (exponent_shape sgn letter) k r.end) (sym W.1.text) (subst (Place (exponent_shape sgn letter) ((sign m ++ (ascii lead ∷ fraction fs)) ++ drop r.end t)) n P)

    pub found-coefficient : FractionOf t (start + 1) lead r → (r.end ≡ start + 1 + 1 → ⊥) → r.end < length t → get_or t r.end 0 ≡ letter
        → IsCoefficient sgn letter t (record { minus = ltb 0 start; lead = lead; size = r.end - (start + 1); end = r.end; value = r.value })
    unfolding m
    found-coefficient Q f h e =
        let W = fronted Q f in
        let fs = W.0 in
        let n = ends_at (sign m ++ (ascii lead ∷ fraction fs)) t r.end W.1.within W.1.text in
        let d : drop r.end t ≡ letter ∷ drop (r.end + 1) t = rw (add-one r.end, ← e) (drop-cons t r.end 0 h) in
        subst (λ (k : Bool). IsCoefficient sgn letter t (record { minus = k; lead = lead; size = r.end - (start + 1); end = r.end; value = r.value })) (sym (ap (ltb 0) F.size ∙ sized m))
        (record {
          allowed = F.allowed;
          digit = p;
          frac = fs;
          each = W.1.each;
          fits = omega (arith, length-append (sign m) (ascii lead ∷ fraction fs), F.size);
          inside = h;
          front = sym n;
          text = W.1.text ∙ append_assoc (sign m) (ascii lead ∷ fraction fs) (drop r.end t) ∙ ap (λ (k : List ℕ). sign m ++ (ascii lead ∷ fraction fs ++ k)) d;
          number = W.1.number;
        })
