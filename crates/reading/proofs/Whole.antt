-- Laws of the texts of digits, for any base above 1 and any alphabet: read in one way, where they begin and stop, canonical ones.
-- Assumes nothing.
use mathlib.Core.Bool.{Bool, true, false}
use mathlib.Core.List.{List, [], ◌∷◌, ◌++◌, map, append_assoc, append-nil, map-append}
use mathlib.Core.Path.{◌≡◌, refl, sym, ap, ◌∙◌, subst}
use Prim.Native.Nat.{ℕ, zero, suc, ◌<◌}
use native.Mathlib.Omega.{arith}
use lib.ListN.{length, get_or, length-append}
use Rattle.digits.specs.Digits.{digits, value, Below, Canonical}
use Rattle.digits.proofs.Digits.{unique, canonical, digits_value, Below-snoc}
use Rattle.scientific.specs.Shape.{sign}
use Rattle.reading.specs.Form.{Begins, Place}
use Rattle.reading.specs.Whole.{Whole, ShapedWhole, CanonicalWhole, written_whole, whole_shape}
use Rattle.reading.proofs.Place.{place_at, place_end}

-- α gives each digit below b a byte of its own, and none is `-`
pub record Alphabet (α : ℕ → ℕ) (b : ℕ) : Type 0 where
  pub big : 1 < b
  pub own : (d e : ℕ) → d < b → e < b → α d ≡ α e → d ≡ e
  pub digit : (d : ℕ) → d < b → α d ≡ 45 → ⊥

-- c is the byte of no digit
abbrev pub NoDigit : (ℕ → ℕ) → ℕ → ℕ → Type 0
NoDigit α b c = (d : ℕ) → d < b → α d ≡ c → ⊥

module _ (α : ℕ → ℕ) (b : ℕ) (A : Alphabet α b) where
  -- digits are known by their bytes
  same_digits : (ds es : List ℕ) → Below b ds → Below b es → map α ds ≡ map α es → ds ≡ es
  unfolding Below
  same_digits [] [] p q e = refl
  same_digits [] (y ∷ es) p q e = cc
  same_digits (x ∷ ds) [] p q e = cc
  same_digits (x ∷ ds) (y ∷ es) p q e =
      let h : α x ≡ α y = cc in
      let t : map α ds ≡ map α es = cc in
      let z = A.own x y p.0 q.0 h in
      let r = same_digits ds es p.1 q.1 t in
      cc

  -- no other byte stands among digits
  no_other : (ds es : List ℕ) (c : ℕ) (r : List ℕ) → Below b es → NoDigit α b c → (map α ds ++ (c ∷ [])) ++ r ≡ map α es → ⊥
  unfolding Below
  no_other [] [] c r q f e = let z : ◌≡◌ {A = ℕ} 0 1 = cc in omega arith
  no_other [] (y ∷ es) c r q f e = f y q.0 (cc)
  no_other (x ∷ ds) [] c r q f e = let z : ◌≡◌ {A = ℕ} 0 1 = cc in omega arith
  no_other (x ∷ ds) (y ∷ es) c r q f e =
      let t : (map α ds ++ (c ∷ [])) ++ r ≡ map α es = cc in
      no_other ds es c r q.1 f t

  no_minus : (es r : List ℕ) → Below b es → 45 ∷ r ≡ map α es → ⊥
  unfolding Below
  no_minus [] r q e = let z : ◌≡◌ {A = ℕ} 0 1 = cc in omega arith
  no_minus (y ∷ es) r q e = A.digit y q.0 (cc)

  no_stop : (m n : Bool) (ds es : List ℕ) (c : ℕ) (r : List ℕ) → Below b ds → Below b es → NoDigit α b c → (m ≡ false → ds ≡ [] → n ≡ true → c ≡ 45 → ⊥)
      → ((sign m ++ map α ds) ++ (c ∷ [])) ++ r ≡ sign n ++ map α es → ⊥
  unfolding Below
  no_stop true true ds es c r p q f g e = no_other ds es c r q f (cc)
  no_stop true false ds es c r p q f g e = no_minus es ((map α ds ++ (c ∷ [])) ++ r) q e
  no_stop false true [] es c r p q f g e = g refl refl refl (cc)
  no_stop false true (d ∷ ds) es c r p q f g e = A.digit d p.0 (cc)
  no_stop false false ds es c r p q f g e = no_other ds es c r q f e

  no_end : (m n : Bool) (es : List ℕ) → Below b es → 0 < length es → sign m ≡ sign n ++ map α es → ⊥
  unfolding Below
  no_end m n [] q s e = omega arith
  no_end true true (y ∷ es) q s e = let z : ◌≡◌ {A = ℕ} 0 1 = cc in omega arith
  no_end true false (y ∷ es) q s e = no_minus (y ∷ es) [] q e
  no_end false true (y ∷ es) q s e = let z : ◌≡◌ {A = ℕ} 0 1 = cc in omega arith
  no_end false false (y ∷ es) q s e = let z : ◌≡◌ {A = ℕ} 0 1 = cc in omega arith

  -- ---- read in one way

  pub one-reading : (may : Bool) (x y : Whole) → ShapedWhole may b x → ShapedWhole may b y → written_whole α x ≡ written_whole α y → x ≡ y
  one-reading may x y p q e = go x.minus y.minus refl refl e
    where
      both : (m : Bool) → x.minus ≡ m → y.minus ≡ m → map α x.digits ≡ map α y.digits → x ≡ y
      both m g h e =
          let d = same_digits x.digits y.digits p.each q.each e in
          λ i. record { minus = (g ∙ sym h) i; digits = d i }

      go : (m n : Bool) → x.minus ≡ m → y.minus ≡ n → sign m ++ map α x.digits ≡ sign n ++ map α y.digits → x ≡ y
      go true true g h e = both true g h (cc)
      go true false g h e = absurd (no_minus y.digits (map α x.digits) q.each e)
      go false true g h e = absurd (no_minus x.digits (map α y.digits) p.each (sym e))
      go false false g h e = both false g h e

  -- ---- where a text leaves the shape, in front of it a minus (m) or none

  module _ (may : Bool) (m : Bool) (ds : List ℕ) (allowed : m ≡ true → may ≡ true) (each : Below b ds) where
    begins : Begins (whole_shape may α b) (sign m ++ map α ds)
    unfolding Below
    begins = (
      α 0 ∷ [],
      (
        record { minus = m; digits = ds ++ (0 ∷ []) },
        record {
          shaped = record { minus = allowed; each = Below-snoc b A.big ds 0 each (omega (arith, A.big)); some = rw (length-append ds (0 ∷ [])) (omega arith) };
          text = rw (append_assoc (sign m) (map α ds) (α 0 ∷ [])) (ap (λ (l : List ℕ). sign m ++ l) (sym (map-append α ds (0 ∷ []))));
        },
      ),
    )

    -- a byte that is no digit, and no minus in front where one may stand
    pub place-stop : (c : ℕ) (r : List ℕ) → NoDigit α b c → (m ≡ false → ds ≡ [] → may ≡ true → c ≡ 45 → ⊥) → Place (whole_shape may α b) ((sign m ++ map α ds) ++ c ∷ r) (length (sign m ++ map α ds))
    place-stop c r f g =
        place_at (whole_shape may α b) (sign m ++ map α ds) c r begins
        (λ B. no_stop m B.1.0.minus ds B.1.0.digits c B.0 each B.1.1.shaped.each f (λ e h n. g e h (B.1.1.shaped.minus n)) B.1.1.text)

    -- no digit at all
    pub place_none : ds ≡ [] → Place (whole_shape may α b) (sign m) (length (sign m))
    place_none e =
        let B : Begins (whole_shape may α b) (sign m) = subst (Begins (whole_shape may α b)) (ap (λ (l : List ℕ). sign m ++ map α l) e ∙ append-nil (sign m)) begins in
        place_end (whole_shape may α b) (sign m) B (λ H. no_end m H.0.minus H.0.digits H.1.shaped.each H.1.shaped.some H.1.text)

  -- ---- canonical digits are the digits of what they stand for

  pub canonical-digits : (x : Whole) → Below b x.digits → 0 < length x.digits → CanonicalWhole b x → x.digits ≡ digits b (value b x.digits)
  canonical-digits x h s K = unique b A.big (value b x.digits) x.digits (record { stands = refl; each = h; some = s; lead = lead x.digits K.lead })
    where
      lead : (ds : List ℕ) → ((d : ℕ) (es : List ℕ) → ds ≡ 0 ∷ d ∷ es → ⊥) → 1 < length ds → 0 < get_or ds 0 0
      lead [] f h = absurd (omega arith)
      lead (c ∷ []) f h = absurd (omega arith)
      lead (zero ∷ d ∷ ds) f h = absurd (f d ds refl)
      lead (suc c ∷ d ∷ ds) f h = omega arith

  -- the digits of a number, behind a minus or not, are canonical
  pub digits-canonical : (m : Bool) (n : ℕ) → (m ≡ true → n ≡ 0 → ⊥) → CanonicalWhole b (record { minus = m; digits = digits b n })
  digits-canonical m n h = record { lead = lead; minus = λ e z. h e (sym (digits_value b A.big n) ∙ z) }
    where
      lead : (d : ℕ) (ds : List ℕ) → digits b n ≡ 0 ∷ d ∷ ds → ⊥
      lead d ds e =
          let c = subst (λ (l : List ℕ). Canonical b n l) e (canonical b A.big n) in
          omega (arith, c.lead (omega arith))
