-- What a text of digits is found to be, from a minus or none in front and the run of digits behind it. Over the alphabet and the base.
-- Assumes nothing.
use Rattle.std.specs.Prelude.{Option}
use mathlib.Core.Bool.{Bool, true, false}
use mathlib.Core.List.{List, [], ◌∷◌, ◌++◌, map, append_assoc, append-nil}
use mathlib.Core.Path.{◌≡◌, refl, sym, ap, ◌∙◌, subst}
use Prim.Native.Nat.{ℕ, ◌^◌, zero, suc, ◌+◌, ◌-◌, ◌*◌, ◌≤◌, ◌<◌}
use native.Mathlib.Nat.{add-zero, zero-mul, zero-add}
use native.Mathlib.Omega.{arith}
use lib.Dec.{ltb}
use lib.ListN.{length, get_or, drop, length-append, length-drop, length-map, drop_of_length-le}
use lib.Seq.{drop-cons, get_or-drop}
use Rattle.digits.specs.Digits.{value, value_from, Below}
use Rattle.scientific.specs.Shape.{sign}
use Rattle.reading.specs.Form.{Reads, Place}
use Rattle.reading.specs.Whole.{Whole, CanonicalWhole, whole_shape}
use Rattle.reading.proofs.Whole.{Alphabet, place-stop, place_none}
use Rattle.digit_runs.specs.Runs.{DigitRun, Front, Held}
use Rattle.outcomes.specs.Found.{IsNumber, IsFound, IsBeyond}
use Rattle.whole_texts.specs.Wholes.{wholes}
use Rattle.digit_runs.proofs.Runs.{value_from-le}

pub empty : (l : List ℕ) → length l ≤ 0 → l ≡ []
empty [] h = refl
empty (x ∷ l) h = absurd (omega arith)

-- what stands at i is the first of what follows
pub first : (t : List ℕ) (i : ℕ) → get_or t i 0 ≡ get_or (drop i t) 0 0
first t i = ap (λ (k : ℕ). get_or t k 0) (sym (add-zero i)) ∙ sym (get_or-drop i t 0 0)

pub sized : (m : Bool) → ltb 0 (length (sign m)) ≡ m
sized true = refl
sized false = refl

one : (m : Bool) → 0 < length (sign m) → m ≡ true
one true h = refl
one false h = absurd (omega arith)

-- a number with a first digit above 0 is above 0
pub value-lead : (b d : ℕ) (ds : List ℕ) → 1 < b → 0 < value b (suc d ∷ ds)
unfolding value value_from
value-lead b d ds big = let h = value_from-le b (0 * b + suc d) ds big in omega arith

module _ (α : ℕ → ℕ) (b : ℕ) (A : Alphabet α b) (figure : α 0 ≡ 48) (may : Bool) (t : List ℕ) (s end : ℕ) (F : Front may t s) (R : DigitRun α b t s end) where
  abbrev m : Bool
  m = F.minus

  abbrev ds : List ℕ
  ds = R.run.digits

  whole-text : t ≡ (sign m ++ map α ds) ++ drop end t
  whole-text = F.text ∙ ap (λ (l : List ℕ). sign m ++ l) R.run.text ∙ sym (append_assoc (sign m) (map α ds) (drop end t))

  end_is : end ≡ length (sign m ++ map α ds)
  end_is =
      let e : length t ≡ length (sign m ++ map α ds) + (length t - end) = ap length whole-text ∙ simp (length-append, length-drop) in
      omega (arith, R.run.inside)

  ends_at : end ≡ s + length ds
  ends_at = end_is ∙ length-append (sign m) (map α ds) ∙ (let l = length-map ds α in omega (arith, F.size))

  -- ---- of another shape

  pub found-stop : end < length t → Place (whole_shape may α b) t end
  found-stop h =
      let c = get_or t end 0 in
      let e : t ≡ (sign m ++ map α ds) ++ c ∷ drop (suc end) t = whole-text ∙ ap (λ (l : List ℕ). (sign m ++ map α ds) ++ l) (drop-cons t end 0 h) in
      let P = place-stop α b A may m ds F.allowed R.run.each c (drop (suc end) t) (R.stop h) (λ o z y q. F.none o y (lead o z ∙ q)) in
      subst (λ (l : List ℕ). Place (whole_shape may α b) l end) (sym e) (subst (Place (whole_shape may α b) ((sign m ++ map α ds) ++ c ∷ drop (suc end) t)) (sym end_is) P)
    where
      lead : m ≡ false → ds ≡ [] → get_or t 0 0 ≡ get_or t end 0
      lead o z =
          let n : end ≡ 0 = end_is ∙ ap (λ (k : Bool). length (sign k ++ map α ds)) o ∙ ap (λ (l : List ℕ). length (map α l)) z in
          ap (λ (k : ℕ). get_or t k 0) (sym n)

  -- nothing follows
  closed : length t ≤ end → t ≡ sign m ++ map α ds
  closed h = whole-text ∙ ap (λ (l : List ℕ). (sign m ++ map α ds) ++ l) (drop_of_length-le t h) ∙ append-nil (sign m ++ map α ds)

  pub found_none : length t ≤ end → end ≤ s → Place (whole_shape may α b) t end
  found_none h l =
      let z : ds ≡ [] = empty ds (omega (arith, ends_at)) in
      let e : sign m ≡ t = sym (closed h ∙ ap (λ (k : List ℕ). sign m ++ map α k) z ∙ append-nil (sign m)) in
      let n : length (sign m) ≡ end = omega (arith, F.size, ends_at) in
      subst (λ (k : List ℕ). Place (whole_shape may α b) k end) e (subst (Place (whole_shape may α b) (sign m)) n (place_none α b A may m ds F.allowed R.run.each z))

  -- ---- of the shape

  abbrev pub parts : Whole
  parts = record { minus = m; digits = ds }

  -- the first digit
  head : get_or t s 0 ≡ get_or (map α ds ++ drop end t) 0 0
  head = first t s ∙ ap (λ (l : List ℕ). get_or l 0 0) R.run.text

  -- if its byte is `0`, it is 0
  nought : (d : ℕ) (es : List ℕ) → ds ≡ d ∷ es → get_or t s 0 ≡ 48 → d ≡ 0
  unfolding Below
  nought d es e z =
      let B : Below b (d ∷ es) = subst (Below b) e R.run.each in
      let h : α d ≡ α 0 = sym (ap (λ (l : List ℕ). get_or (map α l ++ drop end t) 0 0) e) ∙ sym head ∙ z ∙ sym figure in
      A.own d 0 B.0 (omega (arith, A.big)) h

  byte-nought : (es : List ℕ) → ds ≡ 0 ∷ es → get_or t s 0 ≡ 48
  byte-nought es e = head ∙ ap (λ (l : List ℕ). get_or (map α l ++ drop end t) 0 0) e ∙ figure

  module _ (all : length t ≤ end) (some : s < end) where
    pub found-reads : Reads (whole_shape may α b) t parts
    found-reads = record { shaped = record { minus = F.allowed; each = R.run.each; some = omega (arith, ends_at) }; text = closed all }

    pub found-broken : get_or t s 0 ≡ 48 → 1 < end → CanonicalWhole b parts → ⊥
    unfolding value value_from
    found-broken z h K = go ds refl
      where
        go : (l : List ℕ) → ds ≡ l → ⊥
        go [] e = let n : length ds ≡ 0 = ap length e in omega (arith, ends_at)
        go (d ∷ []) e =
            let n : length ds ≡ 1 = ap length e in
            let q : s ≡ length (sign m) = F.size in
            let v : value b ds ≡ 0 = ap (value b) e ∙ ap (λ (x : ℕ). value b (x ∷ [])) (nought d [] e z) ∙ rw (zero-mul, zero-add) in
            K.minus (one m (omega (arith, ends_at))) v
        go (d ∷ c ∷ l) e = K.lead c l (e ∙ ap (λ (x : ℕ). x ∷ c ∷ l) (nought d (c ∷ l) e z))

    pub found-canonical : (get_or t s 0 ≡ 48 → end ≤ 1) → CanonicalWhole b parts
    unfolding value
    found-canonical f = record { lead = lead; minus = λ o v. minus o v ds refl }
      where
        lead : (d : ℕ) (es : List ℕ) → ds ≡ 0 ∷ d ∷ es → ⊥
        lead d es e =
            let l = f (byte-nought (d ∷ es) e) in
            let n : length ds ≡ suc (suc (length es)) = ap length e in
            omega (arith, ends_at)

        minus : m ≡ true → value b ds ≡ 0 → (l : List ℕ) → ds ≡ l → ⊥
        minus o v [] e = let n : length ds ≡ 0 = ap length e in omega (arith, ends_at)
        minus o v (zero ∷ l) e =
            let g = f (byte-nought l e) in
            let q : s ≡ 1 = F.size ∙ ap (λ (k : Bool). length (sign k)) o in
            omega arith
        minus o v (suc d ∷ l) e = let g = value-lead b d l A.big in let w : value b (suc d ∷ l) ≡ 0 = ap (value b) (sym e) ∙ v in omega arith

    pub found-whole : {r : Option ℕ} → (get_or t s 0 ≡ 48 → end ≤ 1) → Held r (value_from b 0 ds) → IsFound (wholes may α b) t (record { negative = ltb 0 s; magnitude = r })
    unfolding value
    found-whole f held = record { parts = parts; reads = found-reads; canonical = found-canonical f; sign = sym (ap (ltb 0) F.size ∙ sized m); held = held }

    pub found-beyond : (get_or t s 0 ≡ 48 → end ≤ 1) → 2 ^ 64 ≤ value_from b 0 ds → IsBeyond (wholes may α b) t
    unfolding value
    found-beyond f beyond = record { parts = parts; reads = found-reads; canonical = found-canonical f; beyond = beyond }

    pub found_number : (v : ℕ) → (get_or t s 0 ≡ 48 → end ≤ 1) → v ≡ value_from b 0 ds → IsNumber (wholes may α b) t (record { negative = ltb 0 s; magnitude = v })
    unfolding value
    found_number v f held = record { parts = parts; reads = found-reads; canonical = found-canonical f; sign = sym (ap (ltb 0) F.size ∙ sized m); held = held }
