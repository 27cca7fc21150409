-- The text of a coefficient, its fraction digits and its exponent is an exponent text, is read back, and in one way only.
-- Assumes nothing.
use mathlib.Core.Bool.{Bool, true, false}
use mathlib.Core.List.{List, [], ◌∷◌, ◌++◌, map}
use mathlib.Core.Path.{◌≡◌, refl, sym, ap, ◌∙◌}
use Prim.Native.Nat.{ℕ, suc, ◌/◌, ◌^◌, ◌≤◌, ◌<◌}
use native.Mathlib.Nat.{div-add-mod', div-lt_iff_lt-mul}
use native.Mathlib.Omega.{arith}
use lib.ListN.{length}
use Rattle.digits.specs.Digits.{digits, last, value, Below}
use Rattle.digits.specs.Text.{ascii, text, last_text}
use Rattle.digits.proofs.Digits.{digits-some, digits-below, digits_value, digits-length-le}
use Rattle.digits.proofs.Last.{length_last, last-below, last-value, value-cons}
use Rattle.scientific.specs.Sci.{Sci}
use Rattle.scientific.specs.Layout.{point, layout}
use Rattle.scientific.specs.Shape.{Parts, sign, fraction, written, Reads, number}
use Rattle.scientific.proofs.Tens as T

-- ---- what is written is read back

-- the parts of the text of s, behind a minus or not
unfoldable pub parts : Bool → Sci → Parts
parts minus s = record { minus = minus; lead = s.coef / 10 ^ s.frac; frac = last 10 s.frac s.coef; expo = digits 10 s.expo }

pointed : (ds r : List ℕ) → point (length ds) ++ (map ascii ds ++ r) ≡ fraction ds ++ r
unfolding point fraction
pointed [] r = refl
pointed (d ∷ ds) r = refl

pub layout-written : (minus : Bool) (letter : ℕ) (s : Sci) → sign minus ++ layout letter s ≡ written letter (parts minus s)
unfolding layout written parts text last_text
layout-written minus letter s =
    let p = rw (length_last 10 s.frac s.coef) at (pointed (last 10 s.frac s.coef) (letter ∷ map ascii (digits 10 s.expo))) in
    ap (λ (l : List ℕ). sign minus ++ (ascii (s.coef / 10 ^ s.frac) ∷ l)) p

pub reads : (signed minus : Bool) (letter : ℕ) (s : Sci) → (minus ≡ true → signed ≡ true) → s.coef < 10 ^ suc s.frac → s.expo ≤ 99
    → Reads signed letter (sign minus ++ layout letter s) (parts minus s)
unfolding parts
reads signed minus letter s m h l = record {
  shaped = record {
    minus = m;
    lead = (div-lt_iff_lt-mul (T.pos s.frac)).1 (omega arith);
    frac = last-below 10 T.ten s.frac s.coef;
    expo = digits-below 10 T.ten s.expo;
    one = digits-some 10 T.ten s.expo;
    two = digits-length-le 10 T.ten 2 s.expo (omega arith) (omega arith);
  };
  text = layout-written minus letter s;
}

pub number-parts : (minus : Bool) (s : Sci) → number (parts minus s) ≡ s
unfolding parts
number-parts minus s = λ i. record { coef = c i; frac = length_last 10 s.frac s.coef i; expo = digits_value 10 T.ten s.expo i }
  where
    c : value 10 ((s.coef / 10 ^ s.frac) ∷ last 10 s.frac s.coef) ≡ s.coef
    c =
        rw (value-cons 10 T.ten (s.coef / 10 ^ s.frac) (last 10 s.frac s.coef), length_last 10 s.frac s.coef, last-value 10 T.ten s.frac s.coef)
        (div-add-mod' s.coef (10 ^ s.frac))

-- ---- a text is read in one way

-- digits are known by their bytes
same_bytes : (a b : List ℕ) → map ascii a ≡ map ascii b → a ≡ b
same_bytes [] [] e = refl
same_bytes [] (y ∷ b) e = cc
same_bytes (x ∷ a) [] e = cc
same_bytes (x ∷ a) (y ∷ b) e =
    let h : ascii x ≡ ascii y = cc in
    let z : x ≡ y = omega arith in
    let t : map ascii a ≡ map ascii b = cc in
    let r = same_bytes a b t in
    cc

-- a run of digits ends where the letter stands
run : (letter : ℕ) → 57 < letter → (a b c d : List ℕ) → Below 10 a → Below 10 b → map ascii a ++ letter ∷ c ≡ map ascii b ++ letter ∷ d → (a ≡ b) × (c ≡ d)
unfolding Below
run letter h [] [] c d p q e = (refl, (cc))
run letter h [] (y ∷ b) c d p q e = absurd (let z : letter ≡ ascii y = cc in omega (arith, q.0))
run letter h (x ∷ a) [] c d p q e = absurd (let z : ascii x ≡ letter = cc in omega (arith, p.0))
run letter h (x ∷ a) (y ∷ b) c d p q e =
    let t : map ascii a ++ letter ∷ c ≡ map ascii b ++ letter ∷ d = cc in
    let r = run letter h a b c d p.1 q.1 t in
    let w : ascii x ≡ ascii y = cc in
    let z : x ≡ y = omega arith in
    ((cc), r.1)

pub run-fraction : (letter : ℕ) → 57 < letter → (a b c d : List ℕ) → Below 10 a → Below 10 b → fraction a ++ letter ∷ c ≡ fraction b ++ letter ∷ d → (a ≡ b) × (c ≡ d)
unfolding fraction
run-fraction letter h [] [] c d p q e = (refl, (cc))
run-fraction letter h [] (y ∷ b) c d p q e = absurd (let z : letter ≡ 46 = cc in omega arith)
run-fraction letter h (x ∷ a) [] c d p q e = absurd (let z : 46 ≡ letter = cc in omega arith)
run-fraction letter h (x ∷ a) (y ∷ b) c d p q e =
    let t : map ascii (x ∷ a) ++ letter ∷ c ≡ map ascii (y ∷ b) ++ letter ∷ d = cc in
    run letter h (x ∷ a) (y ∷ b) c d p q t

pub one-reading : (signed signed' : Bool) (letter : ℕ) (t : List ℕ) (x y : Parts) → 57 < letter → Reads signed letter t x → Reads signed' letter t y → x ≡ y
unfolding written
one-reading signed signed' letter t x y h a b = go x.minus y.minus refl refl (sym a.text ∙ b.text)
  where
    body : Parts → List ℕ
    body z = ascii z.lead ∷ fraction z.frac ++ letter ∷ map ascii z.expo

    rest : (m : Bool) → x.minus ≡ m → y.minus ≡ m → body x ≡ body y → x ≡ y
    rest m p q e =
        let f : fraction x.frac ++ letter ∷ map ascii x.expo ≡ fraction y.frac ++ letter ∷ map ascii y.expo = cc in
        let r = run-fraction letter h x.frac y.frac (map ascii x.expo) (map ascii y.expo) a.shaped.frac b.shaped.frac f in
        let w : ascii x.lead ≡ ascii y.lead = cc in
        let l : x.lead ≡ y.lead = omega arith in
        let k = same_bytes x.expo y.expo r.1 in
        λ i. record { minus = (p ∙ sym q) i; lead = l i; frac = r.0 i; expo = k i }

    go : (m m' : Bool) → x.minus ≡ m → y.minus ≡ m' → sign m ++ body x ≡ sign m' ++ body y → x ≡ y
    go true true p q e = rest true p q (cc)
    go true false p q e = absurd (let z : 45 ≡ ascii y.lead = cc in omega arith)
    go false true p q e = absurd (let z : ascii x.lead ≡ 45 = cc in omega arith)
    go false false p q e = rest false p q e
