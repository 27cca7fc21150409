-- The three parts over the scratch bytes are the text: the coefficient as it stands there, zeros, and the letter and the exponent as they stand behind it.
-- Assumes nothing.
use mathlib.Core.List.{List, ◌∷◌, ◌++◌, append_assoc, append-nil}
use Rattle.std.specs.Prelude.{Option}
use mathlib.Core.Path.{◌≡◌, refl, sym, ap, ◌∙◌}
use Prim.Native.Nat.{ℕ, zero, suc, ◌+◌, ◌≤◌}
use native.Mathlib.Nat.{zero-add}
use native.Mathlib.Omega.{arith}
use borrow.Author.Tests.{le-ltb}
use lib.ListN.{length, take, drop, replicate, length-append, length-replicate}
use lib.Seq.{take_at, drop_at}
use Rattle.buffer.specs.AtEnd.{ended, begun}
use Rattle.buffer.proofs.AtEnd.{begun-behind, ended-whole, ended-on}
use Rattle.digits.specs.Text.{ascii, last_text, decimal}
use Rattle.digits.proofs.Text.{length-last_text, text-most}
use Rattle.formatted.specs.Three.{parts_of}
use Rattle.formatted.specs.declared.Formatted.{Formatted}
use Rattle.parts.specs.Parts.{sign_text, part_text, parts_text, text_of, leaves_source, Inside, part_length, parts_length, true_length, zero_part, copy_part}
use Rattle.parts.specs.declared.Sign.TheVariants as sign
use Rattle.parts.proofs.Text.{length-text}
use Rattle.scaling.specs.Coefficient.{Scales}
use Rattle.scaling.specs.declared.Scaled.{Scaled}
use Rattle.scientific.specs.Sci.{Sci, sci}
use Rattle.scientific.specs.Layout.{point, layout, exp_text}
use Rattle.scientific.proofs.Steps.{layout-zeros}
use Rattle.scientific.proofs.Tens as T
use Rattle.encoding.specs.Coefficient.{coef_text}
use Rattle.exponent.specs.Coefficient.{Sized, scaled_text}
use Rattle.exponent.specs.Form.{Texts}

-- the lead, a point and the fraction
pub coef-length : (m f z : ℕ) → length (coef_text m f z) ≤ f + 2
unfolding coef_text point
coef-length m f z =
    let k = length-last_text ascii 10 f m in
    omega (arith, some (f + z), length-append (point (f + z)) (last_text ascii 10 f m))
  where
    some : (k : ℕ) → length (point k) ≤ 1
    some zero = omega arith
    some (suc k) = omega arith

pub coef-least : (m f z : ℕ) → f + 1 ≤ length (coef_text m f z)
unfolding coef_text
coef-least m f z =
    let k = length-last_text ascii 10 f m in
    omega (arith, length-append (point (f + z)) (last_text ascii 10 f m))

-- the letter and two digits
pub exp-most : (letter k : ℕ) → k ≤ 99 → length (letter ∷ decimal k) ≤ 3
exp-most letter k h = let l = text-most ascii 10 T.ten 2 k (omega arith) (omega arith) in omega arith

-- a run of the source, z zeros and the run behind it
abbrev pub three : ℕ → ℕ → ℕ → Formatted
three a z b = record { sign = sign.None; first = copy_part 0 a; second = zero_part z; third = copy_part a b }

module _ (s t r : List ℕ) (z : ℕ) where
  three-inside : Inside (length ((s ++ t) ++ r)) (parts_of (three (length s) z (length t)))
  unfolding Inside leaves_source
  three-inside =
      let l = length-append (s ++ t) r in
      let k = length-append s t in
      (le-ltb (length ((s ++ t) ++ r)) (0 + length s) (omega arith), (refl, (le-ltb (length ((s ++ t) ++ r)) (length s + length t) (omega arith), tt)))

  three-text : text_of sign.None ((s ++ t) ++ r) (parts_of (three (length s) z (length t))) ≡ s ++ (replicate z 48 ++ t)
  unfolding text_of sign_text parts_text part_text
  three-text =
      let a : take (length s) ((s ++ t) ++ r) ≡ s = rw append_assoc (take_at s (t ++ r) (length s) refl) in
      let d : drop (length s) ((s ++ t) ++ r) ≡ t ++ r = rw append_assoc (drop_at s (t ++ r) (length s) refl) in
      let b : take (length t) (t ++ r) ≡ t = take_at t r (length t) refl in
      rw (a, d, b, append-nil)

three-length : (a z b : ℕ) → true_length sign.None (parts_of (three a z b)) ≡ a + (z + b)
unfolding true_length sign_text parts_length part_length
three-length a z b = omega arith

-- ---- the text of n

module _ (letter : ℕ) (s : Scaled) where
  abbrev coef : List ℕ
  coef = coef_text s.coef s.coef_prec s.more_prec

  abbrev expo : List ℕ
  expo = letter ∷ decimal s.exp

  pub scaled-length : length (scaled_text letter s) ≡ length coef + (s.more_prec + length expo)
  unfolding scaled_text
  scaled-length =
      let z : List ℕ = replicate s.more_prec 48 in
      omega (arith, length-append coef (z ++ expo), length-append z expo, length-replicate {A = ℕ} s.more_prec 48)

  -- written from its end on, straight into l: the exponent, the zeros, the coefficient
  pub written : (l m₁ m₂ m₃ : List ℕ) (at b x c : ℕ) → x ≡ length expo → c ≡ length coef → b ≡ at + c + s.more_prec → at + length (scaled_text letter s) ≤ length l
      → m₁ ≡ ended l (b + x) expo → m₂ ≡ ended m₁ b (replicate s.more_prec 48) → m₃ ≡ ended m₂ (at + c) coef
      → m₃ ≡ ended l (at + length (scaled_text letter s)) (scaled_text letter s)
  unfolding scaled_text
  written l m₁ m₂ m₃ at b x c i j k h e₁ e₂ e₃ =
      let z : List ℕ = replicate s.more_prec 48 in
      let n = scaled-length in
      let nz = length-replicate {A = ℕ} s.more_prec 48 in
      let ne = length-append z expo in
      let e : b + x ≡ at + length (scaled_text letter s) = omega arith in
      let s₂ = ended-on l (b + x) expo z e₁ e₂ (omega arith) (omega arith) (omega arith) in
      rw e at (ended-on l (b + x) (z ++ expo) coef s₂ e₃ (omega arith) (omega arith) (omega arith))

  module _ (n : ℕ) (p : Option ℕ) (S : Scales p n s) where
    pub expo-is : (sci p n).expo ≡ s.exp
    expo-is = ap (λ (x : Sci). x.expo) S.is

    pub sized : s.exp ≤ 99 → Sized s
    sized h = record { lead = S.lead; few = S.few; zeros = S.zeros; high = omega arith }

    pub text-is : scaled_text letter s ≡ exp_text letter p n
    unfolding scaled_text exp_text coef_text
    text-is = sym (ap (layout letter) S.is ∙ layout-zeros letter s.coef s.coef_prec s.more_prec s.exp)

    -- the coefficient is written at the start of the bytes l, and the exponent behind it
    pub texts : (l mid src : List ℕ) (a b : ℕ) → a ≡ length coef → b ≡ length expo → mid ≡ ended l (0 + a) coef → src ≡ ended mid (a + b) expo → length src ≡ 24 → s.exp ≤ 99
        → Texts letter p n src (three a s.more_prec b)
    unfolding begun scaled_text
    texts l mid src a b i j e₁ e₂ k h =
        let r : List ℕ = drop (length (coef ++ expo)) l in
        let e : src ≡ (coef ++ expo) ++ r = e₂ ∙ rw (e₁, zero-add a, i, j, ended-whole l coef) (begun-behind l coef expo) in
        let I : Inside (length src) (parts_of (three a s.more_prec b)) = rw (e, i, j) (three-inside coef expo r s.more_prec) in
        let X : text_of sign.None src (parts_of (three a s.more_prec b)) ≡ exp_text letter p n = rw (e, i, j) (three-text coef expo r s.more_prec ∙ text-is) in
        let L = sym (length-text sign.None src (parts_of (three a s.more_prec b)) I) ∙ ap length X in
        let t = coef-length s.coef s.coef_prec s.more_prec in
        let u = exp-most letter s.exp h in
        record {
          expo = rw S.is h;
          source = k;
          sign = refl;
          inside = I;
          text = X;
          size = L;
          few = rw (← L, three-length a s.more_prec b) (omega (arith, S.few, S.zeros));
        }
