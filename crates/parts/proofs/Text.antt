-- Laws of the text of parts: what a code stands for, where a part leaves its source, and that the text is as long as the sum says.
-- Assumes nothing.
use mathlib.Core.Path.{◌≡◌, refl, ap, ap₂, ◌∙◌}
use mathlib.Core.Bool.{Bool, true, false}
use mathlib.Core.List.{List, [], ◌∷◌}
use Prim.Native.Nat.{ℕ, zero, suc, ◌+◌, ◌-◌, ◌≤◌, ◌<◌}
use native.Mathlib.Omega.{arith}
use borrow.Author.Tests.{ltb-true, ltb-false, lt-ltb, le-ltb}
use lib.Dec.{ltb}
use lib.ListN.{length, take, drop, replicate, length-append, length-replicate, length-drop}
use lib.Seq.{length-take-le}
use Rattle.digits.specs.Text.{decimal}
use Rattle.parts.specs.Parts.{sign_of, sign_text, part_of, part_text, parts_text, text_of, leaves_source, Inside, part_length, parts_length, true_length}
use Rattle.parts.specs.declared.Part.{Part}
use Rattle.parts.specs.declared.Part.TheVariants.{Zero, Num, Copy, Unknown}
use Rattle.parts.specs.declared.Sign.{Sign}
use Rattle.parts.specs.declared.Sign.TheVariants as sign

-- ---- the text by the code of a sign

pub sign-none : (code : ℕ) → code ≡ 0 → sign_text (sign_of code) ≡ []
unfolding sign_text
sign-none code e = rw e

pub sign-minus : (code : ℕ) → code ≡ 1 → sign_text (sign_of code) ≡ 45 ∷ []
unfolding sign_text
sign-minus code e = rw e

pub sign-plus : (code : ℕ) → 2 ≤ code → sign_text (sign_of code) ≡ 43 ∷ []
unfolding sign_text
sign-plus zero h = absurd (omega arith)
sign-plus (suc zero) h = absurd (omega arith)
sign-plus (suc (suc zero)) h = refl
sign-plus (suc (suc (suc code))) h = refl

pub sign-some : (code : ℕ) → (code ≡ 0 → ⊥) → length (sign_text (sign_of code)) ≡ 1
unfolding sign_text
sign-some zero h = absurd (h refl)
sign-some (suc zero) h = refl
sign-some (suc (suc zero)) h = refl
sign-some (suc (suc (suc code))) h = refl

-- ---- the text, the length and the leaving by the code of a part's kind

module _ (number zeros start len : ℕ) where
  -- a code from 2 on stands for a run: where the two of them agree, nothing tells them apart
  run-from-2 : {A : Type 0} (f : Part → A) → f (Unknown start len) ≡ f (Copy start len) → (kind : ℕ) → 2 ≤ kind → f (part_of kind number zeros start len) ≡ f (Copy start len)
  run-from-2 f e zero h = absurd (omega arith)
  run-from-2 f e (suc zero) h = absurd (omega arith)
  run-from-2 f e (suc (suc zero)) h = refl
  run-from-2 f e (suc (suc (suc kind))) h = e

module _ (src : List ℕ) (kind number zeros start len : ℕ) where
  pub text-zeros : kind ≡ 0 → part_text src (part_of kind number zeros start len) ≡ replicate zeros 48
  unfolding part_text
  text-zeros e = rw e

  pub text-number : kind ≡ 1 → part_text src (part_of kind number zeros start len) ≡ decimal number
  unfolding part_text
  text-number e = rw e

  pub text-copied : 2 ≤ kind → part_text src (part_of kind number zeros start len) ≡ take len (drop start src)
  unfolding part_text
  text-copied = run-from-2 number zeros start len (part_text src) refl kind

module _ (n kind number zeros start len : ℕ) where
  pub stays : kind < 2 → leaves_source n (part_of kind number zeros start len) ≡ false
  unfolding leaves_source
  stays h = go kind h
    where
      go : (k : ℕ) → k < 2 → leaves_source n (part_of k number zeros start len) ≡ false
      go zero l = refl
      go (suc zero) l = refl
      go (suc (suc k)) l = absurd (omega arith)

  pub leaves-copied : 2 ≤ kind → leaves_source n (part_of kind number zeros start len) ≡ ltb n (start + len)
  unfolding leaves_source
  leaves-copied = run-from-2 number zeros start len (leaves_source n) refl kind

  -- without the sum: the run starts behind the source, or is longer than what stands from its start on
  pub leaves-before : 2 ≤ kind → n < start → leaves_source n (part_of kind number zeros start len) ≡ true
  leaves-before h l = leaves-copied h ∙ lt-ltb n (start + len) (omega arith)

  pub leaves-behind : 2 ≤ kind → start ≤ n → leaves_source n (part_of kind number zeros start len) ≡ ltb (n - start) len
  leaves-behind h l = leaves-copied h ∙ go (ltb (n - start) len) refl
    where
      go : (t : Bool) → ltb (n - start) len ≡ t → ltb n (start + len) ≡ ltb (n - start) len
      go true e = rw e (lt-ltb n (start + len) (omega (arith, ltb-true (n - start) len e)))
      go false e = rw e (le-ltb n (start + len) (omega (arith, ltb-false (n - start) len e)))

module _ (kind number zeros start len : ℕ) where
  pub length-zeros : kind ≡ 0 → part_length (part_of kind number zeros start len) ≡ zeros
  unfolding part_length
  length-zeros e = rw e

  pub length-number : kind ≡ 1 → part_length (part_of kind number zeros start len) ≡ length (decimal number)
  unfolding part_length
  length-number e = rw e

  pub length-copied : 2 ≤ kind → part_length (part_of kind number zeros start len) ≡ len
  unfolding part_length
  length-copied = run-from-2 number zeros start len part_length refl kind

-- ---- the length

pub sign-short : (s : Sign) → length (sign_text s) ≤ 1
unfolding sign_text
sign-short sign.None = omega arith
sign-short sign.Minus = omega arith
sign-short sign.Plus = omega arith
sign-short sign.Unknown = omega arith

length-run : (src : List ℕ) (start len : ℕ) → ltb (length src) (start + len) ≡ false → length (take len (drop start src)) ≡ len
length-run src start len e =
    let h : start + len ≤ length src = ltb-false (length src) (start + len) e in
    length-take-le len (drop start src) (omega (arith, length-drop start src))

pub length_part : (src : List ℕ) (p : Part) → leaves_source (length src) p ≡ false → length (part_text src p) ≡ part_length p
unfolding leaves_source part_text part_length
length_part src (Zero n) e = length-replicate n 48
length_part src (Num v) e = refl
length_part src (Copy start len) e = length-run src start len e
length_part src (Unknown start len) e = length-run src start len e

pub length-parts : (src : List ℕ) (ps : List Part) → Inside (length src) ps → length (parts_text src ps) ≡ parts_length ps
unfolding parts_text parts_length Inside
length-parts src [] h = refl
length-parts src (p ∷ ps) h =
    length-append (part_text src p) (parts_text src ps)
    ∙ ap₂ (λ (m k : ℕ). m + k) (length_part src p h.0) (length-parts src ps h.1)

-- the text is as long as the sum says, where no part leaves its source
pub length-text : (sign : Sign) (src : List ℕ) (ps : List Part) → Inside (length src) ps → length (text_of sign src ps) ≡ true_length sign ps
unfolding text_of true_length
length-text sign src ps h = length-append (sign_text sign) (parts_text src ps) ∙ ap (λ (k : ℕ). length (sign_text sign) + k) (length-parts src ps h)
