-- Laws of sign, prefix and padding: which way each test went, the length of the whole text, and its pieces as a writer puts them.
-- Assumes nothing.
use mathlib.Core.Bool.{Bool, true, false}
use mathlib.Core.List.{List, [], ◌∷◌, ◌++◌, append_assoc}
use mathlib.Core.Path.{◌≡◌, refl, sym, ap, ◌∙◌}
use Prim.Native.Nat.{ℕ, zero, suc, ◌+◌, ◌-◌, ◌/◌, ◌≤◌, ◌<◌}
use native.Mathlib.Decide.{dec_le}
use native.Mathlib.Omega.{arith}
use borrow.Author.Tests.{ne_eqb}
use lib.Dec.{eqb}
use lib.ListN.{length, set, replicate, length-append, length-replicate}
use Rattle.buffer.specs.AtEnd.{ended}
use Rattle.buffer.proofs.AtEnd.{ended-done, ended-sets}
use Rattle.padding.specs.Padding.{Planned, sign_of, prefix_of, padded}

-- ---- the padding of k bytes

pub plan-none : (pad : Bool) (align k : ℕ) → k ≡ 0 → Planned pad align k 0 0 0
plan-none true align k e = rw e (record { before-is = refl; zeros-is = refl; behind-is = refl })
plan-none false align k e = rw e (go (eqb align 1) (eqb align 2) refl refl)
  where
    go : (s t : Bool) → eqb align 1 ≡ s → eqb align 2 ≡ t → Planned false align 0 0 0 0
    go true t f g = record { before-is = rw f; zeros-is = refl; behind-is = rw f }
    go false true f g = record { before-is = rw (f, g); zeros-is = refl; behind-is = rw (f, g) }
    go false false f g = record { before-is = rw (f, g); zeros-is = refl; behind-is = rw (f, g) }

pub plan-zeros : (pad : Bool) (align k : ℕ) → pad ≡ true → Planned pad align k 0 k 0
plan-zeros pad align k e = rw e (record { before-is = refl; zeros-is = refl; behind-is = refl })

module _ (pad : Bool) (align k : ℕ) (e : pad ≡ false) where
  pub plan-left : align ≡ 1 → Planned pad align k 0 0 k
  plan-left a = let s : k ≡ k - 0 = omega arith in rw (e, a) (record { before-is = refl; zeros-is = refl; behind-is = s })

  pub plan-centre : align ≡ 2 → Planned pad align k (k / 2) 0 (k - k / 2)
  plan-centre a = rw (e, a) (record { before-is = refl; zeros-is = refl; behind-is = refl })

  pub plan-right : (align ≡ 1 → ⊥) → (align ≡ 2 → ⊥) → Planned pad align k k 0 0
  plan-right a b =
      let s : 0 ≡ k - k = omega arith in
      rw e (record { before-is = rw (ne_eqb align 1 a, ne_eqb align 2 b); zeros-is = refl; behind-is = rw (ne_eqb align 1 a, ne_eqb align 2 b) s })

-- ---- the sign and the prefix

pub sign-few : (negative plus : Bool) → length (sign_of negative plus) ≤ 1
sign-few true plus = omega arith
sign-few false true = omega arith
sign-few false false = omega arith

pub prefix-two : (code : ℕ) → 1 ≤ code → code ≤ 4 → length (prefix_of true code) ≡ 2
prefix-two zero l h = absurd (omega arith)
prefix-two (suc zero) l h = refl
prefix-two (suc (suc zero)) l h = refl
prefix-two (suc (suc (suc zero))) l h = refl
prefix-two (suc (suc (suc (suc zero)))) l h = refl
prefix-two (suc (suc (suc (suc (suc k))))) l h = absurd (omega arith)

pub prefix-hex : (code : ℕ) → 1 ≤ code → code ≤ 4 → (code ≡ 1 → ⊥) → (code ≡ 2 → ⊥) → prefix_of true code ≡ 48 ∷ 120 ∷ []
prefix-hex zero l h a b = absurd (omega arith)
prefix-hex (suc zero) l h a b = absurd (a refl)
prefix-hex (suc (suc zero)) l h a b = absurd (b refl)
prefix-hex (suc (suc (suc zero))) l h a b = refl
prefix-hex (suc (suc (suc (suc zero)))) l h a b = refl
prefix-hex (suc (suc (suc (suc (suc k))))) l h a b = absurd (omega arith)

pub no-prefix-low : (code : ℕ) → code < 1 → prefix_of true code ≡ []
no-prefix-low code h = ap (prefix_of true) (let e : code ≡ 0 = omega arith in e)

pub no-prefix-high : (code : ℕ) → 4 < code → prefix_of true code ≡ []
no-prefix-high code h = rw (ne_eqb code 1 (λ e. omega arith), ne_eqb code 2 (λ e. omega arith), ne_eqb code 3 (λ e. omega arith), ne_eqb code 4 (λ e. omega arith))

pub prefix-few : (alternate : Bool) (code : ℕ) → length (prefix_of alternate code) ≤ 2
prefix-few false code = omega arith
prefix-few true code = go (dec_le 1 code) (dec_le code 4)
  where
    go : Dec (1 ≤ code) → Dec (code ≤ 4) → length (prefix_of true code) ≤ 2
    go (yes l) (yes h) = omega (arith, prefix-two code l h)
    go (yes l) (no h) = rw (no-prefix-high code (omega arith)) (omega arith)
    go (no l) h = rw (no-prefix-low code (omega arith)) (omega arith)

-- ---- pieces in a buffer

-- a piece that is empty leaves the buffer, and one byte is one store
pub put-none : (l : List ℕ) (e : ℕ) (t : List ℕ) → t ≡ [] → l ≡ ended l e t
put-none l e t h = rw h (sym (ended-done l e))

pub put_one : (l : List ℕ) (e : ℕ) (t : List ℕ) (x : ℕ) → t ≡ x ∷ [] → length t ≤ e → e ≤ length l → set l (e - 1) x ≡ ended l e t
put_one l e t x h r k = rw h (ended-sets l (e - 1) e (x ∷ []) (omega (arith, ap length h)) k)

-- ---- the whole text

-- what the text with sign and prefix lacks to the width
abbrev pub lacking : ℕ → List ℕ → List ℕ → List ℕ → ℕ
lacking width sign prefix digits = width - (length sign + (length prefix + length digits))

module _ (pad : Bool) (fill align width : ℕ) (sign prefix digits : List ℕ) {before zeros behind : ℕ} (P : Planned pad align (lacking width sign prefix digits) before zeros behind) where
  -- what is in front of the digits, the digits, and the fill behind
  pub padded-is : padded pad fill align width sign prefix digits ≡ (replicate before fill ++ (sign ++ (prefix ++ replicate zeros 48))) ++ (digits ++ replicate behind fill)
  unfolding padded
  padded-is = rw (P.before-is, P.zeros-is, P.behind-is) (simp append_assoc)

  pub padded-length : length (padded pad fill align width sign prefix digits) ≡ (before + (length sign + (length prefix + zeros))) + (length digits + behind)
  padded-length = ap length padded-is ∙ simp (length-append, length-replicate)
