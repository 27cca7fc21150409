-- Rounding to a multiple of an even u: how far it goes, where a tie goes, that no multiple of u is nearer, and that it keeps order.
-- Assumes nothing.
use mathlib.Core.Bool.{Bool, true, false}
use mathlib.Core.Path.{◌≡◌, refl, ap}
use Prim.Native.Nat.{ℕ, zero, suc, ◌+◌, ◌-◌, ◌*◌, ◌/◌, ◌%◌, ◌≤◌, ◌<◌}
use native.Mathlib.Nat.{div-add-mod', mod-lt, mul-le-mul_right, le-div_iff_mul-le, div-mul-le_self, le_trans}
use native.Mathlib.Decide.{dec_le}
use native.Mathlib.Omega.{arith}
use borrow.Author.Tests.{ltb-true, ltb-false, eqb-true, eqb-false, lt-ltb, le-ltb, eq-eqb, ne_eqb}
use lib.Dec.{ltb, eqb}
use Rattle.scientific.specs.Sci.{up, rounded}
use Rattle.scientific.specs.Shape.{apart}

-- which way rounding goes, where d is what is added to q: the parity of q breaks the tie
data Way (h r q d : ℕ) : Type 0 where
  grows : d ≡ 1 → 2 * h < 2 * r + q % 2 → Way h r q d
  stays : d ≡ 0 → 2 * r + q % 2 ≤ 2 * h → Way h r q d

way : (h r q : ℕ) → Way h r q (up h r q)
unfolding up
way h r q = go (ltb h r) refl
  where
    odd : (m : ℕ) → q % 2 ≡ m → ltb h r ≡ false → eqb r h ≡ true → Way h r q (up h r q)
    odd zero e f g = let k : r ≡ h = eqb-true r h g in stays (rw (f, g, up) e) (omega arith)
    odd (suc zero) e f g = let k : r ≡ h = eqb-true r h g in grows (rw (f, g, up) e) (omega arith)
    odd (suc (suc m)) e f g = absurd (omega arith)

    same : (t : Bool) → eqb r h ≡ t → ltb h r ≡ false → Way h r q (up h r q)
    same true g f = odd (q % 2) refl f g
    same false g f =
        let k : r ≤ h = ltb-false h r f in
        let ne : (r ≡ h → ⊥) = eqb-false r h g in
        stays (rw (f, g, up)) (omega arith)

    go : (t : Bool) → ltb h r ≡ t → Way h r q (up h r q)
    go true e = let k : h < r = ltb-true h r e in grows (rw (e, up)) (omega arith)
    go false e = same (eqb r h) refl e

keeps-order : (h r r' q d d' : ℕ) → r ≤ r' → Way h r q d → Way h r' q d' → d ≤ d'
keeps-order h r r' q d d' l (grows e a) (grows f b) = omega arith
keeps-order h r r' q d d' l (grows e a) (stays f b) = omega arith
keeps-order h r r' q d d' l (stays e a) (grows f b) = omega arith
keeps-order h r r' q d d' l (stays e a) (stays f b) = omega arith

-- q times u against n: twice the distance is at most u, and a tie goes to an even q; it is no farther than the multiple below n, nor than the next
pub record Near (u n q : ℕ) : Type 0 where
  pub half : 2 * apart false (q * u) n ≤ u
  pub tie : 2 * apart false (q * u) n ≡ u → q % 2 ≡ 0
  pub below : apart false (q * u) n ≤ n % u
  pub above : apart false (q * u) n ≤ u - n % u
  pub least : n / u ≤ q
  pub most : q ≤ suc (n / u)

-- u is even and positive
module _ (u : ℕ) (pos : 0 < u) (even : 2 * (u / 2) ≡ u) where
  goes : (n d : ℕ) → Way (u / 2) (n % u) (n / u) d → Near u n (n / u + d)
  goes n d (grows e l) =
      let a = div-add-mod' n u in
      let b = mod-lt n pos in
      rw e (record { half = omega arith; tie = λ t. omega arith; below = omega arith; above = omega arith; least = omega arith; most = omega arith })
  goes n d (stays e l) =
      let a = div-add-mod' n u in
      let b = mod-lt n pos in
      rw e (record { half = omega arith; tie = λ t. omega arith; below = omega arith; above = omega arith; least = omega arith; most = omega arith })

  pub near : (n : ℕ) → Near u n (rounded u n)
  unfolding rounded
  near n = goes n (up (u / 2) (n % u) (n / u)) (way (u / 2) (n % u) (n / u))

  -- no multiple of u is nearer
  pub nearest : (n j : ℕ) → apart false (rounded u n * u) n ≤ apart false (j * u) n
  nearest n j = go (dec_le j (n / u))
    where
      go : Dec (j ≤ n / u) → apart false (rounded u n * u) n ≤ apart false (j * u) n
      go (yes h) = le_trans (near n).below (omega (arith, div-add-mod' n u, mul-le-mul_right u h))
      go (no h) =
          let k : suc (n / u) ≤ j = omega arith in
          le_trans (near n).above (omega (arith, div-add-mod' n u, mul-le-mul_right u k))

  same_block : (n m : ℕ) → n ≤ m → n / u ≡ m / u → rounded u n ≤ rounded u m
  unfolding rounded
  same_block n m h e =
      let k : n % u ≤ m % u = omega (arith, div-add-mod' n u, div-add-mod' m u, ap (λ (x : ℕ). x * u) e) in
      let o = keeps-order (u / 2) (n % u) (m % u) (m / u) _ _ k (way (u / 2) (n % u) (m / u)) (way (u / 2) (m % u) (m / u)) in
      rw e (omega arith)

  -- a larger number is not rounded to a smaller multiple
  pub in_order : (n m : ℕ) → n ≤ m → rounded u n ≤ rounded u m
  in_order n m h =
      let l : n / u ≤ m / u = (le-div_iff_mul-le pos).1 (le_trans (div-mul-le_self n u) h) in
      go (dec_le (m / u) (n / u)) l
    where
      go : Dec (m / u ≤ n / u) → n / u ≤ m / u → rounded u n ≤ rounded u m
      go (yes k) l = same_block n m h (omega arith)
      go (no k) l = omega (arith, (near n).most, (near m).least)

-- ---- what is added to the quotient, by where the rest lies

pub up_above : (h r q : ℕ) → h < r → up h r q ≡ 1
unfolding up
up_above h r q l = rw (lt-ltb h r l, up)

pub up-tie : (h r q : ℕ) → r ≡ h → up h r q ≡ q % 2
unfolding up
up-tie h r q e = rw (le-ltb h r (omega arith), eq-eqb r h e, up)

pub up-under : (h r q : ℕ) → r < h → up h r q ≡ 0
unfolding up
up-under h r q l = rw (le-ltb h r (omega arith), ne_eqb r h (omega arith), up)
