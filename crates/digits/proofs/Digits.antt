-- Laws of the digits of a natural, for any base above 1: step and append, length, value, uniqueness.
-- Assumes nothing.
use mathlib.Core.Path.{◌≡◌, refl, sym, ap, ◌∙◌}
use mathlib.Core.List.{List, [], ◌∷◌, ◌++◌, append_assoc, append-nil}
use mathlib.Core.Logic.{⊎_elim}
use Prim.Native.Nat.{ℕ, zero, suc, ◌+◌, ◌*◌, ◌/◌, ◌%◌, ◌≤◌, ◌<◌, ◌^◌, zero-le, suc-le-suc}
use native.Mathlib.Nat.{le_of_suc-le-suc, not-suc-le-zero, div-lt_self, zero-lt-suc, le_trans, le_refl, div-add-mod', lt_of_lt_of_le, mod-lt, pow-suc, pow-zero, div-lt_iff_lt-mul, le-div_iff_mul-le, eq-zero-or-pos, div-eq_of_lt, mod-eq_of_lt, mul-pos, le-add_right, one-le-pow, zero-mul, zero-add}
use native.Mathlib.Numerals.{add-one}
use native.Mathlib.Omega.{arith}
use lib.ListN.{length, get_or, length-append, get_or-append}
use lib.Arith.{digits_div, digits_mod, lt-one}
use Rattle.digits.specs.Digits.{up_to, bare, digits, value_from, value, Below, Canonical}

module _ (b : ℕ) (big : 1 < b) where
  pos : 0 < b
  pos = omega arith

  fall : (n f : ℕ) → suc n ≤ suc f → suc n / b ≤ f
  fall n f h = le_of_suc-le-suc (lt_of_lt_of_le (div-lt_self (zero-lt-suc n) big) h)

  -- any bound from n up gives the same digits
  enough : (f g n : ℕ) → n ≤ f → n ≤ g → up_to f b n ≡ up_to g b n
  unfolding up_to
  enough zero zero n hf hg = refl
  enough zero (suc g) zero hf hg = refl
  enough zero (suc g) (suc n) hf hg = absurd (not-suc-le-zero hf)
  enough (suc f) zero zero hf hg = refl
  enough (suc f) zero (suc n) hf hg = absurd (not-suc-le-zero hg)
  enough (suc f) (suc g) zero hf hg = refl
  enough (suc f) (suc g) (suc n) hf hg =
      ap (λ (l : List ℕ). l ++ (suc n % b ∷ [])) (enough f g (suc n / b) (fall n f hf) (fall n g hg))

  -- ---- the laws that users cite

  pub bare-zero : bare b 0 ≡ []
  unfolding bare up_to
  bare-zero = refl

  -- the last digit stands behind those of the quotient
  pub bare_step : (n : ℕ) → 0 < n → bare b n ≡ bare b (n / b) ++ (n % b ∷ [])
  unfolding bare up_to
  bare_step zero h = absurd (not-suc-le-zero h)
  bare_step (suc n) h = ap (λ (l : List ℕ). l ++ (suc n % b ∷ [])) (enough n (suc n / b) (suc n / b) (fall n n (le_refl (suc n))) (le_refl (suc n / b)))

  pub digits-pos : (n : ℕ) → 0 < n → digits b n ≡ bare b n
  unfolding digits
  digits-pos zero h = absurd (not-suc-le-zero h)
  digits-pos (suc n) h = refl

  pub digits_step : (n : ℕ) → b ≤ n → digits b n ≡ digits b (n / b) ++ (n % b ∷ [])
  digits_step n h =
      let q : 0 < n / b = (le-div_iff_mul-le {k = b} {x = 1} {y = n} pos).1 (omega arith) in
      digits-pos n (omega arith) ∙ bare_step n (omega arith) ∙ ap (λ (l : List ℕ). l ++ (n % b ∷ [])) (sym (digits-pos (n / b) q))

  pub digits-small : (n : ℕ) → n < b → digits b n ≡ n ∷ []
  unfolding digits
  digits-small zero h = refl
  digits-small (suc n) h =
      bare_step (suc n) (zero-lt-suc n)
      ∙ ap (λ (q : ℕ). bare b q ++ (suc n % b ∷ [])) (div-eq_of_lt h)
      ∙ ap (λ (l : List ℕ). l ++ (suc n % b ∷ [])) bare-zero
      ∙ ap (λ (r : ℕ). r ∷ []) (mod-eq_of_lt h)

  pub bare-snoc : (n d : ℕ) → d < b → 0 < n * b + d → bare b (n * b + d) ≡ bare b n ++ (d ∷ [])
  bare-snoc n d h p = bare_step (n * b + d) p ∙ rw (digits_div n h, digits_mod n h)

  -- what holds of 0, and of each n above 0 where it holds of n / b, holds of every number
  pub by-quotient {ℓ} : (P : ℕ → Type ℓ) → P 0 → ((n : ℕ) → 0 < n → P (n / b) → P n) → (n : ℕ) → P n
  by-quotient P z s n = go n n (le_refl n)
    where
      go : (f n : ℕ) → n ≤ f → P n
      go zero zero h = z
      go zero (suc n) h = absurd (not-suc-le-zero h)
      go (suc f) zero h = z
      go (suc f) (suc n) h = s (suc n) (zero-lt-suc n) (go f (suc n / b) (fall n f h))

  -- ---- how many there are

  pub bare-length : (n : ℕ) → 0 < n → length (bare b n) ≡ suc (length (bare b (n / b)))
  bare-length n h = ap length (bare_step n h) ∙ length-append (bare b (n / b)) (n % b ∷ []) ∙ add-one (length (bare b (n / b)))

  pub bare-length-le : (k n : ℕ) → n < b ^ k → length (bare b n) ≤ k
  bare-length-le zero n h = rw (lt-one (rw pow-zero at h), bare-zero) zero-le
  bare-length-le (suc k) n h =
      ⊎_elim (λ (e : n ≡ 0). rw (e, bare-zero) zero-le)
      (λ (p : 0 < n). rw (bare-length n p) (suc-le-suc (bare-length-le k (n / b) ((div-lt_iff_lt-mul pos).1 (rw pow-suc at h)))))
      (eq-zero-or-pos n)

  pub bare-length-gt : (k n : ℕ) → b ^ k ≤ n → k < length (bare b n)
  bare-length-gt zero n h = rw (bare-length n (rw pow-zero at h)) (zero-lt-suc (length (bare b (n / b))))
  bare-length-gt (suc k) n h =
      let h' : b ^ k * b ≤ n = rw pow-suc at h in
      let p : 0 < n = le_trans (mul-pos (one-le-pow k b pos) pos) h' in
      rw (bare-length n p) (suc-le-suc (bare-length-gt k (n / b) ((le-div_iff_mul-le pos).1 h')))

  pub digits-length : (k n : ℕ) → b ^ k ≤ n → n < b ^ suc k → length (digits b n) ≡ suc k
  digits-length k n l h =
      let p : 0 < n = le_trans (one-le-pow k b pos) l in
      rw (digits-pos n p) (omega (arith, bare-length-gt k n l, bare-length-le (suc k) n h))

  -- the text fits k places exactly where n is below b ^ k
  pub digits-length-le : (k n : ℕ) → 0 < k → n < b ^ k → length (digits b n) ≤ k
  unfolding digits
  digits-length-le k zero p h = p
  digits-length-le k (suc n) p h = bare-length-le k (suc n) h

  pub digits-length-gt : (k n : ℕ) → b ^ k ≤ n → k < length (digits b n)
  digits-length-gt k n h = rw (digits-pos n (le_trans (one-le-pow k b pos) h)) (bare-length-gt k n h)

  -- ---- what they stand for

  pub value_from-append : (acc : ℕ) (xs ys : List ℕ) → value_from b acc (xs ++ ys) ≡ value_from b (value_from b acc xs) ys
  unfolding value_from
  value_from-append acc [] ys = refl
  value_from-append acc (x ∷ xs) ys = value_from-append (acc * b + x) xs ys

  pub value-snoc : (xs : List ℕ) (d : ℕ) → value b (xs ++ (d ∷ [])) ≡ value b xs * b + d
  unfolding value value_from
  value-snoc xs d = value_from-append 0 xs (d ∷ [])

  pub bare-value : (n : ℕ) → value b (bare b n) ≡ n
  unfolding value value_from
  bare-value = by-quotient (λ n. value b (bare b n) ≡ n) zero-case step
    where
      zero-case : value b (bare b 0) ≡ 0
      zero-case = rw bare-zero

      step : (n : ℕ) → 0 < n → value b (bare b (n / b)) ≡ n / b → value b (bare b n) ≡ n
      step n h e = rw (bare_step n h, value-snoc, e) (div-add-mod' n b)

  pub digits_value : (n : ℕ) → value b (digits b n) ≡ n
  unfolding digits value value_from
  digits_value zero = omega arith
  digits_value (suc n) = bare-value (suc n)

  -- ---- each is a digit, and the first is no zero

  pub Below-snoc : (xs : List ℕ) (d : ℕ) → Below b xs → d < b → Below b (xs ++ (d ∷ []))
  unfolding Below
  Below-snoc [] d h l = (l, tt)
  Below-snoc (x ∷ xs) d h l = (h.0, Below-snoc xs d h.1 l)

  pub bare-below : (n : ℕ) → Below b (bare b n)
  unfolding Below
  bare-below = by-quotient (λ n. Below b (bare b n)) zero-case (λ n h w. rw (bare_step n h) (Below-snoc (bare b (n / b)) (n % b) w (mod-lt n pos)))
    where
      zero-case : Below b (bare b 0)
      zero-case = rw bare-zero tt

  pub digits-below : (n : ℕ) → Below b (digits b n)
  unfolding digits Below
  digits-below zero = (pos, tt)
  digits-below (suc n) = bare-below (suc n)

  pub bare-lead : (n : ℕ) → 0 < n → 0 < get_or (bare b n) 0 0
  bare-lead = by-quotient (λ n. 0 < n → 0 < get_or (bare b n) 0 0) (λ h. absurd (not-suc-le-zero h)) step
    where
      step : (n : ℕ) → 0 < n → (0 < n / b → 0 < get_or (bare b (n / b)) 0 0) → 0 < n → 0 < get_or (bare b n) 0 0
      step n h w _ =
          rw (bare_step n h)
          (⊎_elim
          (λ (e : n / b ≡ 0). rw (e, bare-zero) (omega (arith, div-add-mod' n b, ap (λ (q : ℕ). q * b) e)))
          (λ (p : 0 < n / b). rw (get_or-append (bare b (n / b)) (n % b ∷ []) 0 0 (bare-length-gt 0 (n / b) (rw pow-zero p))) (w p))
          (eq-zero-or-pos (n / b)))

  pub digits-some : (n : ℕ) → 0 < length (digits b n)
  unfolding digits
  digits-some zero = zero-lt-suc 0
  digits-some (suc n) = bare-length-gt 0 (suc n) (rw pow-zero (zero-lt-suc n))

  pub canonical : (n : ℕ) → Canonical b n (digits b n)
  unfolding digits
  canonical zero = record {
    stands = digits_value zero;
    each = digits-below zero;
    some = digits-some zero;
    lead = λ h. absurd (not-suc-le-zero (le_of_suc-le-suc h));
  }
  canonical (suc n) = record {
    stands = digits_value (suc n);
    each = digits-below (suc n);
    some = digits-some (suc n);
    lead = λ h. bare-lead (suc n) (zero-lt-suc n);
  }

  -- ---- a list with what `Canonical` asks is the digits: reading digits in gives them back

  pub from-value : (acc : ℕ) (ds : List ℕ) → 0 < acc → Below b ds → bare b (value_from b acc ds) ≡ bare b acc ++ ds
  unfolding value_from Below
  from-value acc [] p h = sym (append-nil (bare b acc))
  from-value acc (d ∷ ds) p h =
      let q : 0 < acc * b + d = le_trans (mul-pos p pos) (le-add_right (acc * b) d) in
      from-value (acc * b + d) ds q h.1
      ∙ ap (λ (l : List ℕ). l ++ ds) (bare-snoc acc d h.0 q)
      ∙ append_assoc (bare b acc) (d ∷ []) ds

  value_from-pos : (acc : ℕ) (ds : List ℕ) → 0 < acc → 0 < value_from b acc ds
  unfolding value_from
  value_from-pos acc [] p = p
  value_from-pos acc (d ∷ ds) p = value_from-pos (acc * b + d) ds (le_trans (mul-pos p pos) (le-add_right (acc * b) d))

  unique-cons : (d : ℕ) (ds : List ℕ) → Below b (d ∷ ds) → (0 < length ds → 0 < d) → digits b (value b (d ∷ ds)) ≡ d ∷ ds
  unfolding value value_from Below
  unique-cons d [] h l = rw (zero-mul, zero-add) (digits-small d h.0)
  unique-cons d (e ∷ ds) h l =
      let p : 0 < d = l (zero-lt-suc (length ds)) in
      let z : 0 * b + d ≡ d = rw (zero-mul, zero-add) in
      ap (λ (k : ℕ). digits b (value_from b k (e ∷ ds))) z
      ∙ digits-pos (value_from b d (e ∷ ds)) (value_from-pos d (e ∷ ds) p)
      ∙ from-value d (e ∷ ds) p h.1
      ∙ ap (λ (l : List ℕ). l ++ (e ∷ ds)) (sym (digits-pos d p) ∙ digits-small d h.0)

  pub unique : (n : ℕ) (ds : List ℕ) → Canonical b n ds → ds ≡ digits b n
  unique n [] c = absurd (not-suc-le-zero c.some)
  unique n (d ∷ ds) c = sym (unique-cons d ds c.each (λ h. c.lead (suc-le-suc h))) ∙ ap (digits b) c.stands

-- digits behind digits
pub Below-append : (b : ℕ) (xs ys : List ℕ) → Below b xs → Below b ys → Below b (xs ++ ys)
unfolding Below
Below-append b [] ys p q = q
Below-append b (x ∷ xs) ys p q = (p.0, Below-append b xs ys p.1 q)
