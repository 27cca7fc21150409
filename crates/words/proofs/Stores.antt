-- Laws of runs of stores: one after another, and one over another, where the later wins.
-- Assumes nothing.
use mathlib.Core.Path.{◌≡◌, refl, sym, ap, ◌∙◌}
use mathlib.Core.List.{List, [], ◌∷◌, ◌++◌, append_assoc}
use Prim.Native.Nat.{ℕ, suc, ◌+◌, ◌-◌, ◌*◌, ◌/◌, ◌^◌, ◌≤◌, ◌<◌}
use native.Mathlib.Nat.{add-zero, add-suc, suc-add, le_of_suc-le-suc, not-suc-le-zero, le_refl}
use native.Mathlib.Omega.{arith}
use borrow.Rule.Slice.PartMut.{put_mid}
use lib.ListN.{length, set, take, drop, length-drop}
use lib.Seq.{sets, sets-eq, set-set, set_comm, drop-drop, drop-append-le}
use Rattle.words.specs.Bytes.{bytes_of}
use Rattle.words.proofs.Bytes.{length-bytes_of, bytes-split, bytes-shift}

pub sets-append : (l : List ℕ) (i : ℕ) (xs ys : List ℕ) → sets l i (xs ++ ys) ≡ sets (sets l i xs) (i + length xs) ys
sets-append l i [] ys = rw add-zero
sets-append l i (x ∷ xs) ys = sets-append (set l i x) (suc i) xs ys ∙ rw (suc-add, add-suc)

-- the k bytes lent from an index on have become those of a word
pub stored : (l : List ℕ) (at k x : ℕ) {now : List ℕ} → now ≡ bytes_of k x → at + k ≤ length l → put_mid at (at + k - at) l now ≡ sets l at (bytes_of k x)
stored l at k x f h =
    let n : length (bytes_of k x) ≡ k = length-bytes_of k x in
    let d : drop (at + k - at) (drop at l) ≡ drop (at + length (bytes_of k x)) l = drop-drop (at + k - at) at l ∙ ap (λ (i : ℕ). drop i l) (omega arith) in
    rw (f, d) (sym (sets-eq (bytes_of k x) l at (omega arith) ∙ append_assoc (take at l) (bytes_of k x) (drop (at + length (bytes_of k x)) l)))

-- a store in front of a run does not meet it
set_past : (l : List ℕ) (i j x : ℕ) (ys : List ℕ) → i < j → set (sets l j ys) i x ≡ sets (set l i x) j ys
set_past l i j x [] h = refl
set_past l i j x (y ∷ ys) h = set_past (set l j y) i (suc j) x ys (omega arith) ∙ ap (λ (m : List ℕ). sets m (suc j) ys) (set_comm l j i y x (λ e. omega arith))

-- a run over one that is no longer
sets_over : (l : List ℕ) (i : ℕ) (xs ys : List ℕ) → length xs ≤ length ys → sets (sets l i xs) i ys ≡ sets l i ys
sets_over l i [] ys h = refl
sets_over l i (x ∷ xs) [] h = absurd (not-suc-le-zero h)
sets_over l i (x ∷ xs) (y ∷ ys) h =
    ap (λ (m : List ℕ). sets m (suc i) ys) (set_past (set l i x) i (suc i) y xs (le_refl (suc i)) ∙ ap (λ (m : List ℕ). sets m (suc i) xs) (set-set l i x y))
    ∙ sets_over (set l i y) (suc i) xs ys (le_of_suc-le-suc h)

-- the run v over the end g of an earlier one
pub sets-wins : (l : List ℕ) (i : ℕ) (u g v : List ℕ) → length g ≤ length v → sets (sets l i (u ++ g)) (i + length u) v ≡ sets l i (u ++ v)
sets-wins l i u g v h =
    ap (λ (m : List ℕ). sets m (i + length u) v) (sets-append l i u g)
    ∙ sets_over (sets l i u) (i + length u) g v h
    ∙ sym (sets-append l i u v)

-- ---- the bytes of a word without the first z: a store of the shifted word, and one of what stands behind over its end

pub tailed : (l : List ℕ) (at e j z x : ℕ) (v : List ℕ) → z ≤ j → z ≤ length v → at + j ≡ e + z → sets (sets l at (bytes_of j (x / 2 ^ (z * 8)))) e v ≡ sets l at (drop z (bytes_of j x) ++ v)
tailed l at e j z x v h k i =
    let d : length (drop z (bytes_of j x)) ≡ j - z = length-drop z (bytes_of j x) ∙ ap (λ (n : ℕ). n - z) (length-bytes_of j x) in
    let p : e ≡ at + length (drop z (bytes_of j x)) = omega arith in
    rw (bytes-shift j z x h, p) (sets-wins l at (drop z (bytes_of j x)) (bytes_of z (x / 2 ^ (j * 8))) v (rw length-bytes_of k))

-- what stands behind is the word's own
pub tailed-whole : (l : List ℕ) (at e j k z x : ℕ) → z ≤ j → z ≤ k → at + j ≡ e + z →
    sets (sets l at (bytes_of j (x / 2 ^ (z * 8)))) e (bytes_of k (x / 2 ^ (j * 8))) ≡ sets l at (drop z (bytes_of (j + k) x))
tailed-whole l at e j k z x h m i =
    tailed l at e j z x (bytes_of k (x / 2 ^ (j * 8))) h (rw length-bytes_of m) i
    ∙ ap (sets l at) (sym (ap (drop z) (bytes-split j k x) ∙ drop-append-le z (bytes_of j x) (bytes_of k (x / 2 ^ (j * 8))) (rw length-bytes_of h)))
