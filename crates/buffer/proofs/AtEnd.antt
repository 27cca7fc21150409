-- Laws of a text that stands just before an end: written in pieces, in front of another, and at the start.
-- Assumes nothing.
use mathlib.Core.Path.{◌≡◌, refl, sym, ap, ◌∙◌}
use mathlib.Core.List.{List, [], ◌∷◌, ◌++◌, append_assoc}
use Prim.Native.Nat.{ℕ, suc, ◌+◌, ◌-◌, ◌≤◌, zero-le}
use native.Mathlib.Nat.{sub-zero, sub_self}
use native.Mathlib.Omega.{arith}
use lib.ListN.{length, get_or, take, drop, set, length-append, length-take, length-drop, take-append-drop}
use borrow.Rule.Slice.PartMut.{put_mid}
use lib.Seq.{take-suc, set_at, sets, sets-eq, take-append-le, length-take-le, drop-append-add, drop-drop, take-take, drop_at, take_at}
use Rattle.buffer.specs.AtEnd.{ended, begun}

-- nothing is left to write
pub ended-done : (l : List ℕ) (e : ℕ) → ended l e [] ≡ l
unfolding ended
ended-done l e = rw sub-zero (take-append-drop e l)

-- the last bytes of a text, v, are stored before e, and what is left of it, t, is to end where v begins
pub ended-more : (l : List ℕ) (o e : ℕ) (t v : List ℕ) → o + length v ≡ e → length t ≤ o → e ≤ length l → ended (sets l o v) o t ≡ ended l e (t ++ v)
unfolding ended
ended-more l o e t v eo h k =
    let s : sets l o v ≡ take o l ++ (v ++ drop e l) = sets-eq v l o (omega arith) ∙ rw (eo, append_assoc) in
    let n : length (take o l) ≡ o = length-take-le o l (omega arith) in
    let d : drop o (take o l ++ (v ++ drop e l)) ≡ v ++ drop e l = drop_at (take o l) (v ++ drop e l) o n in
    let f : take (o - length t) (take o l ++ (v ++ drop e l)) ≡ take (o - length t) l =
    take-append-le (o - length t) (take o l) (v ++ drop e l) (omega arith) ∙ take-take (o - length t) o l (omega arith) in
    let q : e - length (t ++ v) ≡ o - length t = omega (arith, length-append t v) in
    rw (s, d, f, q, append_assoc)

-- the n bytes before an end, lent as a slice
pub lent_length : (l : List ℕ) (e n : ℕ) → n ≤ e → e ≤ length l → length (take (e - (e - n)) (drop (e - n) l)) ≡ n
lent_length l e n h k = length-take-le (e - (e - n)) (drop (e - n) l) (omega (arith, length-drop (e - n) l)) ∙ omega arith

-- they have become t
pub ended_lent : (l : List ℕ) (e n : ℕ) {t now : List ℕ} → now ≡ t → length t ≡ n → n ≤ e → e ≤ length l → put_mid (e - n) (e - (e - n)) l now ≡ ended l e t
unfolding ended
ended_lent l e n {t} f g h k =
    let q : e - n ≡ e - length t = omega arith in
    let d : drop (e - (e - n)) (drop (e - n) l) ≡ drop e l = drop-drop (e - (e - n)) (e - n) l ∙ ap (λ (i : ℕ). drop i l) (omega arith) in
    rw (f, d, q)

pub length-ended : (l : List ℕ) (e : ℕ) (t : List ℕ) → length t ≤ e → e ≤ length l → length (ended l e t) ≡ length l
unfolding ended
length-ended l e t h k = simp (length-append, length-drop, length-take) (omega arith)

-- one byte more in front of a text that stands at an end: a sign
pub ended-front : (l : List ℕ) (o e x : ℕ) (t : List ℕ) → o + length (x ∷ t) ≡ e → e ≤ length l → set (ended l e t) o x ≡ ended l e (x ∷ t)
unfolding ended
ended-front l o e x t i k =
    let q : e - length t ≡ suc o = omega arith in
    let q' : e - length (x ∷ t) ≡ o = omega arith in
    let s : take (suc o) l ≡ take o l ++ (get_or l o 0 ∷ []) = take-suc l o 0 (omega arith) in
    rw (q, q', s, append_assoc) (set_at (take o l) (get_or l o 0) (t ++ drop e l) x o (length-take-le o l (omega arith)))

-- a text that ends where its own length is stands at the start
pub ended-whole : (l t : List ℕ) → ended l (length t) t ≡ begun l t
unfolding ended begun
ended-whole l t = rw (sub_self (length t))

-- ---- one text in front of another: a sign or a prefix in front of digits, or fill in front of both

pub ended-sets : (l : List ℕ) (o e : ℕ) (v : List ℕ) → o + length v ≡ e → e ≤ length l → sets l o v ≡ ended l e v
ended-sets l o e v i k = sym (ended-done (sets l o v) o) ∙ ended-more l o e [] v i zero-le k

pub ended-ended : (l : List ℕ) (e : ℕ) (s t : List ℕ) → length s + length t ≤ e → e ≤ length l → ended (ended l e t) (e - length t) s ≡ ended l e (s ++ t)
ended-ended l e s t h k = rw (← ended-sets l (e - length t) e t (omega arith) k) (ended-more l (e - length t) e s t (omega arith) (omega arith) k)

-- the same of two stores one after the other: m is l with t before e, and m' is m with s before where t starts
pub ended-on : (l : List ℕ) (e : ℕ) (t s : List ℕ) {m m' : List ℕ} {o : ℕ} → m ≡ ended l e t → m' ≡ ended m o s → o ≡ e - length t → length s + length t ≤ e → e ≤ length l → m' ≡ ended l e (s ++ t)
ended-on l e t s f g i h k = g ∙ rw (i, f) (ended-ended l e s t h k)

-- a text behind another that stands at the start
pub begun-behind : (l s t : List ℕ) → ended (begun l s) (length s + length t) t ≡ begun l (s ++ t)
unfolding ended begun
begun-behind l s t =
    let q : length s + length t - length t ≡ length s = omega arith in
    let f : take (length s) (s ++ drop (length s) l) ≡ s = take_at s (drop (length s) l) (length s) refl in
    let d : drop (length s + length t) (s ++ drop (length s) l) ≡ drop (length s + length t) l = drop-append-add s (drop (length s) l) (length t) ∙ drop-drop (length t) (length s) l in
    rw (q, f, d, length-append s t) (sym (append_assoc s t (drop (length s + length t) l)))
