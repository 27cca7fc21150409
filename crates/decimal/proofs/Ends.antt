-- Laws of a text at the end of a buffer: by room, the part, and that a promise has one answer.
-- Assumes nothing.
use mathlib.Core.Bool.{Bool, true, false}
use mathlib.Core.Path.{◌≡◌, refl, sym, ap, ◌∙◌, subst}
use mathlib.Core.List.{List, [], ◌∷◌, ◌++◌, append-nil}
use Prim.Native.Nat.{ℕ, suc, ◌-◌, ◌≤◌, ◌<◌}
use native.Mathlib.Nat.{le_refl, sub-le}
use native.Mathlib.Omega.{arith}
use borrow.Author.Tests.{leb-true, leb-false, le-leb, lt-leb}
use borrow.Rule.Slice.PartMut.{mid_of, put_mid}
use lib.Dec.{leb}
use lib.ListN.{length, take, drop, set}
use lib.Seq.{take_all, drop_at, drop-length, length-take-le}
use Rattle.buffer.specs.AtEnd.{ended}
use Rattle.buffer.proofs.AtEnd.{length-ended, ended-front}
use Rattle.decimal.specs.Ends.{end_start, end_buffer, end_part, EndPromise}

-- with room, and without
pub has_room : (t l : List ℕ) (r : ℕ) (l' : List ℕ) → leb (length t) (length l) ≡ true → r ≡ length l - length t → l' ≡ ended l (length l) t → EndPromise t l r l'
has_room t l r l' h e f = record { answers = rw h e; leaves = rw h f }

pub no_room : (t l : List ℕ) → leb (length t) (length l) ≡ false → EndPromise t l (length l) l
no_room t l h = record { answers = rw h; leaves = rw h }

pub one_answer : {t l : List ℕ} {r s : ℕ} {m n : List ℕ} → EndPromise t l r m → EndPromise t l s n → (r ≡ s) × (m ≡ n)
one_answer p q = (p.answers ∙ sym q.answers, p.leaves ∙ sym q.leaves)

start-le : (n : ℕ) (t : List ℕ) → end_start n t ≤ n
start-le n t = go (leb (length t) n) refl
  where
    go : (b : Bool) → leb (length t) n ≡ b → end_start n t ≤ n
    go true e = rw e (sub-le n (length t))
    go false e = rw e (le_refl n)

length-after : (l t : List ℕ) → length (end_buffer l t) ≡ length l
length-after l t = go (leb (length t) (length l)) refl
  where
    go : (b : Bool) → leb (length t) (length l) ≡ b → length (end_buffer l t) ≡ length l
    go true e = rw e (length-ended l (length l) t (leb-true (length t) (length l) e) (le_refl (length l)))
    go false e = rw e

-- the start lies within the buffer that is left
pub start-within : {t l : List ℕ} {r : ℕ} {l' : List ℕ} → EndPromise t l r l' → r ≤ length l'
start-within {t} {l} p = rw (p.answers, p.leaves, length-after l t) (start-le (length l) t)

-- from the start on, the buffer is the text, or nothing
pub from_start : {t l : List ℕ} {r : ℕ} {l' : List ℕ} → EndPromise t l r l' → drop r l' ≡ end_part (length l) t
unfolding ended
from_start {t} {l} p = rw (p.answers, p.leaves) (go (leb (length t) (length l)) refl)
  where
    go : (b : Bool) → leb (length t) (length l) ≡ b → drop (end_start (length l) t) (end_buffer l t) ≡ end_part (length l) t
    go true e =
        rw e
        (drop_at (take (length l - length t) l) (t ++ drop (length l) l) (length l - length t) (length-take-le (length l - length t) l (sub-le (length l) (length t)))
        ∙ ap (λ (r : List ℕ). t ++ r) (drop-length l) ∙ append-nil t)
    go false e = rw e (drop-length l)

-- ---- one byte in front of a text, a minus: the first byte of the buffer is kept for it, and the text goes to the end of what is behind that

ended-behind : (y : ℕ) (ys : List ℕ) (e : ℕ) (t : List ℕ) → length t ≤ e → y ∷ ended ys e t ≡ ended (y ∷ ys) (suc e) t
unfolding ended
ended-behind y ys e t h = let q : suc e - length t ≡ suc (e - length t) = omega arith in rw q

-- all but the first byte, lent and taken back
mid-is : (y : ℕ) (ys : List ℕ) → mid_of 1 (length (y ∷ ys) - 1) (y ∷ ys) ≡ ys
mid-is y ys = take_all (length (y ∷ ys) - 1) ys (omega arith)

put_is : (y : ℕ) (ys p : List ℕ) → put_mid 1 (length (y ∷ ys) - 1) (y ∷ ys) p ≡ y ∷ p
put_is y ys p =
    let k : length (y ∷ ys) - 1 ≡ length ys = omega arith in
    rw (k, drop-length ys) (ap (λ (q : List ℕ). y ∷ q) (append-nil p))

behind : (x y : ℕ) (t ys : List ℕ) (r : ℕ) (p : List ℕ) → 0 < length t → EndPromise t ys r p → (b : Bool) → leb (length t) (length ys) ≡ b
    → (r ≡ length ys → EndPromise (x ∷ t) (y ∷ ys) (length (y ∷ ys)) (y ∷ p)) × ((r ≡ length ys → ⊥) → EndPromise (x ∷ t) (y ∷ ys) r (set (y ∷ p) r x))
behind x y t ys r p some P true e =
    let h : length t ≤ length ys = leb-true (length t) (length ys) e in
    let a : r ≡ length ys - length t = rw e at P.answers in
    let q : p ≡ ended ys (length ys) t = rw e at P.leaves in
    let f : set (y ∷ p) r x ≡ ended (y ∷ ys) (suc (length ys)) (x ∷ t) =
    rw (q, ended-behind y ys (length ys) t h) (ended-front (y ∷ ys) r (suc (length ys)) x t (omega arith) (le_refl (suc (length ys)))) in
    (λ (z : r ≡ length ys). absurd (omega arith), λ z. has_room (x ∷ t) (y ∷ ys) r (set (y ∷ p) r x) (le-leb (length (x ∷ t)) (length (y ∷ ys)) (omega arith)) (omega arith) f)
behind x y t ys r p some P false e =
    let h : length ys < length t = leb-false (length t) (length ys) e in
    let a : r ≡ length ys = rw e at P.answers in
    let q : p ≡ ys = rw e at P.leaves in
    (λ (z : r ≡ length ys). rw q (no_room (x ∷ t) (y ∷ ys) (lt-leb (length (x ∷ t)) (length (y ∷ ys)) (omega arith))), λ z. absurd (z a))

module _ (x : ℕ) (t l : List ℕ) (r : ℕ) (p : List ℕ) (some : 0 < length t) (first : 0 < length l) (P : EndPromise t (mid_of 1 (length l - 1) l) r p) where
  pub front-no-room : r ≡ length l - 1 → EndPromise (x ∷ t) l (length l) (put_mid 1 (length l - 1) l p)
  front-no-room e = go l first P e
    where
      go : (l : List ℕ) → 0 < length l → EndPromise t (mid_of 1 (length l - 1) l) r p → r ≡ length l - 1 → EndPromise (x ∷ t) l (length l) (put_mid 1 (length l - 1) l p)
      go [] f Q e = absurd (omega arith)
      go (y ∷ ys) f Q e = rw (put_is y ys p) ((behind x y t ys r p some (rw (mid-is y ys) at Q) (leb (length t) (length ys)) refl).0 (omega arith))

  pub front-room : (r ≡ length l - 1 → ⊥) → EndPromise (x ∷ t) l r (set (put_mid 1 (length l - 1) l p) r x)
  front-room e = go l first P e
    where
      go : (l : List ℕ) → 0 < length l → EndPromise t (mid_of 1 (length l - 1) l) r p → (r ≡ length l - 1 → ⊥) → EndPromise (x ∷ t) l r (set (put_mid 1 (length l - 1) l p) r x)
      go [] f Q e = absurd (omega arith)
      go (y ∷ ys) f Q e =
          let k : length (y ∷ ys) - 1 ≡ length ys = omega arith in
          subst (λ (q : List ℕ). EndPromise (x ∷ t) (y ∷ ys) r (set q r x)) (sym (put_is y ys p))
          ((behind x y t ys r p some (rw (mid-is y ys) at Q) (leb (length t) (length ys)) refl).1 (λ (z : r ≡ length ys). e (omega arith)))

  pub front-within : r < length (put_mid 1 (length l - 1) l p)
  front-within = go l first
    where
      go : (l : List ℕ) → 0 < length l → r < length (put_mid 1 (length l - 1) l p)
      go [] f = absurd (omega arith)
      go (y ∷ ys) f = omega (arith, ap length (put_is y ys p), start-within P)

pub front-nothing : (x : ℕ) (t l : List ℕ) → length l ≡ 0 → EndPromise (x ∷ t) l (length l) l
front-nothing x t l h = no_room (x ∷ t) l (lt-leb (length (x ∷ t)) (length l) (omega arith))
