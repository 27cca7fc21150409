-- A text that is laid out in a buffer, and the plain digits that it is laid around.
-- Assumes nothing.
use mathlib.Core.Bool.{Bool, true, false, cond}
use Rattle.std.specs.Prelude.{Ok, Err}
use mathlib.Core.List.{List, ◌++◌, append_assoc}
use mathlib.Core.Path.{◌≡◌, refl, sym, ap, ◌∙◌}
use Prim.Native.Nat.{ℕ, ◌+◌, ◌-◌, ◌^◌, ◌≤◌, ◌<◌}
use native.Mathlib.Omega.{arith}
use native.Mathlib.Nat.{lt_of_lt_of_le}
use lib.Dec.{eqb, leb, lit<, lit≤}
use borrow.Author.Tests.{ne_eqb, le-leb}
use lib.ListN.{length, take, drop, replicate, length-append, length-replicate}
use lib.Seq.{length-take-le, take_at, drop-append-add, drop-drop}
use Rattle.buffer.specs.AtEnd.{ended, begun}
use Rattle.buffer.proofs.AtEnd.{length-ended, ended-on, ended-whole}
use Rattle.digits.specs.Text.{ascii, decimal}
use Rattle.digits.proofs.Text.{text-most}
use Rattle.padding.specs.Padding.{sign_of, prefix_of}
use Rattle.padding.proofs.Padding.{padded-is, padded-length}
use Rattle.radix.specs.Radix.{radix}
use Rattle.radix.proofs.Lengths.{radix-most}
use Rattle.writing.specs.Promise.{Written, value, after, fitted, Writes, Places}
use Rattle.writing.specs.Text.{framed, numeral}
use Rattle.writing.specs.declared.Options.{Options}
use Rattle.writing.proofs.Cases.{lacks-room, settles-room, settles-done}
use Rattle.framing.specs.Laid.{Laid, Surrounds}
use Rattle.framing.specs.declared.Layout.{Layout}
use Rattle.writing.specs.declared.Refusal.{Refusal}
use Rattle.writing.specs.declared.Refusal.TheVariants as refusal

pub numeral-decimal : (format n : ℕ) → format ≡ 0 → numeral format n ≡ decimal n
numeral-decimal format n e = ap (λ (f : ℕ). numeral f n) e

pub numeral-radix : (format n : ℕ) → (format ≡ 0 → ⊥) → numeral format n ≡ radix format n
numeral-radix format n h = rw (ne_eqb format 0 h)

-- no plain form of a 64-bit number is longer than its binary
pub numeral-few : (format n : ℕ) → n < 2 ^ 64 → length (numeral format n) ≤ 64
numeral-few format n h = go (eqb format 0) refl
  where
    go : (t : Bool) → eqb format 0 ≡ t → length (numeral format n) ≤ 64
    go true e = rw e (text-most ascii 10 (lit< tt) 64 n (lit< tt) (lt_of_lt_of_le h (lit≤ tt)))
    go false e = rw e (radix-most format 64 n (lit< tt) h)

-- ---- a text that is laid out

-- a text in front of the place of another, and then that other
behind : (l : List ℕ) (e : ℕ) (s t : List ℕ) → length s + length t ≤ e → e ≤ length l → ended (ended l (e - length t) s) e t ≡ ended l e (s ++ t)
unfolding ended
behind l e s t h k =
    let o : ℕ = e - length t in
    let a = take (o - length s) l in
    let n : length (a ++ s) ≡ o = length-append a s ∙ ap (λ (x : ℕ). x + length s) (length-take-le (o - length s) l (omega arith)) ∙ omega arith in
    let m : a ++ (s ++ drop o l) ≡ (a ++ s) ++ drop o l = sym (append_assoc a s (drop o l)) in
    let f : take o (a ++ (s ++ drop o l)) ≡ a ++ s = rw m (take_at (a ++ s) (drop o l) o n) in
    let i : length (a ++ s) + length t ≡ e = omega arith in
    let j : o + length t ≡ e = omega arith in
    let d : drop e (a ++ (s ++ drop o l)) ≡ drop e l = rw m (ap (λ (k : ℕ). drop k ((a ++ s) ++ drop o l)) (sym i) ∙ drop-append-add (a ++ s) (drop o l) (length t) ∙ drop-drop (length t) o l ∙ ap (λ (k : ℕ). drop k l) j) in
    let q : e - length (s ++ t) ≡ o - length s = omega (arith, length-append s t) in
    rw (f, d, q) (simp append_assoc)

module _ (o : Options) (negative : Bool) (format : ℕ) (digits : List ℕ) (a : Layout) (L : Laid o negative format digits a) where
  abbrev front : List ℕ
  front = replicate a.pad.before o.fill ++ (sign_of negative o.plus ++ (prefix_of o.alternate format ++ replicate a.pad.zeros 48))

  -- the whole length, by its pieces
  pub need-is : a.need ≡ (a.pad.before + (length (sign_of negative o.plus) + (length (prefix_of o.alternate format) + a.pad.zeros))) + (length digits + a.pad.behind)
  need-is = L.whole ∙ padded-length o.zero o.fill o.align o.width (sign_of negative o.plus) (prefix_of o.alternate format) digits L.planned

  -- fill behind and what is in front, and between them the digits
  pub surrounds : (l l₁ l₂ : List ℕ) → a.need ≤ length l
      → l₁ ≡ ended l a.need (replicate a.pad.behind o.fill)
      → l₂ ≡ ended l₁ (a.end - length digits) front
      → Surrounds (framed o negative format digits) digits l a l₂
  surrounds l l₁ l₂ h e₁ e₂ =
      let back = replicate a.pad.behind o.fill in
      let nb = length-replicate a.pad.behind o.fill in
      let nz = length-replicate {A = ℕ} a.pad.zeros 48 in
      let nf = length-replicate a.pad.before o.fill in
      let np = length-append (prefix_of o.alternate format) (replicate {A = ℕ} a.pad.zeros 48) in
      let ns = length-append (sign_of negative o.plus) (prefix_of o.alternate format ++ replicate {A = ℕ} a.pad.zeros 48) in
      let na = length-append (replicate a.pad.before o.fill) (sign_of negative o.plus ++ (prefix_of o.alternate format ++ replicate {A = ℕ} a.pad.zeros 48)) in
      let nd = length-append front digits in
      let n = need-is in
      let w = L.ends in
      let t = framed o negative format digits in
      let k₁ : length l₁ ≡ length l = rw e₁ (length-ended l a.need back (omega arith) h) in
      let k₂ : length l₂ ≡ length l₁ = rw e₂ (length-ended l₁ (a.end - length digits) front (omega arith) (omega arith)) in
      let s₁ : ended l₂ a.end digits ≡ ended l₁ a.end (front ++ digits) = rw e₂ (behind l₁ a.end front digits (omega arith) (omega arith)) in
      let s₂ : ended l₂ a.end digits ≡ ended l a.need ((front ++ digits) ++ back) = ended-on l a.need back (front ++ digits) e₁ s₁ (omega arith) (omega arith) h in
      let v : (front ++ digits) ++ back ≡ t = append_assoc front digits back ∙ sym (padded-is o.zero o.fill o.align o.width (sign_of negative o.plus) (prefix_of o.alternate format) digits L.planned) in
      record {
        whole = L.whole;
        room = h;
        inside = omega arith;
        ends = omega arith;
        text = s₂ ∙ rw (v, L.whole) (ended-whole l t);
      }

-- ---- the answer of a text whose digits are written last

module _ {t l : List ℕ} where
  pub around-done : {digits : List ℕ} {a : Layout} {l' l'' : List ℕ} → Surrounds t digits l a l' → l'' ≡ ended l' a.end digits → Writes t (fitted t (length l)) l (Ok a.need) l''
  around-done {digits} {a} {l'} {l''} S e = settles-done (record { long = S.whole; leaves = rw (le-leb (length t) (length l) (rw S.whole at S.room)) (e ∙ S.text) }) S.room

  pub around-lacks : {r : Refusal} {l' : List ℕ} → (r ≡ refusal.NoRoom (length t)) × (length l < length t) × (l' ≡ l) → Writes t (fitted t (length l)) l (Err r) l'
  around-lacks {r} {l'} S = rw (S.0, S.2) (settles-room (lacks-room t l (length t) refl S.1) S.1)

  -- what an answer says of room, told as a length alone
  pub answer-places : {r : Written} {l' : List ℕ} → Writes t (fitted t (length l)) l r l' → Places t l (value r) l'
  answer-places {r} {l'} W = record { long = ap value W.answers ∙ long-is (leb (length t) (length l)) refl; leaves = W.leaves ∙ left-is (leb (length t) (length l)) refl }
    where
      long-is : (b : Bool) → leb (length t) (length l) ≡ b → value (fitted t (length l)) ≡ length t
      long-is true e = rw e refl
      long-is false e = rw e refl

      left-is : (b : Bool) → leb (length t) (length l) ≡ b → after (fitted t (length l)) t l ≡ cond (leb (length t) (length l)) (begun l t) l
      left-is true e = rw e refl
      left-is false e = rw e refl
