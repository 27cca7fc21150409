-- Laws of the answers: that of writing from that of the length, that of one part more, what DONE says, how a promise is kept, and that each has one answer.
-- Assumes nothing.
use mathlib.Core.Path.{◌≡◌, refl, sym, ap, ◌∙◌}
use mathlib.Core.Bool.{Bool, true, false, cond, ◌&&◌, and_assoc, and-true, and-false}
use mathlib.Core.List.{List, [], ◌∷◌, ◌++◌}
use Prim.Native.Nat.{ℕ, suc, ◌+◌, ◌^◌, ◌≤◌, ◌<◌}
use native.Mathlib.Nat.{add-zero, zero-add, add-suc, suc-add}
use native.Mathlib.Omega.{arith}
use borrow.Author.Tests.{le-leb, lt-leb, leb-true}
use lib.Dec.{leb}
use lib.ListN.{length}
use Rattle.std.specs.Prelude.{Ok, Err}
use Rattle.buffer.specs.AtEnd.{ended}
use Rattle.buffer.proofs.AtEnd.{ended-whole}
use Rattle.parts.specs.Parts.{known, known_part, all_known, leaves_source, Inside, part_length, parts_length, true_length, sign_text, held, text_of}
use Rattle.parts.proofs.Text.{sign-short, length-text}
use Rattle.parts.specs.declared.Part.{Part}
use Rattle.parts.specs.declared.Sign.{Sign}
use Rattle.part_answers.specs.Answers.{Answer, first_out, checked, measured, wrote, after, Writes, number_of, value_of}
use Rattle.part_answers.specs.declared.Refusal.{Refusal}
use Rattle.part_answers.specs.declared.Refusal.TheVariants as refusal

-- ---- the checks, whatever is answered where they pass

-- what DONE says: no part leaves its source, and it is what is answered where the checks pass
first-passed : (fine : Answer) (n i : ℕ) (ps : List Part) {k : ℕ} → first_out fine n i ps ≡ Ok k → Inside n ps × (fine ≡ Ok k)
unfolding first_out Inside
first-passed fine n i [] e = (tt, e)
first-passed fine n i (p ∷ ps) {k} e = go (leaves_source n p) refl e (first-passed fine n (suc i) ps)
  where
    go : (t : Bool) → leaves_source n p ≡ t → cond t (Err (refusal.Part i)) (first_out fine n (suc i) ps) ≡ Ok k
        → (first_out fine n (suc i) ps ≡ Ok k → Inside n ps × (fine ≡ Ok k)) → ((leaves_source n p ≡ false) × Inside n ps) × (fine ≡ Ok k)
    go true l h rest = absurd (cc)
    go false l h rest = let r = rest h in ((l, r.0), r.1)

passed : (fine : Answer) (n : ℕ) (sign : Sign) (ps : List Part) {k : ℕ} → checked fine n sign ps ≡ Ok k → Inside n ps × (fine ≡ Ok k)
unfolding checked
passed fine n sign ps {k} e = go (known sign && all_known ps) e
  where
    go : (t : Bool) → cond t (first_out fine n 0 ps) (Err refusal.Options) ≡ Ok k → Inside n ps × (fine ≡ Ok k)
    go true h = first-passed fine n 0 ps h
    go false h = absurd (cc)

-- with another answer where they pass: each refusal is the same
abbrev instead : Answer → Answer → Answer
instead fine (Ok n) = fine
instead fine (Err r) = Err r

cond_instead : (fine : Answer) (t : Bool) (a b : Answer) → instead fine (cond t a b) ≡ cond t (instead fine a) (instead fine b)
cond_instead fine true a b = refl
cond_instead fine false a b = refl

first-instead : (fine : Answer) (k n i : ℕ) (ps : List Part) → instead fine (first_out (Ok k) n i ps) ≡ first_out fine n i ps
unfolding first_out
first-instead fine k n i [] = refl
first-instead fine k n i (p ∷ ps) =
    cond_instead fine (leaves_source n p) (Err (refusal.Part i)) (first_out (Ok k) n (suc i) ps)
    ∙ ap (λ (a : Answer). cond (leaves_source n p) (Err (refusal.Part i)) a) (first-instead fine k n (suc i) ps)

by-measured : (fine : Answer) (n : ℕ) (sign : Sign) (ps : List Part) → checked fine n sign ps ≡ instead fine (measured n sign ps)
unfolding measured checked
by-measured fine n sign ps =
    let k = held (true_length sign ps) in
    sym (cond_instead fine (known sign && all_known ps) (first_out (Ok k) n 0 ps) (Err refusal.Options)
    ∙ ap (λ (a : Answer). cond (known sign && all_known ps) a (Err refusal.Options)) (first-instead fine k n 0 ps))

-- ---- what DONE says of the length: it is the held sum, and no part leaves its source

module _ (n : ℕ) (sign : Sign) (ps : List Part) {k : ℕ} (e : measured n sign ps ≡ Ok k) where
  pub done_held : k ≡ held (true_length sign ps)
  unfolding measured
  done_held = let h = (passed (Ok (held (true_length sign ps))) n sign ps e).1 in cc

  pub done-inside : Inside n ps
  unfolding measured
  done-inside = (passed (Ok (held (true_length sign ps))) n sign ps e).0

-- ---- no part, and one part more

pub sign-unknown : (n : ℕ) (sign : Sign) → known sign ≡ false → measured n sign [] ≡ Err refusal.Options
unfolding measured checked
sign-unknown n sign h = rw h

pub sign-known : (n : ℕ) (sign : Sign) {k : ℕ} → known sign ≡ true → k ≡ length (sign_text sign) → measured n sign [] ≡ Ok k
unfolding measured checked all_known first_out true_length parts_length
sign-known n sign h e = rw h (ap Ok (omega (arith, sign-short sign)))

all_known-snoc : (ps : List Part) (p : Part) → all_known (ps ++ (p ∷ [])) ≡ (all_known ps && known_part p)
unfolding all_known
all_known-snoc [] p = and-true (known_part p)
all_known-snoc (q ∷ ps) p = ap (λ (t : Bool). known_part q && t) (all_known-snoc ps p) ∙ sym (and_assoc (known_part q) (all_known ps) (known_part p))

-- a part more is what is answered where those before it pass
abbrev or_out : ℕ → ℕ → Part → Answer → Answer
or_out n i p fine = cond (leaves_source n p) (Err (refusal.Part i)) fine

first_out-snoc : (fine : Answer) (n i : ℕ) (ps : List Part) (p : Part) → first_out fine n i (ps ++ (p ∷ [])) ≡ first_out (or_out n (i + length ps) p fine) n i ps
unfolding first_out
first_out-snoc fine n i [] p = ap (λ (j : ℕ). or_out n j p fine) (sym (add-zero i))
first_out-snoc fine n i (q ∷ ps) p =
    ap (or_out n i q)
    (first_out-snoc fine n (suc i) ps p
    ∙ ap (λ (j : ℕ). first_out (or_out n j p fine) n (suc i) ps) (suc-add i (length ps) ∙ sym (add-suc i (length ps))))

parts_length-snoc : (ps : List Part) (p : Part) → parts_length (ps ++ (p ∷ [])) ≡ parts_length ps + part_length p
unfolding parts_length
parts_length-snoc [] p = omega arith
parts_length-snoc (q ∷ ps) p = let e = parts_length-snoc ps p in omega arith

true_length-snoc : (sign : Sign) (ps : List Part) (p : Part) → true_length sign (ps ++ (p ∷ [])) ≡ true_length sign ps + part_length p
unfolding true_length
true_length-snoc sign ps p = let e = parts_length-snoc ps p in omega arith

module _ (n : ℕ) (sign : Sign) (ps : List Part) (p : Part) where
  pub more-unknown : known_part p ≡ false → measured n sign (ps ++ (p ∷ [])) ≡ Err refusal.Options
  unfolding measured checked
  more-unknown h = rw (all_known-snoc ps p, h, and-false (all_known ps), and-false (known sign))

  module _ (h : known_part p ≡ true) where
    abbrev more : Answer
    more = or_out n (length ps) p (Ok (held (true_length sign ps + part_length p)))

    more-checked : measured n sign (ps ++ (p ∷ [])) ≡ checked more n sign ps
    unfolding measured checked
    more-checked =
        let fine : Answer = Ok (held (true_length sign ps + part_length p)) in
        rw (all_known-snoc ps p, h, and-true (all_known ps), true_length-snoc sign ps p)
        (ap (λ (a : Answer). cond (known sign && all_known ps) a (Err refusal.Options))
        (first_out-snoc fine n 0 ps p
        ∙ ap (λ (j : ℕ). first_out (or_out n j p fine) n 0 ps) (zero-add (length ps))))

    -- the answer for one part more, of a known kind, is read off that for those before it
    more-known : measured n sign (ps ++ (p ∷ [])) ≡ instead more (measured n sign ps)
    more-known = more-checked ∙ by-measured more n sign ps

    pub more-refused : (r : Refusal) → measured n sign ps ≡ Err r → measured n sign (ps ++ (p ∷ [])) ≡ Err r
    more-refused r e = more-known ∙ rw e

    pub more-out : (i : ℕ) → measured n sign ps ≡ Err (refusal.Part i) → measured n sign (ps ++ (p ∷ [])) ≡ Err (refusal.Part i)
    more-out i = more-refused (refusal.Part i)

    pub more-leaves : (k : ℕ) → measured n sign ps ≡ Ok k → leaves_source n p ≡ true → measured n sign (ps ++ (p ∷ [])) ≡ Err (refusal.Part (length ps))
    more-leaves k e l = more-known ∙ rw (e, l)

    pub more-done : (k : ℕ) → measured n sign ps ≡ Ok k → leaves_source n p ≡ false → measured n sign (ps ++ (p ∷ [])) ≡ Ok (held (k + part_length p))
    more-done k e l = more-known ∙ rw (e, l) (ap Ok (let d = done_held n sign ps e in omega arith))

-- ---- writing: its answer is read off that of the length

module _ (n room : ℕ) (sign : Sign) (ps : List Part) where
  abbrev judged : Answer
  judged = cond (leb (true_length sign ps) room) (Ok (true_length sign ps)) (Err (refusal.NoRoom (held (true_length sign ps))))

  wrote_by : wrote n room sign ps ≡ instead judged (measured n sign ps)
  unfolding wrote
  wrote_by = by-measured judged n sign ps

  pub wrote-refused : (r : Refusal) → measured n sign ps ≡ Err r → wrote n room sign ps ≡ Err r
  wrote-refused r e = wrote_by ∙ rw e

  pub wrote-out : (i : ℕ) → measured n sign ps ≡ Err (refusal.Part i) → wrote n room sign ps ≡ Err (refusal.Part i)
  wrote-out i = wrote-refused (refusal.Part i)

  pub wrote-no-room : (k : ℕ) → measured n sign ps ≡ Ok k → room < k → wrote n room sign ps ≡ Err (refusal.NoRoom k)
  wrote-no-room k e h =
      let d = done_held n sign ps e in
      wrote_by ∙ rw (e, lt-leb (true_length sign ps) room (omega arith)) (ap (λ (m : ℕ). Err (refusal.NoRoom m)) (sym d))

  -- no buffer is as long as the greatest number, so where the held sum has room the true one has, and is the same
  pub wrote-room : (k : ℕ) → measured n sign ps ≡ Ok k → k ≤ room → room < 2 ^ 63 → wrote n room sign ps ≡ Ok k
  wrote-room k e h r =
      let d = done_held n sign ps e in
      wrote_by ∙ rw (e, le-leb (true_length sign ps) room (omega arith)) (ap Ok (omega arith))

  -- what DONE says of writing
  pub wrote-done : (k : ℕ) → wrote n room sign ps ≡ Ok k → Inside n ps × (k ≡ true_length sign ps) × (k ≤ room)
  unfolding wrote
  wrote-done k e =
      let d = passed judged n sign ps e in
      let f = fits (leb (true_length sign ps) room) refl d.1 in
      (d.0, f.0, f.1)
    where
      fits : (t : Bool) → leb (true_length sign ps) room ≡ t → cond t (Ok (true_length sign ps)) (Err (refusal.NoRoom (held (true_length sign ps)))) ≡ Ok k → (k ≡ true_length sign ps) × (k ≤ room)
      fits true l h = let q : true_length sign ps ≡ k = cc in (sym q, omega (arith, leb-true (true_length sign ps) room l))
      fits false l h = absurd (cc)

-- ---- the promise

pub is-done : (w : Answer) → number_of w ≡ 0 → w ≡ Ok (value_of w)
is-done (Ok n) e = refl
is-done (Err refusal.Options) e = absurd (omega arith)
is-done (Err (refusal.Part i)) e = absurd (omega arith)
is-done (Err (refusal.NoRoom n)) e = absurd (omega arith)

is-left : (w : Answer) (t b : List ℕ) → (number_of w ≡ 0 → ⊥) → after w t b ≡ b
is-left (Ok n) t b h = absurd (h refl)
is-left (Err refusal.Options) t b h = refl
is-left (Err (refusal.Part i)) t b h = refl
is-left (Err (refusal.NoRoom n)) t b h = refl

-- after every refusal it is kept by leaving the buffer alone
pub left_alone : (sign : Sign) (ps : List Part) (src out : List ℕ) {w : Answer} (r : Refusal) → w ≡ wrote (length src) (length out) sign ps → w ≡ Err r → Writes sign ps src out w out
left_alone sign ps src out {w} r a e = record { answers = a; leaves = sym (is-left w (text_of sign src ps) out (λ z. let d = is-done w z in absurd (cc))) }

-- where every check has passed and the text has been written before its own length, the promise is kept
pub writes-done : (sign : Sign) (k : ℕ) (ps : List Part) (src out : List ℕ) {r : Answer} {out' : List ℕ} → r ≡ wrote (length src) (length out) sign ps → r ≡ Ok k → out' ≡ ended out k (text_of sign src ps) → Writes sign ps src out r out'
writes-done sign k ps src out {r} {out'} a d e =
    let w = wrote-done (length src) (length out) sign ps k (sym a ∙ d) in
    let l : k ≡ length (text_of sign src ps) = w.1 ∙ sym (length-text sign src ps w.0) in
    record { answers = a; leaves = e ∙ rw (d, l) (ended-whole out (text_of sign src ps)) }

-- two answers that keep it are one, and leave the same bytes
pub one_answer : {sign : Sign} {ps : List Part} {src out : List ℕ} {r s : Answer} {c d : List ℕ} → Writes sign ps src out r c → Writes sign ps src out s d → (r ≡ s) × (c ≡ d)
one_answer {sign} {ps} {src} {out} {r} {s} p q =
    let e : r ≡ s = p.answers ∙ sym q.answers in
    (e, p.leaves ∙ ap (λ (w : Answer). after w (text_of sign src ps) out) e ∙ sym q.leaves)
