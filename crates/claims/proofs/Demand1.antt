-- Demand 1: by which check refuses, if any does, and by the room. Assumes nothing.
use Rattle.std.proofs.Common.{◌≡◌, ℕ, zero, suc, Ok, Err, ◌+◌, ◌-◌, ◌<◌, ◌≤◌, Bool, true, false, cond, ◌&&◌, leb, ◌⊎◌, ◌↔◌, List, [], ◌∷◌, ◌++◌, length, ℤ, pos, negsuc, sym, refl, ap, ◌∙◌, subst, inl, inr, add-zero, zero-add, arith, lit<, le-leb, leb-false, leb-true}
use mathlib.Core.Bool.{false≢true}
use native.Mathlib.Decide.{dec_le}
use borrow.Author.Tests.{lt-leb}
use Rattle.buffer.specs.AtEnd.{ended, begun}
use Rattle.decimal.specs.Ends.{EndPromise}
use Rattle.digits.specs.Text.{ascii, decimal, signed}
use Rattle.digits.proofs.Text.{text-some}
use Rattle.kinds.specs.Kinds.{known, is_in_type, meaning}
use Rattle.part_answers.specs.Answers as parting
use Rattle.part_answers.specs.Answers.{Answer, first_out, checked, measured, wrote, number_of, value_of}
use Rattle.part_answers.specs.declared.Refusal.TheVariants as part_refusal
use Rattle.parts.specs.Parts as parts
use Rattle.parts.specs.Parts.{known_part, all_known, leaves_source, Inside, true_length, held}
use Rattle.parts.specs.declared.Part.{Part}
use Rattle.parts.specs.declared.Sign.{Sign}
use Rattle.parts.proofs.Text.{length-text}
use Rattle.writing.specs.Text.{text_of}
use Rattle.writing.specs.Promise.{Written, known_options, exponent_kept, fitted, number, value, after, answer_of, answer, Writes}
use Rattle.writing.specs.declared.Options.{Options}
use Rattle.writing.specs.declared.Refusal.TheVariants as refusal
use Rattle.claims.specs.Demand1.{Demand1, Allowed, Judged, InOrder, OfWriting, Sound, FirstOut, PartsInOrder, OfParts, OfEnds}

-- ---- by the room, where no check refuses, and where one does

module _ {Earlier : Type 0} {told : ℕ → ℕ} {t l : List ℕ} where
  pub in-room : Earlier → length t ≤ length l → Demand1 Earlier told t l 0 (length t) (begun l t)
  in-room E h = record {
    no-room-when = λ _ k. absurd (omega arith);
    no-room-only = λ k. absurd (omega arith);
    needed = λ k. absurd (omega arith);
    done-when = λ _ _. refl;
    done-only = λ _. (E, h);
    written = λ _. (refl, refl);
    refused = λ f. absurd (f refl);
  }

  pub no_room : Earlier → length l < length t → Demand1 Earlier told t l 8 (told (length t)) l
  no_room E h = record {
    no-room-when = λ _ _. refl;
    no-room-only = λ _. (E, h);
    needed = λ _. refl;
    done-when = λ _ k. absurd (omega arith);
    done-only = λ k. absurd (omega arith);
    written = λ k. absurd (omega arith);
    refused = λ _. refl;
  }

  pub earlier : (n v : ℕ) → (Earlier → ⊥) → (n ≡ 0 → ⊥) → (n ≡ 8 → ⊥) → Demand1 Earlier told t l n v l
  earlier n v f z e = record {
    no-room-when = λ E _. absurd (f E);
    no-room-only = λ k. absurd (e k);
    needed = λ k. absurd (e k);
    done-when = λ E _. absurd (f E);
    done-only = λ k. absurd (z k);
    written = λ k. absurd (z k);
    refused = λ _. refl;
  }

-- ---- writing

-- that an answer keeps a promise is all that counts
kept : {Earlier : Type 0} {t l : List ℕ} {a r : Written} {l' : List ℕ} → Writes t a l r l' → Demand1 Earlier (λ n. n) t l (number a) (value a) (after a t l) → Demand1 Earlier (λ n. n) t l (number r) (value r) l'
kept W D = rw (W.answers, W.leaves) D

abbrev Kept : Type 0 → List ℕ → List ℕ → Written → Type 0
Kept Earlier t l a = Demand1 Earlier (λ n. n) t l (number a) (value a) (after a t l)

fits : (Earlier : Type 0) (t l : List ℕ) → Earlier → Kept Earlier t l (fitted t (length l))
fits Earlier t l E = go (leb (length t) (length l)) refl
  where
    go : (b : Bool) → leb (length t) (length l) ≡ b → Kept Earlier t l (fitted t (length l))
    go true e = rw e (in-room E (leb-true (length t) (length l) e))
    go false e = rw e (no_room E (leb-false (length t) (length l) e))

of-type : (bits : ℕ) (z : ℤ) (format : ℕ) (o : Options) (l : List ℕ) → Kept (Allowed format o z) (text_of bits z format o) l (answer_of bits z format o (length l))
unfolding answer_of
of-type bits z format o l = go (known_options format o) (exponent_kept format o z) refl refl
  where
    go : (a b : Bool) → known_options format o ≡ a → exponent_kept format o z ≡ b → Kept (Allowed format o z) (text_of bits z format o) l (answer_of bits z format o (length l))
    go false b e f = rw e (earlier 6 0 (λ E. false≢true (sym e ∙ E.options)) (λ k. omega arith) (λ k. omega arith))
    go true false e f = rw (e, f) (earlier 10 0 (λ E. false≢true (sym f ∙ E.exponent)) (λ k. omega arith) (λ k. omega arith))
    go true true e f = rw (e, f) (fits (Allowed format o z) (text_of bits z format o) l (record { options = e; exponent = f }))

-- a stronger condition, where what it adds holds
pub weaker : {E F : Type 0} {told : ℕ → ℕ} {t l : List ℕ} {n v : ℕ} {l' : List ℕ} → (E → F) → (F → E) → Demand1 E told t l n v l' → Demand1 F told t l n v l'
weaker f g D = record {
  no-room-when = λ x h. D.no-room-when (g x) h;
  no-room-only = λ k. let y = D.no-room-only k in (f y.0, y.1);
  needed = D.needed;
  done-when = λ x h. D.done-when (g x) h;
  done-only = λ k. let y = D.done-only k in (f y.0, y.1);
  written = D.written;
  refused = D.refused;
}

of-core : (signed : Bool) (bits p format : ℕ) (o : Options) (l : List ℕ) → Kept (Judged signed bits p format o) (text_of bits (meaning 64 signed p) format o) l (answer signed bits p format o (length l))
unfolding answer
of-core signed bits p format o l = go (known bits) (is_in_type signed bits (meaning 64 signed p)) refl refl
  where
    go : (a b : Bool) → known bits ≡ a → is_in_type signed bits (meaning 64 signed p) ≡ b → Kept (Judged signed bits p format o) (text_of bits (meaning 64 signed p) format o) l (answer signed bits p format o (length l))
    go false b e f = rw e (earlier 5 0 (λ E. false≢true (sym e ∙ E.type)) (λ k. omega arith) (λ k. omega arith))
    go true false e f = rw (e, f) (earlier 7 0 (λ E. false≢true (sym f ∙ E.value)) (λ k. omega arith) (λ k. omega arith))
    go true true e f = rw (e, f) (weaker (λ A. record { type = e; value = f; allowed = A }) (λ J. J.allowed) (of-type bits (meaning 64 signed p) format o l))

-- the numbers, by which check fails first
both : {A B : Type 0} → A → B → A ↔ B
both a b = ((λ _. b), (λ _. a))

neither : {A B : Type 0} → (A → ⊥) → (B → ⊥) → A ↔ B
neither f g = ((λ a. absurd (f a)), (λ b. absurd (g b)))

abbrev first : Bool → Bool → Bool → Bool → Written → Written
first a b c d w = cond a (cond b (cond c (cond d w (Err refusal.Exponent)) (Err refusal.Options)) (Err refusal.Value)) (Err refusal.Type)

passing : (n v : ℕ) → ((n ≡ 0 → ⊥) → n ≡ 8) → InOrder true true true true n v
passing n v few = record {
  five = neither (λ e. let z = few (λ z. omega arith) in omega arith) (λ h. false≢true (sym h));
  seven = neither (λ e. let z = few (λ z. omega arith) in omega arith) (λ h. false≢true (sym h.1));
  six = neither (λ e. let z = few (λ z. omega arith) in omega arith) (λ h. false≢true (sym h.2));
  ten = neither (λ e. let z = few (λ z. omega arith) in omega arith) (λ h. false≢true (sym h.3));
  nothing = λ f g. absurd (g (few f));
}

in_order : (a b c d : Bool) (t : List ℕ) (room : ℕ) → InOrder a b c d (number (first a b c d (fitted t room))) (value (first a b c d (fitted t room)))
in_order false b c d t room = record {
  five = both refl refl;
  seven = neither (λ e. omega arith) (λ h. false≢true h.0);
  six = neither (λ e. omega arith) (λ h. false≢true h.0);
  ten = neither (λ e. omega arith) (λ h. false≢true h.0);
  nothing = λ _ _. refl;
}
in_order true false c d t room = record {
  five = neither (λ e. omega arith) (λ h. false≢true (sym h));
  seven = both refl (refl, refl);
  six = neither (λ e. omega arith) (λ h. false≢true h.1);
  ten = neither (λ e. omega arith) (λ h. false≢true h.1);
  nothing = λ _ _. refl;
}
in_order true true false d t room = record {
  five = neither (λ e. omega arith) (λ h. false≢true (sym h));
  seven = neither (λ e. omega arith) (λ h. false≢true (sym h.1));
  six = both refl (refl, refl, refl);
  ten = neither (λ e. omega arith) (λ h. false≢true h.2);
  nothing = λ _ _. refl;
}
in_order true true true false t room = record {
  five = neither (λ e. omega arith) (λ h. false≢true (sym h));
  seven = neither (λ e. omega arith) (λ h. false≢true (sym h.1));
  six = neither (λ e. omega arith) (λ h. false≢true (sym h.2));
  ten = both refl (refl, refl, refl, refl);
  nothing = λ _ _. refl;
}
in_order true true true true t room = go (leb (length t) room) refl
  where
    go : (x : Bool) → leb (length t) room ≡ x → InOrder true true true true (number (fitted t room)) (value (fitted t room))
    go true e = rw e (passing 0 (length t) (λ f. absurd (f refl)))
    go false e = rw e (passing 8 (length t) (λ _. refl))

core-order : (signed : Bool) (bits p format : ℕ) (o : Options) (room : ℕ)
    → InOrder (known bits) (is_in_type signed bits (meaning 64 signed p)) (known_options format o) (exponent_kept format o (meaning 64 signed p)) (number (answer signed bits p format o room)) (value (answer signed bits p format o room))
unfolding answer answer_of
core-order signed bits p format o room =
    in_order (known bits) (is_in_type signed bits (meaning 64 signed p)) (known_options format o) (exponent_kept format o (meaning 64 signed p)) (text_of bits (meaning 64 signed p) format o) room

type-order : (bits : ℕ) (z : ℤ) (format : ℕ) (o : Options) (room : ℕ)
    → InOrder true true (known_options format o) (exponent_kept format o z) (number (answer_of bits z format o room)) (value (answer_of bits z format o room))
unfolding answer_of
type-order bits z format o room = in_order true true (known_options format o) (exponent_kept format o z) (text_of bits z format o) room

pub of-writing : OfWriting
of-writing = record {
  core = λ signed bits p format o l r l' W. kept W (of-core signed bits p format o l);
  by-type = λ bits z format o l r l' W. kept W (of-type bits z format o l);
  at_edge = λ signed bits p format o l n v l' A. rw (A.numbered, A.returns, A.leaves) (of-core signed bits p format o l);
  core-order = λ signed bits p format o l r l' W. rw W.answers (core-order signed bits p format o (length l));
  by-type-order = λ bits z format o l r l' W. rw W.answers (type-order bits z format o (length l));
  edge_order = λ signed bits p format o l n v l' A. rw (A.numbered, A.returns) (core-order signed bits p format o (length l));
}

-- ---- parts

-- the first part that leaves its source is what is found, and none where all are inside
found : (fine : Answer) (n i : ℕ) (front : List Part) (p : Part) (behind : List Part) → Inside n front → leaves_source n p ≡ true
    → first_out fine n i (front ++ (p ∷ behind)) ≡ Err (part_refusal.Part (i + length front))
unfolding first_out Inside
found fine n i [] p behind I e = rw e (ap (λ (j : ℕ). Err (part_refusal.Part j)) (sym (add-zero i)))
found fine n i (q ∷ qs) p behind I e =
    let j : suc i + length qs ≡ i + length (q ∷ qs) = omega arith in
    rw I.0 (found fine n (suc i) qs p behind I.1 e ∙ ap (λ (k : ℕ). Err (part_refusal.Part k)) j)

out-or-not : (fine : Answer) (n i : ℕ) (ps : List Part) → (Inside n ps × (first_out fine n i ps ≡ fine)) ⊎ ((k : ℕ) × FirstOut n ps k)
unfolding first_out Inside
out-or-not fine n i [] = inl (tt, refl)
out-or-not fine n i (p ∷ ps) = go (leaves_source n p) refl (out-or-not fine n (suc i) ps)
  where
    go : (b : Bool) → leaves_source n p ≡ b → (Inside n ps × (first_out fine n (suc i) ps ≡ fine)) ⊎ ((k : ℕ) × FirstOut n ps k)
        → (Inside n (p ∷ ps) × (first_out fine n i (p ∷ ps) ≡ fine)) ⊎ ((k : ℕ) × FirstOut n (p ∷ ps) k)
    go true e r = inr (0, record { front = []; part = p; behind = ps; split = refl; index = refl; inside = tt; leaves = e })
    go false e (inl r) = inl ((e, r.0), rw e r.1)
    go false e (inr r) =
        let F = r.1 in
        inr (suc r.0, record { front = p ∷ F.front; part = F.part; behind = F.behind; split = ap (λ (l : List Part). p ∷ l) F.split; index = ap suc F.index; inside = (e, F.inside); leaves = F.leaves })

module _ {n : ℕ} {ps : List Part} {k : ℕ} (F : FirstOut n ps k) where
  at_first : (fine : Answer) → first_out fine n 0 ps ≡ Err (part_refusal.Part k)
  at_first fine = rw (F.split, F.index) (found fine n 0 F.front F.part F.behind F.inside F.leaves ∙ ap (λ (j : ℕ). Err (part_refusal.Part j)) (zero-add (length F.front)))

  not-inside : Inside n ps → ⊥
  unfolding Inside
  not-inside I = go F.front (subst (Inside n) F.split I)
    where
      go : (front : List Part) → Inside n (front ++ (F.part ∷ F.behind)) → ⊥
      go [] J = false≢true (sym J.0 ∙ F.leaves)
      go (q ∷ qs) J = go qs J.1

-- the numbers of an answer that is made by these checks
module _ (fine : Answer) (other : (number_of fine ≡ 6 → ⊥) × (number_of fine ≡ 9 → ⊥)) (sign : Sign) (ps : List Part) (n : ℕ) where
  parts-order : PartsInOrder sign ps n (number_of (checked fine n sign ps)) (value_of (checked fine n sign ps))
  unfolding checked
  parts-order = go (parts.known sign && all_known ps) refl
    where
      go : (b : Bool) → (parts.known sign && all_known ps) ≡ b → PartsInOrder sign ps n (number_of (checked fine n sign ps)) (value_of (checked fine n sign ps))
      go false e = rw e (record {
        six = both refl e;
        nine = λ k. neither (λ h. omega (arith, h.0)) (λ h. false≢true (sym e ∙ h.0));
        nothing = λ _. refl;
      })
      go true e = by (out-or-not fine n 0 ps)
        where
          by : (Inside n ps × (first_out fine n 0 ps ≡ fine)) ⊎ ((k : ℕ) × FirstOut n ps k) → PartsInOrder sign ps n (number_of (checked fine n sign ps)) (value_of (checked fine n sign ps))
          by (inl w) = rw (e, w.1) (record {
            six = neither other.0 (λ h. false≢true (sym h ∙ e));
            nine = λ k. neither (λ h. other.1 h.0) (λ h. not-inside h.1 w.0);
            nothing = λ h. absurd (other.0 h);
          })
          by (inr w) = rw (e, at_first w.1 fine) (record {
            six = neither (λ h. omega arith) (λ h. false≢true (sym h ∙ e));
            nine = λ k. ((λ h. (e, subst (FirstOut n ps) h.1 w.1)), (λ h. (refl, ap value_of (sym (at_first w.1 fine) ∙ at_first h.1 fine))));
            nothing = λ h. absurd (omega arith);
          })

module _ (sign : Sign) (ps : List Part) (src out : List ℕ) where
  abbrev text : List ℕ
  text = parts.text_of sign src ps

  abbrev of-answer : Answer → Type 0
  of-answer r = Demand1 (Sound sign ps src) held text out (number_of r) (value_of r) (parting.after r text out)

  -- the answer where every check passes
  abbrev fine : Answer
  fine = cond (leb (true_length sign ps) (length out)) (Ok (true_length sign ps)) (Err (part_refusal.NoRoom (held (true_length sign ps))))

  parts-fit : (E : Sound sign ps src) → (b : Bool) → leb (true_length sign ps) (length out) ≡ b → (r : Answer)
      → r ≡ cond b (Ok (true_length sign ps)) (Err (part_refusal.NoRoom (held (true_length sign ps)))) → of-answer r
  parts-fit E true e r i = let n = length-text sign src ps E.inside in rw (i, ← n) (in-room E (omega (arith, leb-true (true_length sign ps) (length out) e)))
  parts-fit E false e r i = let n = length-text sign src ps E.inside in rw (i, ← n) (no_room E (omega (arith, leb-false (true_length sign ps) (length out) e)))

  parts-checked : of-answer (wrote (length src) (length out) sign ps)
  unfolding wrote checked
  parts-checked = go (parts.known sign && all_known ps) refl
    where
      go : (b : Bool) → (parts.known sign && all_known ps) ≡ b → of-answer (wrote (length src) (length out) sign ps)
      go false e = rw e (earlier 6 0 (λ E. false≢true (sym e ∙ E.codes)) (λ k. omega arith) (λ k. omega arith))
      go true e = by (out-or-not fine (length src) 0 ps)
        where
          by : (Inside (length src) ps × (first_out fine (length src) 0 ps ≡ fine)) ⊎ ((k : ℕ) × FirstOut (length src) ps k)
              → of-answer (wrote (length src) (length out) sign ps)
          by (inl w) = rw e (parts-fit (record { codes = e; inside = w.0 }) (leb (true_length sign ps) (length out)) refl _ w.1)
          by (inr w) = rw (e, at_first w.1 fine) (earlier 9 w.0 (λ E. not-inside w.1 E.inside) (λ k. omega arith) (λ k. omega arith))

pub of_parts : OfParts
unfolding wrote measured
of_parts = record {
  sign-codes = sign-codes;
  kind-codes = kind-codes;
  writing = λ sign ps src out r out' W. rw (W.leaves, W.answers) (parts-checked sign ps src out);
  writing-order = λ sign ps src out r out' W. rw W.answers (parts-order (fine sign ps src out) (other sign ps src out (leb (true_length sign ps) (length out)) refl) sign ps (length src));
  length-order = λ sign ps source. parts-order (Ok (held (true_length sign ps))) ((λ h. omega arith), (λ h. omega arith)) sign ps source;
}
  where
    sign-codes : (code : ℕ) → parts.known (parts.sign_of code) ≡ leb code 2
    sign-codes zero = refl
    sign-codes (suc zero) = refl
    sign-codes (suc (suc zero)) = refl
    sign-codes (suc (suc (suc code))) = sym (lt-leb (suc (suc (suc code))) 2 (omega arith))

    kind-codes : (kind number zeros start len : ℕ) → known_part (parts.part_of kind number zeros start len) ≡ leb kind 2
    kind-codes zero _ _ _ _ = refl
    kind-codes (suc zero) _ _ _ _ = refl
    kind-codes (suc (suc zero)) _ _ _ _ = refl
    kind-codes (suc (suc (suc kind))) _ _ _ _ = sym (lt-leb (suc (suc (suc kind))) 2 (omega arith))

    other : (sign : Sign) (ps : List Part) (src out : List ℕ) (b : Bool) → leb (true_length sign ps) (length out) ≡ b → (number_of (fine sign ps src out) ≡ 6 → ⊥) × (number_of (fine sign ps src out) ≡ 9 → ⊥)
    other sign ps src out true e = rw e ((λ h. omega arith), (λ h. omega arith))
    other sign ps src out false e = rw e ((λ h. omega arith), (λ h. omega arith))

-- ---- the end entries

pub of-ends : OfEnds
unfolding signed
of-ends = record {
  refused = refused;
  done = done;
  some = some;
  some-unsigned = some-unsigned;
  told = λ t l r l' P s. ((λ e. go t l r l' P s e (dec_le (length t) (length l))), (λ h. (refused t l r l' P h).0));
}
  where
    refused : (t l : List ℕ) (r : ℕ) (l' : List ℕ) → EndPromise t l r l' → length l < length t → (r ≡ length l) × (l' ≡ l)
    refused t l r l' P h = let e = lt-leb (length t) (length l) h in (P.answers ∙ rw e refl, P.leaves ∙ rw e refl)

    done : (t l : List ℕ) (r : ℕ) (l' : List ℕ) → EndPromise t l r l' → length t ≤ length l → (r ≡ length l - length t) × (l' ≡ ended l (length l) t)
    done t l r l' P h = let e = le-leb (length t) (length l) h in (P.answers ∙ rw e refl, P.leaves ∙ rw e refl)

    some-unsigned : (n : ℕ) → 0 < length (decimal n)
    some-unsigned n = text-some ascii 10 (lit< tt) n

    some : (z : ℤ) → 0 < length (signed z)
    some (pos n) = some-unsigned n
    some (negsuc k) = omega arith

    go : (t l : List ℕ) (r : ℕ) (l' : List ℕ) → EndPromise t l r l' → 0 < length t → r ≡ length l → Dec (length t ≤ length l) → length l < length t
    go t l r l' P s e (yes h) = absurd (omega (arith, (done t l r l' P h).0))
    go t l r l' P s e (no h) = omega arith
