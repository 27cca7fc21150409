-- From the promises below to the edge's numbers, and that one answer meets each of the edge's promises.
-- Assumes nothing.
use Rattle.std.specs.Prelude.{Ok}
use mathlib.Core.Bool.{Bool}
use mathlib.Core.List.{List}
use mathlib.Core.Path.{◌≡◌, refl, sym, ap, ◌∙◌}
use Prim.Native.Nat.{ℕ}
use Rattle.outcomes.specs.Outcomes.{number_of, value_of}
use Rattle.reader.specs.Answers as answers
use Rattle.reader.proofs.Outcomes as Outcomes
use Rattle.writing.specs.Promise.{Written, number, value, Writes}
use Rattle.edge.specs.Edge.{Answers, Reads}

pub edged : {t : List ℕ} {a : Written} {l : List ℕ} {r : Written} {l' : List ℕ} {n v : ℕ} → Writes t a l r l' → n ≡ number r → v ≡ value r → Answers t a l n v l'
edged W e f = record { numbered = e ∙ ap number W.answers; returns = f ∙ ap value W.answers; leaves = W.leaves }

pub one_answer : {t : List ℕ} {a : Written} {l : List ℕ} {n v m w : ℕ} {l' m' : List ℕ} → Answers t a l n v l' → Answers t a l m w m' → (n ≡ m) × (v ≡ w) × (l' ≡ m')
one_answer p q = (p.numbered ∙ sym q.numbered, p.returns ∙ sym q.returns, p.leaves ∙ sym q.leaves)

pub one-reading : {sgn : Bool} {bits format : ℕ} {t : List ℕ} {n v m w : ℕ} → Reads sgn bits format t n v → Reads sgn bits format t m w → (n ≡ m) × (v ≡ w)
one-reading {sgn} {bits} {format} {t} p q =
    let e : p.outcome ≡ q.outcome = Outcomes.one_answer sgn bits format t p.outcome q.outcome p.is q.is in
    (p.numbered ∙ ap number_of e ∙ sym q.numbered, p.returns ∙ ap value_of e ∙ sym q.returns)

-- a value that was told at once
pub at_once : {sgn : Bool} {bits format : ℕ} {t : List ℕ} {v : ℕ} → answers.Answers sgn bits format t (Ok v) → Reads sgn bits format t 0 v
at_once {v = v} a = record { outcome = Ok v; is = a; numbered = refl; returns = refl }
