-- What a writer keeps from turn to turn while it writes a text right to left: what is left of the text completes the buffer.
-- Assumes nothing.
use mathlib.Core.Path.{◌≡◌, refl, sym, ap, ◌∙◌}
use mathlib.Core.List.{List, [], ◌++◌}
use Prim.Native.Nat.{ℕ, ◌+◌, ◌-◌, ◌≤◌, zero-le}
use native.Mathlib.Omega.{arith}
use lib.ListN.{length, length-append}
use lib.Seq.{sets, length-sets}
use Rattle.buffer.specs.AtEnd.{ended}
use Rattle.buffer.proofs.AtEnd.{ended-done, ended-more, ended-sets}

-- The text p is left of the text t, and written so that it ends at the index at of buf it completes what t, ending at end, makes of buf₀.
pub record Left (buf₀ : List ℕ) (end : ℕ) (t p : List ℕ) (at : ℕ) (buf : List ℕ) : Type 0 where
  pub goal : ended buf at p ≡ ended buf₀ end t
  pub start : at - length p ≡ end - length t
  pub room : length p ≤ at
  pub within : at ≤ length buf
  pub same : length buf ≡ length buf₀

pub left-start : (buf : List ℕ) (end : ℕ) (t p : List ℕ) → p ≡ t → length t ≤ end → end ≤ length buf → Left buf end t p end buf
left-start buf end t p e h k = rw e (record { goal = refl; start = refl; room = h; within = k; same = refl })

module _ {buf₀ : List ℕ} {end : ℕ} {t p : List ℕ} {at : ℕ} {buf : List ℕ} (L : Left buf₀ end t p at buf) where
  -- the last bytes v of what is left have room before the index at
  pub left-room : (p' v : List ℕ) → p ≡ p' ++ v → length v ≤ at
  left-room p' v e = omega (arith, L.room, ap length e ∙ length-append p' v)

  -- they are stored there
  pub left-store : (p' v : List ℕ) (o : ℕ) → p ≡ p' ++ v → o + length v ≡ at → Left buf₀ end t p' o (sets buf o v)
  left-store p' v o e i =
      let m : length p ≡ length p' + length v = ap length e ∙ length-append p' v in
      let r : length p' ≤ o = omega (arith, L.room) in
      record {
        goal = ended-more buf o at p' v i r L.within ∙ rw (sym e) L.goal;
        start = omega (arith, L.start);
        room = r;
        within = rw length-sets (omega (arith, L.within));
        same = length-sets buf o v ∙ L.same;
      }

  -- a layer has written them there
  pub left_ended : (p' v : List ℕ) → p ≡ p' ++ v → Left buf₀ end t p' (at - length v) (ended buf at v)
  left_ended p' v e =
      let i : at - length v + length v ≡ at = omega (arith, left-room p' v e) in
      rw (← ended-sets buf (at - length v) at v i L.within) (left-store p' v (at - length v) e i)

  -- the bytes v are all that is left, and are stored
  pub left-last : (v : List ℕ) (o : ℕ) → p ≡ v → o + length v ≡ at → (o ≡ end - length t) × (sets buf o v ≡ ended buf₀ end t)
  left-last v o e i = (
    omega (arith, L.start, ap length e),
    sym (ended-done (sets buf o v) o) ∙ ended-more buf o at [] v i zero-le L.within ∙ rw (sym e) L.goal,
  )
