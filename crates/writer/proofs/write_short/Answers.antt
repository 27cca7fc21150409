-- `writer::write_short` meets its contract. Assumes nothing.
use mathlib.Core.List.{List}
use mathlib.Core.Path.{◌≡◌, refl, ap}
use Rattle.std.specs.Prelude.{Err, None}
use Rattle.std.proofs.lemmas.Result.{err_from_is_err_and}
use Prim.Native.Nat.{ℕ, ◌≤◌}
use native.Mathlib.Omega.{arith}
use lib.ListN.{length}
use Rattle.kinds.specs.Kinds.{meaning}
use Rattle.kinds.specs.Values.{stands_for}
use Rattle.scientific.specs.Layout.{exp_text}
use Rattle.writing.specs.Promise.{Written, house, settled, answer, Writes, Places}
use Rattle.writing.specs.Text.{exponent_letter, text_of}
use Rattle.writing.proofs.Cases.{plain-writes, exponent-writes, exponent-kept, settles, unframes, house-unframed, house-known}
use Rattle.writer.proofs.Judged.{of_value, of_misfit}
use Rattle.writer.proofs.write_short.Goals as goal
use Rattle.writer.proofs.write_short.Goals.{In_ok-value}

pub returns-in_err-value : goal.returns-in_err-value
returns-in_err-value c =
    let p = err_from_is_err_and c.from_residual.result c.from_residual.ensures.1 in
    let no = c.in_err-value.ensures in
    rw (p.1, p.2) (of_misfit c.args.kind c.args.value c.in_err-value.field-0.0 c.args.format house c.args.out.now (λ e. no.no_type (ap Err e)) (λ e. no.no_value (ap Err e)))

-- a form that needs no more than a number, whoever writes it
plainly : (t : In_ok-value) {n : ℕ} {r : Written} {l : List ℕ} → t.args.format ≤ 4 → Places (text_of t.in_ok-value.value.kind.bits (stands_for t.in_ok-value.value) t.args.format house) t.args.out.now n l → r ≡ settled n (length t.args.out.now) →
    Writes (text_of t.args.kind.bits (meaning 64 t.args.kind.signed t.args.value) t.args.format house) (answer t.args.kind.signed t.args.kind.bits t.args.value t.args.format house (length t.args.out.now)) t.args.out.now r l
plainly t {n} {r} {l} four P e =
    of_value t.args.kind t.args.value t.in_ok-value.value t.args.format house t.in_ok-value.ensures.fits
    (plain-writes t.in_ok-value.value.kind.bits (stands_for t.in_ok-value.value) t.args.format house (length t.args.out.now) (house-known t.args.format (omega (arith, four))) t.args.out.now r l refl four (settles P e))

pub returns-then-format-le2 : goal.returns-then-format-le2
returns-then-format-le2 c =
    plainly (goal.at.returns-then-format-le2 c).In_ok-value (omega (arith, c.if-format-le2.true)) (c.write_plainly-need.ensures house None house-unframed) c.settle.ensures

pub returns-then-format-le4 : goal.returns-then-format-le4
returns-then-format-le4 c =
    plainly (goal.at.returns-then-format-le4 c).In_ok-value c.if-format-le4.true (c.write_hex-need.ensures house None house-unframed) c.settle-then-format-le4.ensures

pub returns : goal.returns
returns c =
    let six : c.args.format ≤ 6 = omega arith in
    of_value c.args.kind c.args.value c.in_ok-value.value c.args.format house c.in_ok-value.ensures.fits
    (exponent-writes c.in_ok-value.value.kind.bits (stands_for c.in_ok-value.value) c.args.format house (length c.args.out.now) c.split_pattern-split.result c.split_pattern-split.ensures (house-known c.args.format six) c.args.out.now c.settle-2.result c.write_bare_in_full-need.new.out refl c.if-format-le4.false
    (rw (unframes house c.split_pattern-split.result.negative c.args.format (exp_text (exponent_letter c.args.format) None c.split_pattern-split.result.magnitude) house-unframed)
    (exponent-kept None c.split_pattern-split.result.magnitude _ c.args.out.now _ _ c.write_bare_in_full-need.ensures.0 (settles c.write_bare_in_full-need.ensures.1 c.settle-2.ensures))))
