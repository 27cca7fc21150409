-- `framed_exponents::write_framed_exponent` meets its contract. The parts of the scratch bytes are the digits. Assumes nothing.
use mathlib.Core.List.{List}
use mathlib.Core.Path.{sym, ◌∙◌}
use Prim.Native.Nat.{ℕ}
use native.Mathlib.Omega.{arith}
use Rattle.scientific.specs.Layout.{exp_text}
use Rattle.writing.specs.Text.{exponent_letter}
use Rattle.writing.specs.declared.Options.{Options}
use Rattle.formatted.specs.declared.Formatted.{Formatted}
use Rattle.writing.proofs.Cases.{exponent-refused, exponent-kept}
use Rattle.framing.proofs.Laid.{around-done}
use Rattle.framed_exponents.proofs.Parted.{Digits, digits_of, refused-of}
use Rattle.framed_exponents.proofs.write_framed_exponent.Goals as goal
use Rattle.framed_exponents.proofs.write_framed_exponent.Goals.{In-Some}

pub returns-in_default : goal.returns-in_default
returns-in_default c =
    exponent-refused c.args.options.precision c.args.n _ c.args.out.now
    (refused-of c.letter_of.result c.args.options.precision c.args.n c.formatted-shown.new.scratch c.formatted-shown.result c.in_default.is c.formatted-shown.ensures)

-- the digits
abbrev shown_text : ℕ → Options → ℕ → List ℕ
shown_text format options n = exp_text (exponent_letter format) options.precision n

abbrev Shows : ℕ → Options → ℕ → List ℕ → Formatted → Type 0
Shows format options n scratch parts = Digits (exponent_letter format) options.precision n scratch parts

digits : (c : In-Some) → Shows c.args.format c.args.options c.args.n c.formatted-shown.new.scratch c.in-Some.parts
digits c =
    digits_of (exponent_letter c.args.format) c.letter_of.result c.args.options.precision c.args.n c.formatted-shown.new.scratch c.in-Some.parts c.formatted-shown.result c.letter_of.ensures c.in-Some.is c.formatted-shown.ensures

pub size-requires : goal.size-requires
size-requires c = let d = digits (goal.at.size-requires c).In-Some in omega (arith, d.size, d.few)

pub put_around-requires : goal.put_around-requires
put_around-requires c = let d = digits (goal.at.put_around-requires c).In-Some in (omega arith, omega (arith, c.size.ensures, d.size, d.few))

pub slice_bounds-write_before-end : goal.slice_bounds-write_before-end
slice_bounds-write_before-end c = sym (digits (goal.at.slice_bounds-write_before-end c).In-Some).source

pub write_before-requires : goal.write_before-requires
write_before-requires c =
    let d = digits (goal.at.write_before-requires c).In-Some in
    let S = c.in_ok-layout.ensures (shown_text c.args.format c.args.options c.args.n) (sym d.size ∙ sym c.size.ensures) in
    (d.inside, omega (arith, S.inside, d.size), S.ends)

pub returns : goal.returns
returns c =
    let d = digits (goal.at.returns c).In-Some in
    exponent-kept c.args.options.precision c.args.n _ c.args.out.now _ _ d.kept
    (around-done (c.in_ok-layout.ensures (shown_text c.args.format c.args.options c.args.n) (sym d.size ∙ sym c.size.ensures)) (rw d.text at c.write_before.ensures.1))
