-- Document 01's starred trials, of the definitions, under one claim.
use Rattle.std.specs.Prelude.{Ok, Err, None, Some, ◌≡◌, ℕ, ◌-◌, ◌^◌, true, false, [], ◌∷◌, length, pos, negsuc}
use Rattle.outcomes.specs.declared.Fault.TheVariants as fault
use Rattle.reader.specs.Answers.{Answers}
use Rattle.writing.specs.Text.{text_of}
use Rattle.writing.specs.Promise.{house}
use Rattle.writing.specs.declared.Options.{Options}

-- The house default with a precision.
abbrev pub places : ℕ → Options
places p = record { plus = false; alternate = false; zero = false; fill = 32; align = 0; width = 0; precision = Some p }

pub record Starred : Type 0 where
  -- u8 0, decimal: `0`
  pub zero : text_of 8 (pos 0) 0 house ≡ 48 ∷ []
  -- i32 -1972, decimal: `-1972`
  pub year : text_of 32 (negsuc 1971) 0 house ≡ 45 ∷ 49 ∷ 57 ∷ 55 ∷ 50 ∷ []
  -- i64 smallest, decimal: 20 bytes: `-9223372036854775808`
  pub smallest : text_of 64 (negsuc (2 ^ 63 - 1)) 0 house ≡ 45 ∷ 57 ∷ 50 ∷ 50 ∷ 51 ∷ 51 ∷ 55 ∷ 50 ∷ 48 ∷ 51 ∷ 54 ∷ 56 ∷ 53 ∷ 52 ∷ 55 ∷ 55 ∷ 53 ∷ 56 ∷ 48 ∷ 56 ∷ []
  -- i8 -1, lower hex, plus: `+ff`
  pub hex : text_of 8 (negsuc 0) 3 (record { plus = true; alternate = false; zero = false; fill = 32; align = 0; width = 0; precision = None }) ≡ 43 ∷ 102 ∷ 102 ∷ []
  -- u8 5, binary, alternate, zero, width 10: `0b00000101`
  pub prefixed : text_of 8 (pos 5) 1 (record { plus = false; alternate = true; zero = true; fill = 32; align = 0; width = 10; precision = None }) ≡ 48 ∷ 98 ∷ 48 ∷ 48 ∷ 48 ∷ 48 ∷ 48 ∷ 49 ∷ 48 ∷ 49 ∷ []
  -- i32 -1, zero, width 8: `-0000001`
  pub zeros : text_of 32 (negsuc 0) 0 (record { plus = false; alternate = false; zero = true; fill = 32; align = 0; width = 8; precision = None }) ≡ 45 ∷ 48 ∷ 48 ∷ 48 ∷ 48 ∷ 48 ∷ 48 ∷ 49 ∷ []
  -- u8 42, fill `*`, centre, width 7: `**42***`
  pub centred : text_of 8 (pos 42) 0 (record { plus = false; alternate = false; zero = false; fill = 42; align = 2; width = 7; precision = None }) ≡ 42 ∷ 42 ∷ 52 ∷ 50 ∷ 42 ∷ 42 ∷ 42 ∷ []
  -- 0, exponent, p 2: `0.00e0`
  pub zero-p2 : text_of 64 (pos 0) 5 (places 2) ≡ 48 ∷ 46 ∷ 48 ∷ 48 ∷ 101 ∷ 48 ∷ []
  -- 15, 25, 95, exponent, p 0: `2e1`, `2e1`, `1e2`
  pub tie-15 : text_of 64 (pos 15) 5 (places 0) ≡ 50 ∷ 101 ∷ 49 ∷ []
  pub tie-25 : text_of 64 (pos 25) 5 (places 0) ≡ 50 ∷ 101 ∷ 49 ∷ []
  pub tie-95 : text_of 64 (pos 95) 5 (places 0) ≡ 49 ∷ 101 ∷ 50 ∷ []
  -- 9995, exponent, p 2: `1.00e4`
  pub carry : text_of 64 (pos 9995) 5 (places 2) ≡ 49 ∷ 46 ∷ 48 ∷ 48 ∷ 101 ∷ 52 ∷ []
  -- u64 largest, exponent, p 0: `2e19`
  pub largest : text_of 64 (pos (2 ^ 64 - 1)) 5 (places 0) ≡ 50 ∷ 101 ∷ 49 ∷ 57 ∷ []
  pub twenty : length (text_of 64 (negsuc (2 ^ 63 - 1)) 0 house) ≡ 20
  -- read u8 `255`, `256`, `007`: 255; RANGE; NOT_CANONICAL
  pub greatest : Answers false 8 0 (50 ∷ 53 ∷ 53 ∷ []) (Ok 255)
  pub one_more : Answers false 8 0 (50 ∷ 53 ∷ 54 ∷ []) (Err fault.Range)
  pub zeros-lead : Answers false 8 0 (48 ∷ 48 ∷ 55 ∷ []) (Err fault.NotCanonical)
