-- What is proved of the library, demand by demand; each claim is proved in the file of the same name under proofs/.
-- 1. Every call ends and stays inside lent memory, whatever it is given; what cannot be done is refused by document 01's numbers; a refused call changes no lent byte; NO_ROOM exactly when no earlier check refuses and the text is longer than the buffer.
-- 2. Every text equals what Rust writes, by definitions from document 01 and the std::fmt guide; reading a plain text gives back its value; a text that no value of the type has is refused.
-- 3. Exponent form: for a magnitude n of e+1 digits and precision p, a nonzero lead digit, exactly p fraction digits; it denotes n if p is at least e; else a multiple D of u = 10^(e-p) with twice the distance to n at most u, D/u even on a tie; and no exponent text with p fraction digits denotes a number nearer n.
-- Then the starred trials, and one answer to each promise.
pub mod Demand1
pub mod Demand2
pub mod Demand3
pub mod Trials
pub mod OneAnswer
