-- The line that tells why a call of the system failed.
--   shown_byte   a question mark for a control byte, which could end the line
--   reason_line  `monitor: NAME: REASON` and a newline
use Rattle.std.specs.Prelude.{ℕ, List, ◌++◌, nat_lt, ◌==◌, ◌||◌, if◌then◌else◌, map, codes}

abbrev pub shown_byte : ℕ → ℕ
shown_byte b = if nat_lt b 32 || b == 127 then 63 else b

abbrev pub reason_line : List ℕ → List ℕ → List ℕ
reason_line name reason = codes "monitor: " ++ (map shown_byte name ++ (codes ": " ++ (reason ++ codes "\n")))
