-- The bytes that a reader gives from here on, or that a writer holds, where they are known.
--   Tells     they are known at each moment
--   bytes_of  the known bytes, none where they are not known
use Rattle.std.specs.Prelude.{ℕ, List, [], Option, Some, None, IsSome}

abbrev pub Tells : {S : Type 0} → (S → Option (List ℕ)) → Type 0
Tells {S} known = (s : S) → IsSome (known s)

abbrev pub bytes_of : Option (List ℕ) → List ℕ
bytes_of None = []
bytes_of (Some bytes) = bytes
