-- What a command does with the store, by its words.
--   access_of  the first word decides: `init` makes the store, `count` and `watch` write it, every other reads it
use Rattle.std.specs.Prelude.{ℕ, ◌||◌, List, [], ◌∷◌, if◌then◌else◌, codes}
use Rattle.std.specs.Str.{bytes_eq}
use Rattle.adapters.specs.declared.store_access.StoreAccess.{StoreAccess}
use Rattle.adapters.specs.declared.store_access.StoreAccess.TheVariants.{Make, Write, Read}

abbrev pub access_of : List (List ℕ) → StoreAccess
access_of [] = Read
access_of (first ∷ rest) =
    if bytes_eq first (codes "init") then Make
    else if bytes_eq first (codes "count") || bytes_eq first (codes "watch") then Write
    else Read
