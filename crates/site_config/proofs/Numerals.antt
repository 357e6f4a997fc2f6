-- The bytes of a configuration, in numbers.
--   long_configuration, short_configuration   more than it may have, and no more
use Rattle.std.proofs.Common.{◌≡◌, ◌<◌, ◌≤◌, ℕ, Bool, List, length, ap}
use Rattle.std.specs.Prelude.{if◌then◌else◌, Err}
use Rattle.std.proofs.lemmas.Bool.{lt-ltb, le-ltb}
use Rattle.site_config.specs.Configuration.{configuration_in, config_of_bytes}
use Rattle.site_config.specs.declared.fault.ConfigFault.TheVariants.{TooLong}

pub long_configuration : (bytes : List ℕ) → 65536 < length bytes → config_of_bytes bytes ≡ Err TooLong
unfolding config_of_bytes
long_configuration bytes long =
    ap (λ (b : Bool). if b then Err TooLong else configuration_in bytes) (lt-ltb 65536 (length bytes) long)

pub short_configuration : (bytes : List ℕ) → length bytes ≤ 65536 → config_of_bytes bytes ≡ configuration_in bytes
unfolding config_of_bytes
short_configuration bytes short =
    ap (λ (b : Bool). if b then Err TooLong else configuration_in bytes) (le-ltb 65536 (length bytes) short)
