-- The table that bytes spell, or none.
use Rattle.std.proofs.Common.{◌≡◌, ℕ, Bool, true, false, List, Some, None, Ok, Err, refl}
use Rattle.std.specs.Prelude.{IsUtf8}
use Rattle.std.specs.Str.{is_utf8}
use Rattle.std.proofs.lemmas.Str.{IsUtf8-from_is_utf8, is_utf8-from_IsUtf8}
use Rattle.toml.specs.Data.{Members}
use Rattle.toml.specs.Parse.{parse_document}
use Rattle.site_config.specs.declared.fault.ConfigFault.TheVariants.{NotToml}
use Rattle.site_config.specs.Configuration.{document}

pub document-some : (bytes : List ℕ) (ms : Members) → IsUtf8 bytes → parse_document bytes ≡ Some ms → document bytes ≡ Ok ms
unfolding document
document-some bytes ms text e = rw (is_utf8-from_IsUtf8 bytes text, e) refl

pub document-none : (bytes : List ℕ) → (IsUtf8 bytes → parse_document bytes ≡ None) → document bytes ≡ Err NotToml
unfolding document
document-none bytes none = go (is_utf8 bytes) refl
  where
    go : (b : Bool) → is_utf8 bytes ≡ b → document bytes ≡ Err NotToml
    go true e = rw (e, none (IsUtf8-from_is_utf8 bytes e)) refl
    go false e = rw e refl
