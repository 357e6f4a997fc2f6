-- An image that reads, from a gate on.
--   StartsAt     from that place on, open gates with these bodies, then a gate that is closed
--   IsFound      up to a closed gate
--   HasPassed    from one gate up to another, open gates with these bodies
--   NoDamage     a walk did not stop at a damaged body
use Rattle.std.specs.Prelude.{◌≡◌, ◌≢◌, ◌≤◌, ℕ, List, ◌∷◌, ◌++◌, length, ◌+◌, drop}
use Rattle.outside.specs.station.Station.{Image}
use Rattle.calibration.specs.declared.setup.Setup.{Setup}
use Rattle.segment.specs.segment_rules.Parts.{PartsValue}
use Rattle.store_bytes.specs.declared.segment_bytes.layout.Layout.{Layout}
use Rattle.store_bytes.specs.segment_bytes.Grammar.{body_of}
use Rattle.segment_store.specs.declared.damage.Stop.{Stop}
use Rattle.segment_store.specs.declared.damage.Stop.TheVariants as stops
use Rattle.store_bytes.specs.store_head.Head.{IsSetup}
use Rattle.segment_store.specs.Image.{open_bodies, Tiles, IsBody}

pub record StartsAt (l : Layout) (setup : Setup) (limit : ℕ) (image : Image) (at : ℕ) (ends : List ℕ)
    (bodies : List PartsValue)
    (last : List ℕ) (gate : ℕ) (front rest : List ℕ) : Type 0 where
  pub is_setup : IsSetup setup
  pub whole : image ≡ front ++ (open_bodies l bodies ++ gate ∷ rest)
  pub here : at ≡ length front
  pub closed : gate ≢ 1
  pub tiles : Tiles setup ends bodies last
  pub within : (p : PartsValue) → IsBody setup p → length (body_of l p) ≤ limit

pub record IsFound (l : Layout) (setup : Setup) (image : Image) (at : ℕ) (ends : List ℕ) (place : ℕ) (last : List ℕ)
    (bodies : List PartsValue) : Type 0 where
  pub gate : ℕ
  pub rest : List ℕ
  pub split : drop at image ≡ open_bodies l bodies ++ gate ∷ rest
  pub closed : gate ≢ 1
  pub tiles : Tiles setup ends bodies last
  pub place_is : place ≡ at + length (open_bodies l bodies)

pub record HasPassed (l : Layout) (setup : Setup) (image : Image) (start : ℕ) (ends : List ℕ) (at : ℕ) (last : List ℕ)
    (bodies : List PartsValue) : Type 0 where
  pub split : drop start image ≡ open_bodies l bodies ++ drop at image
  pub tiles : Tiles setup ends bodies last
  pub place_is : at ≡ start + length (open_bodies l bodies)

abbrev pub NoDamage : Stop → Type 0
NoDamage stops.Memory = Unit {0}
NoDamage stops.Disk = Unit {0}
NoDamage (stops.Damaged d) = ⊥
