-- The held segments stand for the samples that are held.
use Rattle.std.proofs.Common.{◌≡◌, ◌<◌, ℕ, ℤ, List, length, take, get_or, sym, subst}
use Rattle.outside.specs.station.Station.{Image}
use Rattle.calibration.specs.declared.setup.Setup.{Setup}
use Rattle.segment.specs.segment_rules.Parts.{PartsValue}
use Rattle.segment.specs.Segment.{SegmentValue, Stands}
use Rattle.segment_store.specs.Held.{ends_of}
use Rattle.segment_store.specs.Holds.{AllStand, gain_at, held_of}
use Rattle.segment_store.specs.Moments.{IsOn, StoreValue}
use Rattle.segment_store.proofs.HeldStand.{held_stand}
use Rattle.site_config.specs.declared.config.Config.{Config}
use Rattle.report_command.specs.repeat_command.Printing.{AllHeldStand}

pub all_held_stand : (s : StoreValue) (bodies : List PartsValue) (seen : Image) (leaves : Image → Type 0) → IsOn s bodies seen leaves
    → (c : Config) (w : ℕ → List ℤ) (n : List ℕ) → s.head.setup ≡ c.setup → ends_of s.held ≡ n → AllStand c.setup w bodies
    → AllHeldStand c s.held (held_of w n)
all_held_stand s bodies seen leaves on c w n setup ends all g d lt =
    subst (λ (x : Setup). Stands (get_or s.held g d) (gain_at x g) (take (get_or n g 0) (w g))) setup
    (subst (λ (e : List ℕ). Stands (get_or s.held g d) (gain_at s.head.setup g) (take (get_or e g 0) (w g))) ends
    (held_stand s bodies seen leaves on w (subst (λ (x : Setup). AllStand x w bodies) (sym setup) all) g d lt))

-- the one that was asked for
pub held_stands : (c : Config) (held : List SegmentValue) (w : ℕ → List ℤ) (g : ℕ) (segment : SegmentValue) → AllHeldStand c held w
    → g < length held → segment ≡ get_or held g segment → Stands segment (gain_at c.setup g) (w g)
held_stands c held w g segment all lt is = subst (λ (v : SegmentValue). Stands v (gain_at c.setup g) (w g)) (sym is) (all g segment lt)
