-- The pace of a run by its course.
--   paced_by     a run of rounds keeps the pace of its course
--   seen_paced   and so does one of `watch` that then tells what was seen, and nothing else
use Rattle.std.proofs.Common.{◌≢◌, inl, inr, ℕ, List, ◌++◌, ◌∙◌, ap}
use Rattle.outside.specs.station.Station.{Image, Lines, MomentsSince}
use Rattle.outside.specs.declared.station.station.Station as station
use Rattle.outside.proofs.on_station.Moments.{continues, entails}
use Rattle.segment.specs.segment_rules.Parts.{PartsValue}
use Rattle.store_bytes.specs.store_head.Head.{HeadValue}
use Rattle.segment_store.specs.Held.{ends_of}
use Rattle.segment_store.specs.Moments.{StoreValue}
use Rattle.site_config.specs.declared.config.Config.{Config}
use Rattle.site_config.specs.Valid.{name_of}
use Rattle.status.specs.declared.status.Status.{Status}
use Rattle.status.specs.declared.status.Status.TheVariants.{DiskFault}
use Rattle.count_command.specs.declared.course.Course.{Course}
use Rattle.count_command.specs.declared.course.Course.TheVariants.{Watch}
use Rattle.count_command.specs.held_samples.Pace.{Paced, InPace, window_of}
use Rattle.count_command.specs.watching.Seen.{IsSeenLine, BehindTold, TellsOnlySeen}
use Rattle.count_command.specs.Pacing.{MayTellSeen, WithSeen, PacedBy, InPaceBy}
use Rattle.count_command.proofs.on_held_samples.Pace.{level_now, reads_now}

pub paced_by : (course : Course) (answer : Status) (c : Config) {head : HeadValue} {front : List PartsValue} (ends : List ℕ)
    {start now : ℕ} {past since : MomentsSince} {told told2 : Lines} {seen : Image} {leaves : Image → Type 0} {s : StoreValue}
    → Paced (name_of c) (window_of c) head front start past told now since told2 seen leaves s (answer ≢ DiskFault)
    → PacedBy course answer c head front ends start past told now since told2 leaves
paced_by course answer c {head} {front} ends {start} {now} {past} {since} {told} x = record {
  run = record {
    run = entails start now past since (InPaceBy course answer c head front ends told) (InPace (name_of c) (window_of c) head front told)
        x.run.run (λ lines f is. inl is);
    kept = λ f has. inl (x.run.kept f has);
  };
  level = λ d f has. inl (level_now (x.level d) f has);
}

pub seen_paced : {K : Type 0} (v : station.Ghosts K) (answer : Status) → MayTellSeen answer Watch → (c : Config) {head : HeadValue}
    {front : List PartsValue} (ends : List ℕ) {start : ℕ} {past : MomentsSince} {told : Lines} {old new : K} (s : StoreValue)
    → TellsOnlySeen v (IsSeenLine c ends (ends_of s.held)) old new
    → Paced (name_of c) (window_of c) head front start past told (v.clock old) (v.moments old) (v.told old) (v.seen old) (v.leaves old) s
    (Unit {0}) → PacedBy Watch answer c head front ends start past told (v.clock new) (v.moments new) (v.told new) (v.leaves new)
seen_paced v answer may c {head} {front} ends {start} {past} {told} {old} {new} s on x =
    let l = x.level tt in
    let kind = IsSeenLine c ends (ends_of s.held) in
    let here : (lines : Lines) (f : Image) → BehindTold kind (v.told old) (v.leaves old) lines f →
    WithSeen c head front ends told lines f = λ lines f b. record {
      more = l.more;
      seen = b.seen;
      held = ends_of s.held;
      are = b.are ∙ ap (λ (k : Lines). k ++ b.seen) l.are;
      reads = reads_now s _ _ _ l.on head l.same f b.has;
      each = b.each;
    } in
    let now : (f : Image) → v.leaves new f → WithSeen c head front ends told (v.told new) f = λ f has.
    here (v.told new) f (record { seen = on.new; are = on.grew; each = on.each; has = on.none_new f has }) in
    record {
      run = record {
        run = continues start (v.clock old) (v.clock new) past (v.moments old) (v.moments new)
            (InPaceBy Watch answer c head front ends told) (BehindTold kind (v.told old) (v.leaves old))
            (entails start (v.clock old) past (v.moments old) (InPaceBy Watch answer c head front ends told)
            (InPace (name_of c) (window_of c) head front told) x.run.run (λ lines f is. inl is)) on.run
            (λ lines f b. inr (may, here lines f b));
        kept = λ f has. inr (may, now f has);
      };
      level = λ e f has. inr (may, now f has);
    }
