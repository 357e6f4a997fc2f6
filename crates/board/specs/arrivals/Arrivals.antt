-- The names that a round feeds, and in what order they may arrive.
--   Round              what each gauge had read before a round, and its recording with what is read in it
--   name_at, fed_to    the blocks of a round, and those of them that go to a worker
--   worker_of, through the worker of a name, and the names of a gauge that went through a worker
--   AreArrivals        each block of the round once, and those of one gauge through one worker in order
--   start, feeds, counts   a run that begins with the round, and a schedule that places a list
--   IsDone             nothing is unread, in a ring or counted
--   ArrivalsAreReached, ReachedAreArrivals, ArrivalsAscend    the laws
use Rattle.std.specs.Prelude.{◌≡◌, ◌+◌, ◌-◌, ◌*◌, ◌/◌, ◌%◌, ◌<◌, ◌≤◌, ◌&&◌, ℕ, zero, suc, ℤ, List, [], ◌∷◌, ◌++◌, length, min, nat_lt, ◌==◌, if◌then◌else◌}
use Rattle.std.specs.List.{filter}
use Rattle.segment.specs.declared.segment_rules.name.Name.{Name}
use Rattle.board.specs.block_pool.Units.{FilledValue}
use Rattle.board.specs.flow.Flow.{Flow, Event, name_of_samples, run, AllAllowed}
use Rattle.board.specs.flow.Flow.Event.{Feed, Count, Deposit}
use Rattle.board.specs.flow.Kept.{Each, NamesAscend}
use Rattle.board.specs.declared.flow.TheConstants.{BLOCKS_PER_WINDOW}

abbrev pub names_of : List FilledValue → List Name
names_of [] = []
names_of (u ∷ us) = u.name ∷ names_of us

pub record Round : Type 0 where
  -- of each gauge how many samples were read before the round
  pub at : ℕ → ℕ
  -- its recording, up to what is read in the round
  pub samples : ℕ → List ℤ

module _ (block workers : ℕ) (r : Round) where
  -- the k-th block of a gauge
  abbrev pub name_at : ℕ → ℕ → Name
  name_at g k = name_of_samples g (r.at g + k * block) (min (r.at g + k * block + block) (length (r.samples g)))

  -- of the first n blocks of a gauge those of a worker, in order
  abbrev pub fed_to : ℕ → ℕ → ℕ → List Name
  fed_to g v zero = []
  fed_to g v (suc k) = fed_to g v k
      ++ (if nat_lt (r.at g + k * block) (length (r.samples g)) && k % workers == v then name_at g k ∷ [] else [])

  abbrev pub worker_of : Name → ℕ
  worker_of n = ((n.from - r.at n.gauge) / block) % workers

  -- the names of a gauge that went through a worker
  abbrev pub through : ℕ → ℕ → List Name → List Name
  through g v l = filter (λ n. n.gauge == g && worker_of n == v) l

  pub record AreArrivals (gauges : ℕ) (l : List Name) : Type 0 where
    pub known : Each (λ n. n.gauge < gauges) l
    -- each block once, and in order
    pub through : (g v : ℕ) → g < gauges → v < workers → through g v l ≡ fed_to g v BLOCKS_PER_WINDOW

  -- a gauge is read from where it stood, at most as many blocks as a window has
  pub record IsRound (gauges : ℕ) : Type 0 where
    pub at : (g : ℕ) → r.at g ≤ length (r.samples g)
    pub few : (g : ℕ) → length (r.samples g) ≤ r.at g + BLOCKS_PER_WINDOW * block
    pub others : (g : ℕ) → gauges ≤ g → length (r.samples g) ≡ r.at g

  -- the run that begins with the round
  abbrev pub start : Flow
  start = record {
    samples = r.samples;
    read = r.at;
    stored = r.at;
    fed = λ g. 0;
    rings = λ g v. [];
    counted = λ v. [];
    placed = [];
  }

  -- first every Feed, gauge by gauge
  abbrev pub feeds_of : ℕ → ℕ → List Event
  feeds_of g zero = []
  feeds_of g (suc k) = feeds_of g k
      ++ (if nat_lt (r.at g + k * block) (length (r.samples g)) then Feed g ∷ [] else [])

  abbrev pub feeds : ℕ → List Event
  feeds zero = []
  feeds (suc g) = feeds g ++ feeds_of g BLOCKS_PER_WINDOW

  -- then for each name its Count and its Deposit
  abbrev pub counts : List Name → List Event
  counts [] = []
  counts (n ∷ l) = Count (worker_of n) n.gauge ∷ Deposit (worker_of n) ∷ counts l

-- nothing is stored or stopped in a round
pub data IsRoundEvent : Event → Type 0 where
  feed : {g : ℕ} → IsRoundEvent (Feed g)
  count : {v g : ℕ} → IsRoundEvent (Count v g)
  deposit : {v : ℕ} → IsRoundEvent (Deposit v)

pub data AreRoundEvents : List Event → Type 0 where
  none : AreRoundEvents []
  both : {e : Event} {es : List Event} → IsRoundEvent e → AreRoundEvents es → AreRoundEvents (e ∷ es)

pub record IsDone (gauges workers : ℕ) (s : Flow) : Type 0 where
  pub read : (g : ℕ) → g < gauges → s.read g ≡ length (s.samples g)
  pub rings : (g v : ℕ) → g < gauges → v < workers → s.rings g v ≡ []
  pub counted : (v : ℕ) → v < workers → s.counted v ≡ []

abbrev pub ArrivalsAreReached : Type 0
ArrivalsAreReached = (block workers gauges : ℕ) (r : Round) (l : List Name) → 0 < block → 0 < workers
    → IsRound block workers r gauges → AreArrivals block workers r gauges l
    → AllAllowed block workers (feeds block workers r gauges ++ counts block workers r l) (start block workers r)
    × ((run block workers (feeds block workers r gauges ++ counts block workers r l) (start block workers r)).placed ≡
    l)
    × IsDone gauges workers (run block workers (feeds block workers r gauges ++ counts block workers r l)
    (start block workers r))

abbrev pub ReachedAreArrivals : Type 0
ReachedAreArrivals = (block workers gauges : ℕ) (r : Round) (es : List Event) → 0 < block → 0 < workers
    → IsRound block workers r gauges → AreRoundEvents es → AllAllowed block workers es (start block workers r)
    → IsDone gauges workers (run block workers es (start block workers r))
    → AreArrivals block workers r gauges (run block workers es (start block workers r)).placed

-- the arrivals of one gauge through one worker, each behind the one before it
abbrev pub ArrivalsAscend : Type 0
ArrivalsAscend =
    (block workers gauges : ℕ) (r : Round) (l : List Name) → 0 < block → AreArrivals block workers r gauges l
    → (g v : ℕ) → g < gauges → v < workers → NamesAscend (through block workers r g v l)
