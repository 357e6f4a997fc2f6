-- What every list of events keeps of the flow of blocks.
--   Each, NamesAscend  a fact of each item; each name begins behind the one before it
--   everywhere         how many names in rings, counted and placed lists name a sample
--   IsBlock, IsDealt   a whole block of its gauge; and what the number of blocks fed tells of its ring
--   MeetsInvariant     the invariant
--   IsThrough          nothing of a gauge is on its way
--   EachEventKeeps, EachScheduleKeeps, StoredNeverFalls, AllIsStored    the laws
use Rattle.std.specs.Prelude.{◌≡◌, ◌≢◌, ◌⊎◌, ◌+◌, ◌*◌, ◌%◌, ◌<◌, ◌≤◌, ℕ, List, [], ◌∷◌, length, min, nat_lt, nat_le, if◌then◌else◌, zero, suc}
use Rattle.segment.specs.declared.segment_rules.name.Name.{Name}
use Rattle.board.specs.flow.Flow.{Flow, Event, IsAllowed, after, run, AllAllowed, IsStart, hits}
use Rattle.board.specs.flow.Flow.Event.{Commit}
use Rattle.board.specs.declared.flow.TheConstants.{BLOCKS_PER_WINDOW}

pub data Each {A : Type 0} (P : A → Type 0) : List A → Type 0 where
  none : Each P []
  both : {x : A} {l : List A} → P x → Each P l → Each P (x ∷ l)

-- each name begins behind the one before it
pub data NamesAscend : List Name → Type 0 where
  empty : NamesAscend []
  step : {n : Name} {l : List Name} → Each (λ m. n.from < m.from) l → NamesAscend l → NamesAscend (n ∷ l)

-- the sum over the workers
abbrev pub over : ℕ → (ℕ → ℕ) → ℕ
over zero f = 0
over (suc n) f = f n + over n f

-- 1 for a number between the two
abbrev pub between : ℕ → ℕ → ℕ → ℕ
between low high i = if nat_le low i then (if nat_lt i high then 1 else 0) else 0

-- how many names in rings, counted and placed lists name the sample
abbrev pub everywhere : ℕ → Flow → ℕ → ℕ → ℕ
everywhere workers s g i = over workers (λ v. hits g i (s.rings g v) + hits g i (s.counted v)) + hits g i s.placed

-- a whole block of a gauge, counted from the last stored sample; only the last of the recording may be shorter
pub record IsBlock (block : ℕ) (s : Flow) (g : ℕ) (n : Name) : Type 0 where
  pub gauge : n.gauge ≡ g
  pub number : ℕ
  pub from : n.from ≡ s.stored g + number * block
  pub to : n.to ≡ min (n.from + block) (length (s.samples g))
  pub some : n.from < n.to
  pub read : n.to ≤ s.read g

-- the block of a run that began at `start` with this number went to worker v
pub record IsDealt (block workers start blocks_fed v : ℕ) (n : Name) : Type 0 where
  pub number : ℕ
  pub from : n.from ≡ start + number * block
  pub before : number < blocks_fed
  pub worker : (number % BLOCKS_PER_WINDOW) % workers ≡ v

-- where the run of a gauge began, how far its blocks lead, and which of them lie in which ring
pub record IsLine (block workers : ℕ) (s : Flow) (g : ℕ) : Type 0 where
  pub start : ℕ
  pub stored : start ≤ s.stored g
  pub read : s.read g ≡ min (start + s.fed g * block) (length (s.samples g))
  pub rings : (v : ℕ) → v < workers → Each (IsDealt block workers start (s.fed g) v) (s.rings g v)

pub record MeetsInvariant (block workers : ℕ) (s : Flow) : Type 0 where
  -- the names of a gauge cover the samples from the last stored to the last read, once each
  pub once : (g i : ℕ) → everywhere workers s g i ≡ between (s.stored g) (s.read g) i
  pub rings : (g v : ℕ) → v < workers → Each (IsBlock block s g) (s.rings g v)
  pub ascend : (g v : ℕ) → NamesAscend (s.rings g v)
  pub counted : (v : ℕ) → v < workers → Each (λ n. IsBlock block s n.gauge n) (s.counted v)
  pub placed : Each (λ n. IsBlock block s n.gauge n) s.placed
  pub stored : (g : ℕ) → s.stored g ≤ s.read g
  pub read : (g : ℕ) → s.read g ≤ length (s.samples g)
  pub whole : (g : ℕ) → (s.read g ≡ length (s.samples g)) ⊎ ((k : ℕ) × (s.read g ≡ s.stored g + k * block))
  -- the number of blocks fed tells the ring of the next name
  pub line : (g : ℕ) → IsLine block workers s g

-- nothing of a gauge is unread, in a ring or counted
pub record IsThrough (workers : ℕ) (s : Flow) (g : ℕ) : Type 0 where
  pub read : s.read g ≡ length (s.samples g)
  pub rings : (v : ℕ) → v < workers → s.rings g v ≡ []
  pub counted : (v : ℕ) → v < workers → Each (λ n. n.gauge ≢ g) (s.counted v)

abbrev pub EachEventKeeps : Type 0
EachEventKeeps = (block workers : ℕ) (s : Flow) (e : Event) → 0 < block → 0 < workers → MeetsInvariant block workers s →
    IsAllowed block workers s e
    → MeetsInvariant block workers (after block workers s e)

abbrev pub EachScheduleKeeps : Type 0
EachScheduleKeeps = (block workers : ℕ) (es : List Event) (s : Flow) → 0 < block → 0 < workers → IsStart s →
    AllAllowed block workers es s
    → MeetsInvariant block workers (run block workers es s)

abbrev pub StoredNeverFalls : Type 0
StoredNeverFalls = (block workers : ℕ) (es : List Event) (s : Flow) (g : ℕ) → AllAllowed block workers es s
    → s.stored g ≤ (run block workers es s).stored g

abbrev pub AllIsStored : Type 0
AllIsStored = (block workers : ℕ) (s : Flow) (g : ℕ) → MeetsInvariant block workers s → IsThrough workers s g →
    (s.stored g ≡ length (s.samples g))
    ⊎ IsAllowed block workers s (Commit g (length (s.samples g)))
