-- The flow of blocks from the recordings to the store: its states and its events.
--   Flow, Event         the state, and what may happen
--   name_of_samples     the name of these samples of a gauge
--   hits                how many names name a sample
--   NamesCover, EndsAt  names without a gap; a name that ends there
--   IsAllowed, after    where an event may come, and what it does
--   run, AllAllowed     a list of events
--   IsStart             the state in which a run starts
use Rattle.std.specs.Prelude.{◌≡◌, ◌+◌, ◌%◌, ◌<◌, ◌≤◌, ◌&&◌, ℕ, ℤ, List, [], ◌∷◌, ◌++◌, length, take, drop, min, not, nat_lt, nat_le, ◌==◌, if◌then◌else◌, Bool}
use Rattle.std.specs.List.{filter}
use Rattle.segment.specs.declared.segment_rules.name.Name.{Name}
use Rattle.board.specs.declared.flow.TheConstants.{BLOCKS_PER_WINDOW}

pub record Flow : Type 0 where
  -- of each gauge the samples of its recording, how many of them are read and stored, and how many blocks this run fed
  pub samples : ℕ → List ℤ
  pub read : ℕ → ℕ
  pub stored : ℕ → ℕ
  pub fed : ℕ → ℕ
  -- what is on its way from a gauge to a worker
  pub rings : ℕ → ℕ → List Name
  -- what each worker has counted and nobody has placed
  pub counted : ℕ → List Name
  -- in order of arrival
  pub placed : List Name

pub data Event : Type 0 where
  Feed : (gauge : ℕ) → Event
  Count : (worker gauge : ℕ) → Event
  Deposit : (worker : ℕ) → Event
  Commit : (gauge to : ℕ) → Event
  Stop : (more : ℕ → List ℤ) → Event

abbrev pub name_of_samples : ℕ → ℕ → ℕ → Name
name_of_samples g from to = record { gauge = g; from = from; to = to }

-- the function with x at k
abbrev pub with_value : {A : Type 0} → (ℕ → A) → ℕ → A → ℕ → A
with_value f k x i = if i == k then x else f i

abbrev pub with_value_at : {A : Type 0} → (ℕ → ℕ → A) → ℕ → ℕ → A → ℕ → ℕ → A
with_value_at f g v x i j = if i == g then (if j == v then x else f i j) else f i j

-- a sample of a gauge is one that the name names
abbrev pub hits_of_name : ℕ → ℕ → Name → ℕ
hits_of_name g i n = if n.gauge == g then (if nat_le n.from i then (if nat_lt i n.to then 1 else 0) else 0) else 0

-- how many of the names name it
abbrev pub hits : ℕ → ℕ → List Name → ℕ
hits g i [] = 0
hits g i (n ∷ l) = hits_of_name g i n + hits g i l

pub data In (n : Name) : List Name → Type 0 where
  here : {l : List Name} → In n (n ∷ l)
  there : {m : Name} {l : List Name} → In n l → In n (m ∷ l)

-- the names of a gauge cover the samples between without a gap
abbrev pub NamesCover : ℕ → ℕ → ℕ → List Name → Type 0
NamesCover g low high l = (i : ℕ) → low ≤ i → i < high → 1 ≤ hits g i l

-- one of the names of the gauge ends there
pub record EndsAt (g e : ℕ) (l : List Name) : Type 0 where
  pub name : Name
  pub among : In name l
  pub gauge : name.gauge ≡ g
  pub to : name.to ≡ e

-- the names that are left where those of a gauge up to an end are taken out
abbrev pub is_left_over : ℕ → ℕ → Name → Bool
is_left_over g e n = not (n.gauge == g && nat_le n.to e)

module _ (block workers : ℕ) where
  -- the next block of a gauge, and the worker that gets it
  abbrev pub next : Flow → ℕ → Name
  next s g = name_of_samples g (s.read g) (min (s.read g + block) (length (s.samples g)))

  abbrev pub worker_of_next : Flow → ℕ → ℕ
  worker_of_next s g = (s.fed g % BLOCKS_PER_WINDOW) % workers

  abbrev pub IsAllowed : Flow → Event → Type 0
  IsAllowed s (Feed g) = s.read g < length (s.samples g)
  IsAllowed s (Count v g) = (v < workers) × (0 < length (s.rings g v))
  IsAllowed s (Deposit v) = (v < workers) × (0 < length (s.counted v))
  IsAllowed s (Commit g e) = (s.stored g < e) × EndsAt g e s.placed × NamesCover g (s.stored g) e s.placed
  IsAllowed s (Stop more) = Unit {0}

  abbrev pub after : Flow → Event → Flow
  after s (Feed g) = record {
    samples = s.samples;
    stored = s.stored;
    counted = s.counted;
    placed = s.placed;
    read = with_value s.read g (next s g).to;
    fed = with_value s.fed g (s.fed g + 1);
    rings = with_value_at s.rings g (worker_of_next s g) (s.rings g (worker_of_next s g) ++ next s g ∷ []);
  }
  after s (Count v g) = record {
    samples = s.samples;
    read = s.read;
    stored = s.stored;
    fed = s.fed;
    placed = s.placed;
    rings = with_value_at s.rings g v (drop 1 (s.rings g v));
    counted = with_value s.counted v (s.counted v ++ take 1 (s.rings g v));
  }
  after s (Deposit v) = record {
    samples = s.samples;
    read = s.read;
    stored = s.stored;
    fed = s.fed;
    rings = s.rings;
    counted = with_value s.counted v (drop 1 (s.counted v));
    placed = s.placed ++ take 1 (s.counted v);
  }
  after s (Commit g e) = record {
    samples = s.samples;
    read = s.read;
    fed = s.fed;
    rings = s.rings;
    counted = s.counted;
    stored = with_value s.stored g e;
    placed = filter (is_left_over g e) s.placed;
  }
  after s (Stop more) = record {
    samples = λ g. s.samples g ++ more g;
    read = s.stored;
    stored = s.stored;
    fed = λ g. 0;
    rings = λ g v. [];
    counted = λ v. [];
    placed = [];
  }

  -- a whole schedule, and that each of its events is allowed where it comes
  abbrev pub run : List Event → Flow → Flow
  run [] s = s
  run (e ∷ es) s = run es (after s e)

  abbrev pub AllAllowed : List Event → Flow → Type 0
  AllAllowed [] s = Unit {0}
  AllAllowed (e ∷ es) s = IsAllowed s e × AllAllowed es (after s e)

-- nothing is in a ring, counted or placed
pub record IsStart (s : Flow) : Type 0 where
  pub stored : (g : ℕ) → s.stored g ≤ length (s.samples g)
  pub read : (g : ℕ) → s.read g ≡ s.stored g
  pub fed : (g : ℕ) → s.fed g ≡ 0
  pub rings : (g v : ℕ) → s.rings g v ≡ []
  pub counted : (v : ℕ) → s.counted v ≡ []
  pub placed : s.placed ≡ []
